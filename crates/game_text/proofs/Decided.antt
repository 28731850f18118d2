-- Each text is accepted or refused.
use Rattle.std.proofs.Common.{◌≡◌, ℕ, ◌+◌, List, [], ◌∷◌, Result, Ok, Err, refl, subst, inl, inr, ◌⊎◌}
use Rattle.text_words.specs.Lines.{Line, Word}
use Rattle.game_text.specs.Plain.{IsWordless, after_lines, lines_of, number_in, open_words}
use Rattle.game_model.specs.Game.{GameData}
use Rattle.game_text.specs.declared.fault.Kind.{Kind}
use Rattle.game_text.specs.declared.fault.Kind.TheVariants as kinds
use Rattle.game_text.specs.Text.{IsTextOf}
use Rattle.game_text.specs.Entries.{Entry, Version, Size, Total, Discount, First, Step, Out, End, entry_of}
use Rattle.game_text.specs.Reading.{IsUnfinished}
use Rattle.game_text.specs.Steps.{Reads, ReadsAll, Halts, Stops, StopsWhole, line_at}
use Rattle.game_text.proofs.Reading.{reads_none, reads_more}
use Rattle.game_text.proofs.Accept.{lines_are_texts}

abbrev Accepted : List Line → Type 0
Accepted lines = (count : ℕ) × (entries : List Entry) × (rest : List Line) × ReadsAll lines count entries rest

abbrev Refused : List Line → Type 0
Refused lines = (number : ℕ) × (kind : Kind) × Halts lines number kind

ended_or_not : (entries : List Entry) → ((b : List Entry) × (entries ≡ End ∷ b)) ⊎ IsUnfinished entries
ended_or_not [] = inr tt
ended_or_not (Version ∷ b) = inr tt
ended_or_not (Size s a c o ∷ b) = inr tt
ended_or_not (Total t ∷ b) = inr tt
ended_or_not (Discount p q ∷ b) = inr tt
ended_or_not (First w ∷ b) = inr tt
ended_or_not (Step s a c r ∷ b) = inr tt
ended_or_not (Out l ∷ b) = inr tt
ended_or_not (End ∷ b) = inl (b, refl)

no_line : (entries : List Entry) → line_at entries [] ≡ Err kinds.Missing
unfolding line_at
no_line entries = refl

line_fails : (entries : List Entry) (line : Line) (rest : List Line) (kind : Kind) → entry_of entries line ≡ Err kind → line_at entries (line ∷ rest) ≡ Err kind
unfolding line_at
line_fails entries line rest kind e = rw e refl

line_says : (entries : List Entry) (line : Line) (rest : List Line) (entry : Entry) → entry_of entries line ≡ Ok entry → line_at entries (line ∷ rest) ≡ Ok (entry, rest)
unfolding line_at
line_says entries line rest entry e = rw e refl

accepted_at : (lines : List Line) (count : ℕ) (entries : List Entry) (rest : List Line) → Reads lines count entries rest → (b : List Entry) → entries ≡ End ∷ b → Accepted lines
accepted_at lines count entries rest reads b e = (count, b, rest, subst (λ (es : List Entry). Reads lines count es rest) e reads)

refused_at : (lines : List Line) (count : ℕ) (entries : List Entry) (rest : List Line) (kind : Kind) → Reads lines count entries rest → IsUnfinished entries → line_at entries rest ≡ Err kind → Refused lines
refused_at lines count entries rest kind reads due e = (count + 1, kind, (count, entries, rest, refl, reads, due, e))

-- the next line is refused, or the reading goes on
goes : (lines : List Line) (line : Line) (rest : List Line) (count : ℕ) (entries : List Entry) → Reads lines count entries (line ∷ rest) → IsUnfinished entries
    → ((entry : Entry) → Reads lines (count + 1) (entry ∷ entries) rest → Accepted lines ⊎ Refused lines) → (r : Result Entry Kind) → entry_of entries line ≡ r → Accepted lines ⊎ Refused lines
goes lines line rest count entries reads due next (Ok entry) e = next entry (reads_more lines count entries (line ∷ rest) rest entry reads (line_says entries line rest entry e))
goes lines line rest count entries reads due next (Err kind) e = inr (refused_at lines count entries (line ∷ rest) kind reads due (line_fails entries line rest kind e))

decided_from : (lines rest : List Line) (count : ℕ) (entries : List Entry) → Reads lines count entries rest → Accepted lines ⊎ Refused lines
decided_from lines [] count entries reads = elim (ended_or_not entries) [
  | inl p ↦ inl (accepted_at lines count entries [] reads p.0 p.1)
  | inr due ↦ inr (refused_at lines count entries [] kinds.Missing reads due (no_line entries))
]
decided_from lines (line ∷ rest) count entries reads = elim (ended_or_not entries) [
  | inl p ↦ inl (accepted_at lines count entries (line ∷ rest) reads p.0 p.1)
  | inr due ↦ goes lines line rest count entries reads due (λ entry more. decided_from lines rest (count + 1) (entry ∷ entries) more) (entry_of entries line) refl
]

some_words : (word : Word) (words : Line) → word ∷ words ≡ [] → ⊥
some_words word words e = cc

some_lines : (line : Line) (lines : List Line) → line ∷ lines ≡ [] → ⊥
some_lines line lines e = cc

none_or_some : (lines : List Line) (words : Line) → ((lines ≡ []) × (words ≡ [])) ⊎ ((lines ≡ []) × (words ≡ []) → ⊥)
none_or_some [] [] = inl (refl, refl)
none_or_some [] (word ∷ words) = inr (λ p. some_words word words p.1)
none_or_some (line ∷ lines) words = inr (λ p. some_lines line lines p.0)

-- the bytes have words or have none
words_or_none : (text : List ℕ) → IsWordless text ⊎ (IsWordless text → ⊥)
words_or_none text = none_or_some (lines_of text) (open_words text)

pub decided : (text : List ℕ) → ((g : GameData) × (rest : List ℕ) × IsTextOf g text rest) ⊎ ((number : ℕ) × (kind : Kind) × Stops text number kind)
decided text = elim (decided_from (lines_of text) (lines_of text) 0 [] (reads_none (lines_of text))) [
  | inl a ↦ let p = lines_are_texts text a.0 a.1 a.2 a.3 in inl (p.0, after_lines a.0 text, p.1)
  | inr r ↦ inr (number_in r.0 text, r.1, (r.0, r.2, refl))
]

whole : (text : List ℕ) (a : Accepted (lines_of text)) → IsWordless (after_lines a.0 text) ⊎ (IsWordless (after_lines a.0 text) → ⊥)
    → ((g : GameData) × (rest : List ℕ) × IsTextOf g text rest × IsWordless rest) ⊎ ((number : ℕ) × (kind : Kind) × StopsWhole text number kind)
whole text a (inl none) = let p = lines_are_texts text a.0 a.1 a.2 a.3 in inl (p.0, after_lines a.0 text, p.1, none)
whole text a (inr some) = inr (number_in (a.0 + 1) text, kinds.Trailing, inr (a.0, a.1, a.2, a.3, some, refl, refl))

pub decided_whole : (text : List ℕ) → ((g : GameData) × (rest : List ℕ) × IsTextOf g text rest × IsWordless rest) ⊎ ((number : ℕ) × (kind : Kind) × StopsWhole text number kind)
decided_whole text = elim (decided_from (lines_of text) (lines_of text) 0 [] (reads_none (lines_of text))) [
  | inl a ↦ whole text a (words_or_none (after_lines a.0 text))
  | inr r ↦ inr (number_in r.0 text, r.1, inl (r.0, r.2, refl))
]
