-- A text of a game that is cut before its last line is whole is refused at the line in which it is cut.
use Rattle.std.proofs.Common.{◌≡◌, ℕ, ◌+◌, ◌-◌, ◌<◌, Bool, true, false, cond, List, [], ◌∷◌, ◌++◌, reverse, length, map, take, drop, ℤ, inl, inr, refl, sym, ap, subst, ◌∙◌, arith, append_assoc, append-nil}
use Rattle.std.specs.Prelude.{codes, slice_index}
use Rattle.std.specs.List.{filter}
use Rattle.std.proofs.Math.Seq.{take-append-add}
use Rattle.std.proofs.lemmas.Bool.{cases_lt}
use Rattle.std.proofs.lemmas.List.{get_or_past, length-map, length-reverse, reverse-append, reverse-reverse, take-append-drop, take-append-le}
use Rattle.std.proofs.lemmas.List.Splits.{length-slice_split}
use Rattle.std.proofs.lemmas.List.Sums.{length-filter}
use mathlib.Core.List.{reverse-cons}
use Rattle.text_words.specs.Lines.{Line, Word}
use Rattle.text_words.specs.Lines.{lines_of as plain_lines}
use Rattle.text_words.proofs.Chains.{first_word}
use Rattle.text_words.proofs.Whole.{cons_is}
use Rattle.game_model.specs.declared.parts.Shape.{Shape}
use Rattle.game_model.specs.declared.parts.Landing.{Landing}
use Rattle.game_model.specs.Game.{GameData}
use Rattle.game_text.specs.declared.fault.Kind.TheVariants as kinds
use Rattle.game_text.specs.Cuts.{IsBeforeEnd, IsCutBeforeEnd, IsMissing}
use Rattle.game_text.specs.Due.{Form, VersionLine, SizeLine, TotalLine, DiscountLine, FirstLine, StepLine, OutLine, EndLine, entry_in, name_of}
use Rattle.game_text.specs.Entries.{Entry, End}
use Rattle.game_text.specs.Plain.{completed, ends_open, is_end, last_piece, lines_of, number_in, open_words, pieces_of, worded_in, words_at, words_in as words_between, Worded}
use Rattle.game_text.specs.Reading.{ArePassed, IsUnfinished, Passes, RefusesText, RefusesWhole}
use Rattle.game_text.specs.Text.{IsTextOf, canonical_text, scaled, text_of}
use Rattle.game_text.proofs.Accept.{back_length, entries_of, plain_back}
use Rattle.game_text.proofs.Bytes.{whole_bytes}
use Rattle.game_text.proofs.CutWords.{e_some, end_e, front_in, no_end, short_lacks}
use Rattle.game_text.proofs.Parted.{is_feed}
use Rattle.game_text.proofs.Refusals.{told_whole, whole_end}
use Rattle.game_text.proofs.Ruled.{form_due, say_passed}
use Rattle.game_text.proofs.Runs.{outs, run_say, spelled, step_of}
use Rattle.game_text.proofs.Said.{words_in}
use Rattle.game_text.proofs.Spells.{end_run, game_again, rewards_back, rows_back, whole_back}

-- ---- passed lines behind which a line is due

abbrev Standing : List Line → Type 0
Standing lines = (es : List Entry) × ArePassed (reverse lines) es × IsUnfinished es

abbrev Passed : List Line → Type 0
Passed lines = (es : List Entry) × ArePassed lines es × IsUnfinished es

earlier : (later lines : List Line) (es : List Entry) → IsUnfinished es → ArePassed (later ++ lines) es → Passed lines
earlier [] lines es due p = (es, p, due)
earlier (line ∷ later) lines [] due p = absurd p
earlier (line ∷ later) lines (e ∷ es) due p = earlier later lines es (form_due es p.0.0.0 p.0.0.3.0) p.1

standing_front : (lines more : List Line) → Standing (lines ++ more) → Standing lines
standing_front lines more s = earlier (reverse more) (reverse lines) s.0 s.2 (subst (λ (ls : List Line). ArePassed ls s.0) (reverse-append lines more) s.1)

-- a line that begins with the letter of `end` says that the text ends
end_form : (form : Form) (word : Word) (ns : List ℤ) (e : Entry) (es : List Entry) → 101 ∷ word ≡ name_of form → e ≡ entry_in form ns → IsUnfinished (e ∷ es) → ⊥
end_form VersionLine word ns e es name says due = let q : 101 ≡ 111 = ap (λ (w : List ℕ). slice_index w 0) name in omega (arith, q)
end_form SizeLine word ns e es name says due = let q : 101 ≡ 115 = ap (λ (w : List ℕ). slice_index w 0) name in omega (arith, q)
end_form TotalLine word ns e es name says due = let q : 101 ≡ 116 = ap (λ (w : List ℕ). slice_index w 0) name in omega (arith, q)
end_form DiscountLine word ns e es name says due = let q : 101 ≡ 100 = ap (λ (w : List ℕ). slice_index w 0) name in omega (arith, q)
end_form FirstLine word ns e es name says due = let q : 101 ≡ 102 = ap (λ (w : List ℕ). slice_index w 0) name in omega (arith, q)
end_form StepLine word ns e es name says due = let q : 101 ≡ 115 = ap (λ (w : List ℕ). slice_index w 0) name in omega (arith, q)
end_form OutLine word ns e es name says due = let q : 101 ≡ 111 = ap (λ (w : List ℕ). slice_index w 0) name in omega (arith, q)
end_form EndLine word ns e es name says due = subst (λ (x : Entry). IsUnfinished (x ∷ es)) says due

not_last : (word : Word) (words : Line) (lines : List Line) (es : List Entry) → ArePassed (((101 ∷ word) ∷ words) ∷ lines) es → IsUnfinished es → ⊥
not_last word words lines [] p due = p
not_last word words lines (e ∷ es) p due =
    let says = p.0.0 in
    end_form says.0 word says.2 e es (first_word (101 ∷ word) (name_of says.0) words says.1 says.3.1.0) says.5 due

not_standing : (word : Word) (words : Line) (lines more : List Line) → Standing (lines ++ ((101 ∷ word) ∷ words) ∷ more) → ⊥
not_standing word words lines more s =
    let line : Line = (101 ∷ word) ∷ words in
    let t = standing_front (lines ++ line ∷ []) more (subst Standing (sym (append_assoc lines (line ∷ []) more)) s) in
    not_last word words (reverse lines) t.0 (subst (λ (ls : List Line). ArePassed ls t.0) (reverse-append lines (line ∷ [])) t.1) t.2

-- ---- the lines of a text of a game

record Ended (g : GameData) (text : List ℕ) : Type 0 where
  entries : List Entry
  after : List Line
  lines : lines_of text ≡ reverse (map words_in entries) ++ after
  passed : ArePassed (map words_in entries) entries
  due : IsUnfinished entries
  count : length (map words_in entries) + 1 ≡ length (plain_lines (canonical_text g))

outs_length : (row : List Landing) (a b : List Entry) → length a ≡ length b → length (outs row a) ≡ length (outs row b)
outs_length [] a b e = e
outs_length (l ∷ row) a b e = omega (arith, outs_length row a b e)

spelled_length : (shape : Shape) (v w rs : List ℤ) (rows : List (List Landing)) → length (spelled shape v rs rows) ≡ length (spelled shape w rs rows)
spelled_length shape v w [] [] = refl
spelled_length shape v w [] (row ∷ rows) = refl
spelled_length shape v w (r ∷ rs) [] = refl
spelled_length shape v w (r ∷ rs) (row ∷ rows) =
    let less = spelled_length shape v w rs rows in
    outs_length row (step_of shape (length rs) r ∷ spelled shape v rs rows) (step_of shape (length rs) r ∷ spelled shape w rs rows) (omega (arith, less))

ended : (g : GameData) (text rest : List ℕ) → IsTextOf g text rest → Ended g text
ended g text rest t =
    let first = scaled t.times g.first in
    let whole = whole_back g t.game in
    let bytes = λ (weights : List ℤ). whole_bytes g.shape g.first weights (rewards_back g) (rows_back g) whole.good whole.count ∙ ap (λ (x : GameData). text_of x weights) (game_again g) in
    let entries = entries_of g first in
    let printed = entries_of g g.first in
    let run = end_run g.shape first (rewards_back g) (rows_back g) t.game.shape t.first whole in
    let once = end_run g.shape g.first (rewards_back g) (rows_back g) t.game.shape t.game.first whole in
    let passed = say_passed (map words_in (End ∷ entries)) (End ∷ entries) (run_say (End ∷ entries) run) in
    let rows : length (plain_lines (canonical_text g)) ≡ length (map words_in (End ∷ printed)) = ap (λ (p : List ℕ). length (plain_lines p)) (sym (bytes g.first)) ∙ back_length (End ∷ printed) once in
    record {
      entries = entries;
      after = words_in End ∷ t.same.after;
      lines =
          t.same.lines
          ∙ ap (λ (p : List ℕ). plain_lines p ++ t.same.after) (sym (bytes first))
          ∙ ap (λ (ls : List Line). ls ++ t.same.after) (plain_back (End ∷ entries) run ∙ reverse-cons (words_in End) (map words_in entries))
          ∙ append_assoc (reverse (map words_in entries)) (words_in End ∷ []) t.same.after;
      passed = passed.1;
      due = form_due entries passed.0.0.0 passed.0.0.3.0;
      count = omega (arith, rows, length-map entries words_in, length-map printed words_in, spelled_length g.shape first g.first (rewards_back g) (rows_back g));
    }

same_front : (xs ys us vs : List Line) → xs ++ ys ≡ us ++ vs → length xs ≡ length us → xs ≡ us
same_front [] ys [] vs e same = refl
same_front [] ys (u ∷ us) vs e same = absurd (omega (arith, same))
same_front (x ∷ xs) ys [] vs e same = absurd (omega (arith, same))
same_front (x ∷ xs) ys (u ∷ us) vs e same =
    let p = cons_is x u (xs ++ ys) (us ++ vs) e in
    ap (λ (l : Line). l ∷ xs) p.0 ∙ ap (λ (ls : List Line). u ∷ ls) (same_front xs ys us vs p.1 (omega (arith, same)))

completed_by : (text : List ℕ) (is : Bool) → (more : List ℕ) × (cond is (text ++ 10 ∷ []) text ≡ text ++ more)
completed_by text true = (10 ∷ [], refl)
completed_by text false = ([], sym (append-nil text))

completed_is : (text : List ℕ) → (more : List ℕ) × (completed text ≡ text ++ more)
unfolding completed
completed_is text = completed_by text (ends_open text)

-- all lines before the word `end` are passed
before_end : (g : GameData) (front tail : List ℕ) → IsBeforeEnd g front tail → Standing (lines_of front)
before_end g front tail b =
    let word = codes "end" ++ tail in
    let more = completed_is (front ++ word) in
    let text : completed (front ++ word) ≡ front ++ (word ++ more.0) = more.1 ∙ append_assoc front word more.0 in
    let f = front_in front (word ++ more.0) in
    let e = ended g (completed (front ++ word)) b.whole.0 b.whole.1 in
    let same : lines_of front ≡ reverse (map words_in e.entries) =
    same_front (lines_of front) f.more (reverse (map words_in e.entries)) e.after (sym f.lines ∙ ap lines_of (sym text) ∙ e.lines) (omega (arith, b.lines, e.count, length-reverse (map words_in e.entries))) in
    (e.entries, subst (λ (ls : List Line). ArePassed ls e.entries) (sym (ap reverse same ∙ reverse-reverse (map words_in e.entries))) e.passed, e.due)

-- ---- bytes all of whose lines are passed

number_is : (bytes : List ℕ) → number_in (length (lines_of bytes) + 1) bytes ≡ length (pieces_of bytes)
unfolding number_in
number_is bytes =
    let numbers = map (λ (line : Worded). line.number) (worded_in 0 bytes) in
    get_or_past numbers (length (lines_of bytes) + 1 - 1) (length (pieces_of bytes))
    (omega (arith, length-map (worded_in 0 bytes) (λ (line : Worded). line.number), length-map (worded_in 0 bytes) words_at))

missing_text : (bytes : List ℕ) → Standing (lines_of bytes) → (number : ℕ) → number ≡ length (pieces_of bytes) → RefusesText bytes number kinds.Missing
missing_text bytes s number e =
    let lines = lines_of bytes in
    let passes : Passes lines (length lines) s.0 [] = (reverse lines, sym (append-nil (reverse (reverse lines)) ∙ reverse-reverse lines), length-reverse lines, s.1) in
    (length lines + 1, (length lines, s.0, [], refl, passes, s.2, refl), e ∙ sym (number_is bytes))

missing : (bytes : List ℕ) → Standing (lines_of bytes) → is_end (open_words bytes) ≡ false → IsMissing bytes
missing bytes s whole =
    let number = length (filter is_feed bytes) + 1 in
    let feeds : length (filter is_feed bytes) + 1 ≡ length (pieces_of bytes) = omega (arith, length-filter is_feed bytes, length-slice_split is_feed bytes) in
    let refused : RefusesWhole (completed bytes) number kinds.Missing = subst (λ (bs : List ℕ). RefusesWhole bs number kinds.Missing) (sym (whole_end bytes whole)) (inl (missing_text bytes s number feeds)) in
    (kinds.Missing, refused, sym (told_whole bytes number kinds.Missing whole))

-- ---- the cuts

not_open : (b : Bool) → (b ≡ true → ⊥) → b ≡ false
not_open true h = absurd (h refl)
not_open false h = refl

in_front : (cut rest : List ℕ) → Standing (lines_of (cut ++ rest)) → open_words (cut ++ rest) ≡ [] → IsMissing cut
in_front cut rest s none =
    let f = front_in cut rest in
    let standing : Standing (lines_of cut ++ f.more) = subst Standing f.lines s in
    let whole = not_open (is_end (open_words cut)) (λ is. elim (f.begins (end_e (last_piece cut) is)) [
      | inl e ↦ e_some (last_piece (cut ++ rest)) e none
      | inr first ↦ not_standing first.0 first.1 (lines_of cut) first.2 (subst (λ (ls : List Line). Standing (lines_of cut ++ ls)) first.3 standing)
    ]) in
    missing cut (standing_front (lines_of cut) f.more standing) whole

in_end : (front tail : List ℕ) (n : ℕ) → n < 3 → Standing (lines_of front) → open_words front ≡ [] → IsMissing (front ++ take n (codes "end" ++ tail))
in_end front tail n lt s none =
    let rest = take n (codes "end" ++ tail) in
    let f = front_in front rest in
    let same = f.same (short_lacks n tail lt) in
    let lines : lines_of (front ++ rest) ≡ lines_of front = f.lines ∙ ap (λ (ls : List Line). lines_of front ++ ls) same.0 ∙ append-nil (lines_of front) in
    missing (front ++ rest) (subst Standing (sym lines) s) (ap (λ (p : List ℕ). is_end (words_between p)) same.1 ∙ no_end (last_piece front) n tail lt none)

cut_at : (g : GameData) (front tail : List ℕ) (at : ℕ) → IsBeforeEnd g front tail → at < length front + 3 → IsMissing (take at (front ++ (codes "end" ++ tail)))
cut_at g front tail at b lt = elim (cases_lt (length front) at) [
  | inl more ↦
      let e : length front + (at - length front) ≡ at = omega arith in
      subst IsMissing (sym (take-append-add front (codes "end" ++ tail) (at - length front)) ∙ ap (λ (n : ℕ). take n (front ++ (codes "end" ++ tail))) e)
      (in_end front tail (at - length front) (omega arith) (before_end g front tail b) b.alone)
  | inr le ↦
      let whole = take-append-drop at front in
      subst IsMissing (sym (take-append-le at front (codes "end" ++ tail) (omega (arith, le))))
      (in_front (take at front) (drop at front) (subst (λ (bs : List ℕ). Standing (lines_of bs)) (sym whole) (before_end g front tail b)) (ap open_words whole ∙ b.alone))
]

pub cut_refused : (bytes : List ℕ) (at : ℕ) → IsCutBeforeEnd bytes at → IsMissing (take at bytes)
cut_refused bytes at c = subst (λ (bs : List ℕ). IsMissing (take at bs)) (sym c.3) (cut_at c.0 c.1 c.2 at c.4 c.5)
