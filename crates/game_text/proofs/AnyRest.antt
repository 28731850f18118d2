-- A text of a game is one whatever follows it.
use Rattle.std.proofs.Common.{◌≡◌, ℕ, zero, suc, ◌+◌, ◌<◌, Bool, true, false, List, [], ◌∷◌, ◌++◌, length, get_or, map, take, refl, sym, ap, subst, ◌∙◌, arith, append_assoc, length-append}
use Rattle.std.specs.List.{AllByRecursion, join_with_byte, onto_first, slice_split}
use Rattle.std.proofs.lemmas.List.{append_cancel_right, length-map}
use Rattle.std.proofs.lemmas.List.Splits.{join_with_byte-slice_split, slice_split-cons_no, slice_split-cons_yes}
use Rattle.text_words.specs.Lines.{Line}
use Rattle.text_words.specs.Lines.{lines_of as plain_lines}
use Rattle.text_words.proofs.Whole.{Lacks, split_at}
use Rattle.game_text.specs.Laws.{AnyRest}
use Rattle.game_text.specs.Plain.{after_lines, lines_of, onto, pieces_of, plain_line, words_at, words_of, worded, worded_in, Worded}
use Rattle.game_text.specs.Text.{scaled, text_of}
use Rattle.game_text.proofs.Parted.{is_feed, worded_in-skip, worded_in-some}

-- ---- no piece has a line feed

onto_lacks : (b : ℕ) (pieces : List (List ℕ)) → is_feed b ≡ false → AllByRecursion (Lacks is_feed) pieces → AllByRecursion (Lacks is_feed) (onto_first b pieces)
onto_lacks b [] is h = ((is, tt), tt)
onto_lacks b (piece ∷ pieces) is h = ((is, h.0), h.1)

lack_more : (b : ℕ) (text : List ℕ) (is : Bool) → is_feed b ≡ is → AllByRecursion (Lacks is_feed) (slice_split is_feed text) → AllByRecursion (Lacks is_feed) (slice_split is_feed (b ∷ text))
lack_more b text true e h = subst (AllByRecursion (Lacks is_feed)) (sym (slice_split-cons_yes is_feed b text e)) (tt, h)
lack_more b text false e h = subst (AllByRecursion (Lacks is_feed)) (sym (slice_split-cons_no is_feed b text e)) (onto_lacks b (slice_split is_feed text) e h)

pub pieces_lack : (text : List ℕ) → AllByRecursion (Lacks is_feed) (slice_split is_feed text)
pieces_lack [] = (tt, tt)
pieces_lack (b ∷ text) = lack_more b text (is_feed b) refl (pieces_lack text)

-- ---- the bytes to the end of a line are read in one way, whatever follows

abbrev afters : List Worded → List (List ℕ)
afters view = map (λ (line : Worded). line.after) view

record Cut (before : ℕ) (bytes : List ℕ) (view : List Worded) (n : ℕ) : Type 0 where
  front : List ℕ
  text : bytes ≡ front ++ get_or (afters view) n []
  kept : (other : List ℕ)
      → (more : List Line) × (map words_at (worded_in before (front ++ other)) ≡ take (suc n) (map words_at view) ++ more) × (get_or (afters (worded_in before (front ++ other))) n [] ≡ other)

pub pieces_at : (piece front other : List ℕ) → Lacks is_feed piece → pieces_of ((piece ++ 10 ∷ front) ++ other) ≡ piece ∷ pieces_of (front ++ other)
pieces_at piece front other lacks = ap pieces_of (append_assoc piece (10 ∷ front) other) ∙ split_at is_feed piece 10 (front ++ other) lacks refl

abbrev line_with : ℕ → List ℕ → Line → Worded
line_with number after words = record { number = number; words = plain_line words; after = after }

line_at : (before : ℕ) (piece front other : List ℕ) (words : Line) → Lacks is_feed piece → words_of piece ≡ words → 0 < length words
    → worded_in before ((piece ++ 10 ∷ front) ++ other) ≡ line_with (before + 1) (front ++ other) words ∷ worded_in (before + 1) (front ++ other)
line_at before piece front other words lacks e some =
    worded_in-some before ((piece ++ 10 ∷ front) ++ other) piece (front ++ other) (pieces_at piece front other lacks) (omega (arith, ap length e))
    ∙ ap (λ (ws : Line). line_with (before + 1) (front ++ other) ws ∷ worded_in (before + 1) (front ++ other)) e

cut_onto : (before : ℕ) (piece bytes : List ℕ) (view : List Worded) → Lacks is_feed piece → ((n : ℕ) → n < length view → Cut (before + 1) bytes view n) → (words : Line) → words_of piece ≡ words
    → (n : ℕ) → n < length (onto (before + 1) words bytes view) → Cut before (piece ++ 10 ∷ bytes) (onto (before + 1) words bytes view) n
cut_onto before piece bytes view lacks next [] e n lt =
    let c = next n lt in
    record {
      front = piece ++ 10 ∷ c.front;
      text = ap (λ (l : List ℕ). piece ++ 10 ∷ l) c.text ∙ sym (append_assoc piece (10 ∷ c.front) (get_or (afters view) n []));
      kept = λ other.
          let k = c.kept other in
          let skip = worded_in-skip before ((piece ++ 10 ∷ c.front) ++ other) piece (c.front ++ other) (pieces_at piece c.front other lacks) e in
          (k.0, ap (map words_at) skip ∙ k.1, ap (λ (ls : List Worded). get_or (afters ls) n []) skip ∙ k.2);
    }
cut_onto before piece bytes view lacks next (word ∷ words) e zero lt = record {
  front = piece ++ 10 ∷ [];
  text = sym (append_assoc piece (10 ∷ []) bytes);
  kept = λ other.
      let first = line_at before piece [] other (word ∷ words) lacks e (omega arith) in
      (map words_at (worded_in (before + 1) other), ap (map words_at) first, ap (λ (ls : List Worded). get_or (afters ls) 0 []) first);
}
cut_onto before piece bytes view lacks next (word ∷ words) e (suc n) lt =
    let c = next n (omega (arith, lt)) in
    record {
      front = piece ++ 10 ∷ c.front;
      text = ap (λ (l : List ℕ). piece ++ 10 ∷ l) c.text ∙ sym (append_assoc piece (10 ∷ c.front) (get_or (afters view) n []));
      kept = λ other.
          let k = c.kept other in
          let first = line_at before piece c.front other (word ∷ words) lacks e (omega arith) in
          (k.0, ap (map words_at) first ∙ ap (λ (ls : List Line). plain_line (word ∷ words) ∷ ls) k.1, ap (λ (ls : List Worded). get_or (afters ls) (suc n) []) first ∙ k.2);
    }

cuts : (before : ℕ) (pieces : List (List ℕ)) → AllByRecursion (Lacks is_feed) pieces → (n : ℕ) → n < length (worded before pieces) → Cut before (join_with_byte 10 pieces) (worded before pieces) n
cuts before [] lack n lt = absurd (omega (arith, lt))
cuts before (piece ∷ []) lack n lt = absurd (omega (arith, lt))
cuts before (piece ∷ next ∷ pieces) lack n lt =
    cut_onto before piece (join_with_byte 10 (next ∷ pieces)) (worded (before + 1) (next ∷ pieces)) lack.0 (cuts (before + 1) (next ∷ pieces) lack.1) (words_of piece) refl n lt

cut_in : (text : List ℕ) (n : ℕ) → n < length (worded_in 0 text) → Cut 0 text (worded_in 0 text) n
unfolding worded_in
cut_in text n lt = subst (λ (bytes : List ℕ). Cut 0 bytes (worded 0 (pieces_of text)) n) (join_with_byte-slice_split 10 text) (cuts 0 (pieces_of text) (pieces_lack text) n lt)

-- ---- the law

take_front : {X : Type 0} (xs ys : List X) → take (length xs) (xs ++ ys) ≡ xs
take_front [] ys = refl
take_front {X} (x ∷ xs) ys = ap (λ (l : List X). x ∷ l) (take_front xs ys)

record Lines (lines : List Line) (text rest : List ℕ) : Type 0 where
  after : List Line
  lines_are : lines_of text ≡ lines ++ after
  ends : after_lines (length lines) text ≡ rest

other_rest : (lines : List Line) (front rest other : List ℕ) → Lines lines (front ++ rest) rest → Lines lines (front ++ other) other
unfolding after_lines
other_rest [] front rest other s =
    let none : front ≡ [] = append_cancel_right front [] rest s.ends in
    record { after = lines_of (front ++ other); lines_are = refl; ends = ap (λ (l : List ℕ). l ++ other) none }
other_rest (line ∷ lines) front rest other s =
    let view = worded_in 0 (front ++ rest) in
    let range : length lines < length view = omega (arith, length-map view words_at, ap length s.lines_are, length-append (line ∷ lines) s.after) in
    let c = cut_in (front ++ rest) (length lines) range in
    let same : c.front ≡ front = sym (append_cancel_right front c.front rest (c.text ∙ ap (λ (l : List ℕ). c.front ++ l) s.ends)) in
    let k = c.kept other in
    let these : take (suc (length lines)) (map words_at view) ≡ line ∷ lines = ap (take (suc (length lines))) s.lines_are ∙ take_front (line ∷ lines) s.after in
    record {
      after = k.0;
      lines_are = ap (λ (f : List ℕ). lines_of (f ++ other)) (sym same) ∙ k.1 ∙ ap (λ (ls : List Line). ls ++ k.0) these;
      ends = ap (λ (f : List ℕ). get_or (afters (worded_in 0 (f ++ other))) (length lines) []) (sym same) ∙ k.2;
    }

pub any_rest : AnyRest
any_rest g front rest other t =
    let s = other_rest (plain_lines (text_of g (scaled t.times g.first))) front rest other (record { after = t.same.after; lines_are = t.same.lines; ends = t.same.ends }) in
    record { game = t.game; times = t.times; some = t.some; first = t.first; same = record { after = s.after; lines = s.lines_are; ends = s.ends } }
