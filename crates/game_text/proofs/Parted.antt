-- The lines of a text that have words, one after another.
use Rattle.std.proofs.Common.{◌≡◌, ℕ, ◌+◌, ◌<◌, Bool, true, false, cond, ltb, eqb, List, [], ◌∷◌, length, take, Option, Some, None, Bor, refl, sym, ap, ◌∙◌, arith}
use Rattle.std.specs.List.{position_or_len, join_with_byte}
use Rattle.std.proofs.lemmas.Bool.{ltb-false}
use Rattle.std.proofs.lemmas.List.{take_all}
use Rattle.std.proofs.lemmas.List.Splits.{length-slice_split, join_with_byte-slice_split}
use Rattle.text_words.specs.Lines.{Line, line_in}
use Rattle.game_text.specs.Plain.{before_comment, last_of, last_piece, onto, pieces_of, plain_line, words_of, worded, worded_in, Worded}

-- ---- what stands before a comment

abbrev found : List ℕ → Option ℕ
found bytes = cond (ltb (position_or_len (λ b. eqb b 35) bytes) (length bytes)) (Some (position_or_len (λ b. eqb b 35) bytes)) None

cond_some : (b : Bool) (n k : ℕ) → cond b (Some n) None ≡ Some k → n ≡ k
cond_some true n k e = cc
cond_some false n k e = absurd cc

cond_none : (b : Bool) (n : ℕ) → cond b (Some n) None ≡ None → b ≡ false
cond_none true n e = absurd cc
cond_none false n e = refl

pub comment-some : (bytes : List ℕ) (end : ℕ) → found bytes ≡ Some end → take end bytes ≡ before_comment bytes
comment-some bytes end e = ap (λ (k : ℕ). take k bytes) (sym (cond_some _ _ _ e))

pub comment-none : (bytes : List ℕ) → found bytes ≡ None → bytes ≡ before_comment bytes
comment-none bytes e = sym (take_all (position_or_len (λ b. eqb b 35) bytes) bytes (ltb-false _ _ (cond_none _ _ e)))

-- ---- the first line

pub onto-none : (number : ℕ) (words : Line) (after : List ℕ) (lines : List Worded) → words ≡ [] → onto number words after lines ≡ lines
onto-none number words after lines e = ap (λ (ws : Line). onto number ws after lines) e

pub onto-some : (number : ℕ) (words : Line) (after : List ℕ) (lines : List Worded) → 0 < length words → onto number words after lines ≡ record { number = number; words = plain_line words; after = after } ∷ lines
onto-some number [] after lines some = absurd (omega arith)
onto-some number (word ∷ words) after lines some = refl

worded_step : (before : ℕ) (line : List ℕ) (pieces : List (List ℕ)) (rest : List ℕ) → 0 < length pieces → join_with_byte 10 pieces ≡ rest
    → worded before (line ∷ pieces) ≡ onto (before + 1) (words_of line) rest (worded (before + 1) pieces)
worded_step before line [] rest some e = absurd (omega arith)
worded_step before line (next ∷ pieces) rest some e = ap (λ (r : List ℕ). onto (before + 1) (words_of line) r (worded (before + 1) (next ∷ pieces))) e

abbrev pub is_feed : ℕ → Bool
is_feed b = eqb b 10

pub worded_in-line : (before : ℕ) (text line rest : List ℕ) → pieces_of text ≡ line ∷ pieces_of rest → worded_in before text ≡ onto (before + 1) (words_of line) rest (worded_in (before + 1) rest)
unfolding worded_in
worded_in-line before text line rest e =
    ap (worded before) e ∙ worded_step before line (pieces_of rest) rest (omega (arith, length-slice_split is_feed rest)) (join_with_byte-slice_split 10 rest)

pub worded_in-none : (before : ℕ) (text : List ℕ) → pieces_of text ≡ text ∷ [] → worded_in before text ≡ []
unfolding worded_in
worded_in-none before text e = ap (worded before) e

pub worded_in-skip : (before : ℕ) (text line rest : List ℕ) → pieces_of text ≡ line ∷ pieces_of rest → words_of line ≡ [] → worded_in before text ≡ worded_in (before + 1) rest
worded_in-skip before text line rest e none = worded_in-line before text line rest e ∙ onto-none (before + 1) (words_of line) rest (worded_in (before + 1) rest) none

pub worded_in-some : (before : ℕ) (text line rest : List ℕ) → pieces_of text ≡ line ∷ pieces_of rest → 0 < length (words_of line)
    → worded_in before text ≡ record { number = before + 1; words = plain_line (words_of line); after = rest } ∷ worded_in (before + 1) rest
worded_in-some before text line rest e some = worded_in-line before text line rest e ∙ onto-some (before + 1) (words_of line) rest (worded_in (before + 1) rest) some

-- ---- the last piece

last_more : (line : List ℕ) (pieces : List (List ℕ)) → 0 < length pieces → last_of (line ∷ pieces) ≡ last_of pieces
last_more line [] some = absurd (omega arith)
last_more line (next ∷ pieces) some = refl

pub last_piece-line : (text line rest : List ℕ) → pieces_of text ≡ line ∷ pieces_of rest → last_piece text ≡ last_piece rest
last_piece-line text line rest e = ap last_of e ∙ last_more line (pieces_of rest) (omega (arith, length-slice_split is_feed rest))

-- ---- words that are read

pub no_words : (words : List (Bor (List ℕ))) (line : Line) → line_in words ≡ line → length words ≡ 0 → line ≡ []
no_words [] line e none = sym e
no_words (word ∷ words) line e none = absurd (omega arith)
