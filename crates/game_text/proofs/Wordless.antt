-- Bytes that have words, and bytes that have none.
use Rattle.std.proofs.Common.{◌≡◌, ℕ, ◌+◌, List, [], ◌∷◌, map, refl, ap, ◌∙◌}
use Rattle.std.specs.List.{join_with_byte}
use Rattle.text_words.specs.Lines.{Line}
use Rattle.game_text.specs.Plain.{IsWordless, lines_of, onto, pieces_of, plain_line, words_at, words_of, worded, worded_in, Worded}

words_onto : (m n : ℕ) (words : Line) (after : List ℕ) (ls ks : List Worded) → map words_at ls ≡ map words_at ks → map words_at (onto m words after ls) ≡ map words_at (onto n words after ks)
words_onto m n [] after ls ks e = e
words_onto m n (word ∷ words) after ls ks e = ap (λ (l : List Line). plain_line (word ∷ words) ∷ l) e

words_same : (m n : ℕ) (pieces : List (List ℕ)) → map words_at (worded m pieces) ≡ map words_at (worded n pieces)
words_same m n [] = refl
words_same m n (piece ∷ []) = refl
words_same m n (piece ∷ next ∷ pieces) =
    words_onto (m + 1) (n + 1) (words_of piece) (join_with_byte 10 (next ∷ pieces)) (worded (m + 1) (next ∷ pieces)) (worded (n + 1) (next ∷ pieces)) (words_same (m + 1) (n + 1) (next ∷ pieces))

-- the lines are the same, whatever stands before them
pub lines_at : (before : ℕ) (text : List ℕ) → lines_of text ≡ map words_at (worded_in before text)
unfolding worded_in
lines_at before text = words_same 0 before (pieces_of text)

pub no_lines : (before : ℕ) (text : List ℕ) → worded_in before text ≡ [] → lines_of text ≡ []
no_lines before text e = lines_at before text ∙ ap (map words_at) e

none_is : (lines : List Line) (line : Line) (more : List Line) → lines ≡ [] → lines ≡ line ∷ more → ⊥
none_is lines line more p q = cc

pub has_line : (before : ℕ) (text : List ℕ) (line : Worded) (lines : List Worded) → worded_in before text ≡ line ∷ lines → IsWordless text → ⊥
has_line before text line lines e none = none_is (lines_of text) line.words (map words_at lines) none.0 (lines_at before text ∙ ap (map words_at) e)
