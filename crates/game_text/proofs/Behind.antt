-- What stands behind lines of a text is a tail of it.
use Rattle.std.proofs.Common.{◌≡◌, ℕ, zero, suc, ◌+◌, List, [], ◌∷◌, ◌++◌, get_or, map, sym, ap, ◌∙◌, append_assoc, append-nil}
use Rattle.std.specs.List.{join_with_byte}
use Rattle.std.proofs.lemmas.List.Splits.{join_with_byte-slice_split}
use Rattle.text_words.specs.Lines.{Line}
use Rattle.game_text.specs.Plain.{after_lines, onto, pieces_of, words_of, worded, worded_in, Worded}

-- the bytes end with these
abbrev pub IsTail : List ℕ → List ℕ → Type 0
IsTail text rest = (front : List ℕ) × (text ≡ front ++ rest)

tail_more : (line bytes rest : List ℕ) → IsTail bytes rest → IsTail (line ++ 10 ∷ bytes) rest
tail_more line bytes rest t = (line ++ 10 ∷ t.0, ap (λ (l : List ℕ). line ++ 10 ∷ l) t.1 ∙ sym (append_assoc line (10 ∷ t.0) rest))

abbrev AllTails : List ℕ → List Worded → Type 0
AllTails text lines = (n : ℕ) → IsTail text (get_or (map (λ (line : Worded). line.after) lines) n [])

nothing : (text : List ℕ) → IsTail text []
nothing text = (text, sym (append-nil text))

tails_onto : (number : ℕ) (words : Line) (line after : List ℕ) (lines : List Worded) → AllTails after lines → AllTails (line ++ 10 ∷ after) (onto number words after lines)
tails_onto number [] line after lines tails n = tail_more line after (get_or (map (λ (l : Worded). l.after) lines) n []) (tails n)
tails_onto number (word ∷ words) line after lines tails zero = (line ++ 10 ∷ [], sym (append_assoc line (10 ∷ []) after))
tails_onto number (word ∷ words) line after lines tails (suc n) = tail_more line after (get_or (map (λ (l : Worded). l.after) lines) n []) (tails n)

tails : (before : ℕ) (pieces : List (List ℕ)) → AllTails (join_with_byte 10 pieces) (worded before pieces)
tails before [] n = nothing (join_with_byte 10 [])
tails before (piece ∷ []) n = nothing (join_with_byte 10 (piece ∷ []))
tails before (piece ∷ next ∷ pieces) n =
    tails_onto (before + 1) (words_of piece) piece (join_with_byte 10 (next ∷ pieces)) (worded (before + 1) (next ∷ pieces)) (tails (before + 1) (next ∷ pieces)) n

pub is_behind : (text : List ℕ) (count : ℕ) (rest : List ℕ) → rest ≡ after_lines count text → IsTail text rest
unfolding after_lines worded_in
is_behind text zero rest e = ([], sym e)
is_behind text (suc count) rest e =
    let t = tails 0 (pieces_of text) count in
    (t.0, sym (join_with_byte-slice_split 10 text) ∙ t.1 ∙ ap (λ (l : List ℕ). t.0 ++ l) (sym e))
