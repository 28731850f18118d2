-- Lines of three words and more, which have neither of the forms of two.
use Rattle.std.proofs.Common.{◌≡◌, ℕ, ◌<◌, Bool, false, List, [], ◌∷◌, length, Some, Bor, refl, arith}
use Rattle.std.specs.Prelude.{Result, Err, ◌==◌}
use Rattle.std.proofs.lemmas.List.Splits.{length-slice_split}
use Rattle.text_words.specs.Lines.{Line, Word, words_behind, words_of}
use Rattle.cert_text.specs.Forms.{are_words, word_after}
use Rattle.cert_text.specs.declared.fault.CertKind.TheVariants as kinds

some_word : (line : List ℕ) → 0 < length (words_of line)
unfolding words_of
some_word line = omega (arith, length-slice_split (λ b. b == 32) line)

no-are_words : (name second a w : Word) (words : Line) → 0 < length words → are_words name second (a ∷ w ∷ words) ≡ false
unfolding are_words
no-are_words name second a w [] some = absurd (omega arith)
no-are_words name second a w (x ∷ words) some = refl

no-word_after : (name a w : Word) (words : Line) → 0 < length words → word_after name (a ∷ w ∷ words) ≡ Err kinds.Shape
unfolding word_after
no-word_after name a w [] some = absurd (omega arith)
no-word_after name a w (x ∷ words) some = refl

pub three-are_words : (name second a w : Word) (more : Bor (List ℕ)) → are_words name second (a ∷ w ∷ words_behind (Some more)) ≡ false
three-are_words name second a w more = no-are_words name second a w (words_of more.now) (some_word more.now)

pub three-word_after : (name a w : Word) (more : Bor (List ℕ)) → word_after name (a ∷ w ∷ words_behind (Some more)) ≡ Err kinds.Shape
three-word_after name a w more = no-word_after name a w (words_of more.now) (some_word more.now)
