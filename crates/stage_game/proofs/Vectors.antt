-- What a vector holds after a call wrote to all of it as a slice.
use Rattle.std.proofs.Common.{◌≡◌, ◌∙◌, ◌++◌, ℕ, List, ap, drop, length, subst, take}
use Rattle.std.proofs.Math.Seq.{take-append_seam}

pub written-back : {X : Type 0} (xs ys : List X) (n : ℕ) → length xs ≡ n → take n (xs ++ drop (length xs) ys) ≡ xs
written-back xs ys n e = subst (λ (m : ℕ). take m (xs ++ drop (length xs) ys) ≡ xs) e (take-append_seam xs (drop (length xs) ys))

pub written-long : {X : Type 0} (xs ys : List X) (n count : ℕ) → length xs ≡ n → length xs ≡ count → length (take n (xs ++ drop (length xs) ys)) ≡ count
written-long xs ys n count e f = ap length (written-back xs ys n e) ∙ f
