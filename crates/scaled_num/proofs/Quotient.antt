-- A quotient that is rounded toward zero, corrected to one that is rounded down or up.
use Rattle.std.proofs.Common.{suc, ◌<◌, ◌≡◌, ℤ, pos, negsuc, ◌+ℤ◌, ◌-ℤ◌, ◌*ℤ◌, ◌<ℤ◌, ◌≤ℤ◌, arith, unsigned_abs, mul-le-mul_left, [], ◌∷◌, FitsSigned, int_div}
use Rattle.std.proofs.lemmas.Int.{ints, quot_fits}
use Rattle.scaled_num.proofs.Ring.{ring, x, ◌⊕◌, ◌⊖◌, ◌⊗◌}
use Rattle.std.specs.Int.{w128}
use borrow.Author.Differences.{product_is}

one_less : (q b : ℤ) → (q -ℤ pos 1) *ℤ b ≡ q *ℤ b -ℤ b
one_less q b = ring (q ∷ pos 1 ∷ b ∷ []) ((x 0 ⊖ x 1) ⊗ x 2) ((x 0 ⊗ x 2) ⊖ x 2) (omega arith)

one_more : (q b : ℤ) → (q +ℤ pos 1) *ℤ b ≡ q *ℤ b +ℤ b
one_more q b = ring (q ∷ pos 1 ∷ b ∷ []) ((x 0 ⊕ x 1) ⊗ x 2) ((x 0 ⊗ x 2) ⊕ x 2) (omega arith)

-- on the product and the remainder alone
down_parts : (a b w r v : ℤ) → w +ℤ r ≡ a → unsigned_abs r < unsigned_abs b → pos 0 <ℤ b → r <ℤ pos 0 → v ≡ w -ℤ b → (v ≤ℤ a) × (a <ℤ (v +ℤ b))
down_parts a b w r v e h p n d = omega (arith, ints)

up_parts : (a b w r v : ℤ) → w +ℤ r ≡ a → unsigned_abs r < unsigned_abs b → pos 0 <ℤ b → pos 0 <ℤ r → v ≡ w +ℤ b → (a ≤ℤ v) × (v <ℤ (a +ℤ b))
up_parts a b w r v e h p n d = omega (arith, ints)

pub down_then : (a b q r : ℤ) → q *ℤ b +ℤ r ≡ a → unsigned_abs r < unsigned_abs b → pos 0 <ℤ b → r <ℤ pos 0 → (((q -ℤ pos 1) *ℤ b) ≤ℤ a) × (a <ℤ ((q -ℤ pos 1) *ℤ b +ℤ b))
down_then a b q r e h p n = down_parts a b (q *ℤ b) r ((q -ℤ pos 1) *ℤ b) e h p n (one_less q b)

pub up_then : (a b q r : ℤ) → q *ℤ b +ℤ r ≡ a → unsigned_abs r < unsigned_abs b → pos 0 <ℤ b → pos 0 <ℤ r → (a ≤ℤ ((q +ℤ pos 1) *ℤ b)) × (((q +ℤ pos 1) *ℤ b) <ℤ (a +ℤ b))
up_then a b q r e h p n = up_parts a b (q *ℤ b) r ((q +ℤ pos 1) *ℤ b) e h p n (one_more q b)

pub down_else : (a b w r : ℤ) → w +ℤ r ≡ a → unsigned_abs r < unsigned_abs b → pos 0 <ℤ b → pos 0 ≤ℤ r → (w ≤ℤ a) × (a <ℤ (w +ℤ b))
down_else a b w r e h p n = omega (arith, ints)

pub up_else : (a b w r : ℤ) → w +ℤ r ≡ a → unsigned_abs r < unsigned_abs b → pos 0 <ℤ b → r ≤ℤ pos 0 → (a ≤ℤ w) × (w <ℤ (a +ℤ b))
up_else a b w r e h p n = omega (arith, ints)

-- the quotient and the remainder that the code reads, as the numbers that they are
pub quot_small : (a b : ℤ) → FitsSigned w128 a → pos 0 <ℤ b → FitsSigned w128 (int_div a b)
quot_small a b f p = quot_fits w128 a b f p

pub less_fits : (a b q r : ℤ) → q *ℤ b +ℤ r ≡ a → unsigned_abs r < unsigned_abs b → pos 0 <ℤ b → r <ℤ pos 0 → FitsSigned w128 a → FitsSigned w128 q → FitsSigned w128 (q -ℤ pos 1)
less_fits a (pos k) (pos n) r e h p s fa fq = omega (arith, ints)
less_fits a (pos k) (negsuc n) r e h p s fa fq = omega (arith, ints, product_is (negsuc n) (pos k), mul-le-mul_left {m = 2} {n = k} (suc n) (omega (arith, ints)))
less_fits a (negsuc k) q r e h p s fa fq = absurd (omega (arith, ints))

pub more_fits : (a b q r : ℤ) → q *ℤ b +ℤ r ≡ a → unsigned_abs r < unsigned_abs b → pos 0 <ℤ b → pos 0 <ℤ r → FitsSigned w128 a → FitsSigned w128 q → FitsSigned w128 (q +ℤ pos 1)
more_fits a (pos k) (pos n) r e h p s fa fq = omega (arith, ints, product_is (pos n) (pos k), mul-le-mul_left {m = 2} {n = k} n (omega (arith, ints)))
more_fits a (pos k) (negsuc n) r e h p s fa fq = omega (arith, ints)
more_fits a (negsuc k) q r e h p s fa fq = absurd (omega (arith, ints))
