-- The width rule, and how large products under it are.
use Rattle.std.proofs.Common.{rules, ◌≡◌, ℕ, ◌^◌, ◌≤◌, max, arith}
use Rattle.std.specs.Prelude.{ℤ, pos, ◌+ℤ◌, ◌*ℤ◌, ◌≤ℤ◌, FitsSigned, unsigned_abs}
use Rattle.std.specs.Int.{w128, int_max}
use Rattle.std.specs.Int.Signed.{le_z}
use Rattle.std.specs.Bool.{IsTrue}
use Rattle.std.proofs.lemmas.Int.{ints, clamps, fits_signed_from_abs, unsigned_abs-mul}
use Rattle.std.proofs.lemmas.Nat.{mul-le}
use Rattle.game_model.specs.Game.{IsRewardInRange}

-- the products of the width rule fit
pub record WidthFits (d q m : ℤ) : Type 0 where
  pub d_fits : FitsSigned w128 d
  pub q_fits : FitsSigned w128 q
  pub m_fits : FitsSigned w128 m
  pub two : FitsSigned w128 (d *ℤ q)
  pub three : FitsSigned w128 (d *ℤ q *ℤ q)
  pub four : FitsSigned w128 (d *ℤ q *ℤ q *ℤ m)

pub width-fits : (d q m : ℤ) → unsigned_abs d ≤ 2 ^ 30 → unsigned_abs q ≤ 2 ^ 20 → unsigned_abs m ≤ 2 ^ 30 → WidthFits d q m
width-fits d q m ld lq lm =
    let two : unsigned_abs (d *ℤ q) ≤ 2 ^ 50 = rw (unsigned_abs-mul d q) (mul-le (unsigned_abs d) (unsigned_abs q) (2 ^ 30) (2 ^ 20) ld lq) in
    let three : unsigned_abs (d *ℤ q *ℤ q) ≤ 2 ^ 70 = rw (unsigned_abs-mul (d *ℤ q) q) (mul-le (unsigned_abs (d *ℤ q)) (unsigned_abs q) (2 ^ 50) (2 ^ 20) two lq) in
    let four : unsigned_abs (d *ℤ q *ℤ q *ℤ m) ≤ 2 ^ 100 = rw (unsigned_abs-mul (d *ℤ q *ℤ q) m) (mul-le (unsigned_abs (d *ℤ q *ℤ q)) (unsigned_abs m) (2 ^ 70) (2 ^ 30) three lm) in
    record {
      d_fits = fits_signed_from_abs w128 d (omega arith);
      q_fits = fits_signed_from_abs w128 q (omega arith);
      m_fits = fits_signed_from_abs w128 m (omega arith);
      two = fits_signed_from_abs w128 (d *ℤ q) (omega arith);
      three = fits_signed_from_abs w128 (d *ℤ q *ℤ q) (omega arith);
      four = fits_signed_from_abs w128 (d *ℤ q *ℤ q *ℤ m) (omega arith);
    }

-- the greater of a reward's magnitude and 1
pub greater_is : (n : ℕ) → int_max (pos n) (pos 1) ≡ pos (max 1 n)
greater_is n = omega (arith, ints, clamps)

pub greater_small : (r : ℤ) → IsRewardInRange r → unsigned_abs (pos (max 1 (unsigned_abs r))) ≤ 2 ^ 30
greater_small r h = let low = h.0 in let high = h.1 in omega (arith, ints)

pub reward_small : (r : ℤ) → IsRewardInRange r → unsigned_abs r ≤ 2 ^ 30
reward_small r h = let low = h.0 in let high = h.1 in omega (arith, ints)

pub reward_fits : (r : ℤ) → IsRewardInRange r → FitsSigned w128 (pos (unsigned_abs r))
reward_fits r h = fits_signed_from_abs w128 (pos (unsigned_abs r)) (omega (arith, reward_small r h))

-- the test of an order
pub at_most : (a b : ℤ) → (IsTrue (le_z a b) → a ≤ℤ b) × (a ≤ℤ b → IsTrue (le_z a b))
at_most a b = search rules

-- the sum of a row with one more weight fits
pub filled_fits : (filled weight most : ℤ) → pos 0 ≤ℤ filled → pos 1 ≤ℤ weight → weight ≤ℤ most → filled ≤ℤ most → most ≤ℤ pos (2 ^ 30) → FitsSigned w128 (filled +ℤ weight)
filled_fits filled weight most from low high left small =
    let size : unsigned_abs (filled +ℤ weight) ≤ 2 ^ 31 = omega (arith, ints) in
    fits_signed_from_abs w128 (filled +ℤ weight) (omega arith)
