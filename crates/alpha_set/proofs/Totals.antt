-- Sums step by step, and how large they are.
use Rattle.std.proofs.Common.{◌≡◌, ℕ, ◌+◌, ◌*◌, ◌^◌, ◌≤◌, refl, ap, arith, sym, ◌∙◌}
use Rattle.std.specs.Prelude.{ℤ, pos, ◌+ℤ◌, unsigned_abs, FitsSigned}
use Rattle.std.specs.Int.{w128}
use Rattle.std.proofs.lemmas.Int.{ints, fits_signed_from_abs}
use Rattle.std.proofs.lemmas.Nat.{mul-le}
use Rattle.scaled_num.specs.Sums.{below, total}
use Rattle.scaled_num.proofs.Products.{abs-add}
use Rattle.game_model.specs.Game.{IsWithin}
use Rattle.scaled_num.proofs.Sums.{total-below-more}

pub abs-within : (x : ℤ) (n : ℕ) → IsWithin (pos 1) (pos n) x → unsigned_abs x ≤ n
abs-within x n h = let low = h.0 in let high = h.1 in omega (arith, ints)

-- a sum over the first numbers, each of whose terms is at most so large
pub record SoFar (f : ℕ → ℤ) (most i : ℕ) (sum : ℤ) : Type 0 where
  pub is : sum ≡ total f (below i)
  pub bounded : unsigned_abs sum ≤ i * most

pub record Next (f : ℕ → ℤ) (most i : ℕ) (sum : ℤ) : Type 0 where
  pub term_fits : FitsSigned w128 (f i)
  pub sum_fits : FitsSigned w128 (sum +ℤ f i)
  pub so_far : SoFar f most (i + 1) (sum +ℤ f i)

pub so_far-none : (f : ℕ → ℤ) (most : ℕ) → SoFar f most 0 (pos 0)
so_far-none f most = record { is = refl; bounded = omega arith }

pub next : (f : ℕ → ℤ) (most i : ℕ) (sum : ℤ) → unsigned_abs (f i) ≤ most → i ≤ 15 → most ≤ 2 ^ 120 → SoFar f most i sum → Next f most i sum
next f most i sum small few high so_far =
    let upto : unsigned_abs (sum +ℤ f i) ≤ (i + 1) * most = omega (arith, abs-add sum (f i), so_far.bounded) in
    let all : (i + 1) * most ≤ 16 * 2 ^ 120 = mul-le (i + 1) most 16 (2 ^ 120) (omega arith) high in
    record {
      term_fits = fits_signed_from_abs w128 (f i) (omega arith);
      sum_fits = fits_signed_from_abs w128 (sum +ℤ f i) (omega arith);
      so_far = record {
        is = ap (λ z. z +ℤ f i) so_far.is ∙ sym (total-below-more f i);
        bounded = upto;
      };
    }
