-- A weighted sum of numbers that are all within a bound.
use Rattle.std.proofs.Common.{◌≡◌, ℕ, ◌<◌, arith, ap, sym, subst, ◌∙◌}
use Rattle.std.specs.Prelude.{ℤ, pos, neg_ℤ, ◌+ℤ◌, ◌*ℤ◌, ◌≤ℤ◌}
use Rattle.std.proofs.lemmas.Int.{ints}
use Rattle.scaled_num.specs.Sums.{below, total}
use Rattle.scaled_num.proofs.Floors.{product_le}
use Rattle.scaled_num.proofs.Products.{add-mulℤ, mulℤ_comm}
use Rattle.scaled_num.proofs.Sums.{total-below-le, total-scale}

pub neg-times : (a b : ℤ) → neg_ℤ a *ℤ b ≡ neg_ℤ (a *ℤ b)
neg-times a b = opposite (neg_ℤ a *ℤ b) (a *ℤ b) (sym (add-mulℤ (neg_ℤ a) a b) ∙ ap (λ (c : ℤ). c *ℤ b) (undone a) ∙ none b)
  where
    undone : (a : ℤ) → neg_ℤ a +ℤ a ≡ pos 0
    undone a = omega (arith, ints)

    none : (b : ℤ) → pos 0 *ℤ b ≡ pos 0
    none b = omega (arith, ints)

    opposite : (x y : ℤ) → x +ℤ y ≡ pos 0 → x ≡ neg_ℤ y
    opposite x y e = omega (arith, ints)

-- at most so large in magnitude
abbrev pub IsUpTo : ℤ → ℤ → Type 0
IsUpTo most x = (neg_ℤ most ≤ℤ x) × (x ≤ℤ most)

pub weighted-within : (most : ℤ) (n : ℕ) (w f : ℕ → ℤ) → ((s : ℕ) → s < n → pos 0 ≤ℤ w s) → ((s : ℕ) → s < n → IsUpTo most (f s)) →
    IsUpTo (most *ℤ total w (below n)) (total (λ s. w s *ℤ f s) (below n))
weighted-within most n w f low each = (
  subst (λ (z : ℤ). z ≤ℤ total (λ s. w s *ℤ f s) (below n)) (total-scale (neg_ℤ most) w (below n) ∙ neg-times most (total w (below n)))
      (total-below-le n (λ s. neg_ℤ most *ℤ w s) (λ s. w s *ℤ f s) (λ s l. subst (λ (z : ℤ). (neg_ℤ most *ℤ w s) ≤ℤ z) (mulℤ_comm (f s) (w s)) (product_le (neg_ℤ most) (f s) (w s) (low s l) (each s l).0))),
  subst (λ (z : ℤ). total (λ s. w s *ℤ f s) (below n) ≤ℤ z) (total-scale most w (below n))
      (total-below-le n (λ s. w s *ℤ f s) (λ s. most *ℤ w s) (λ s l. subst (λ (z : ℤ). z ≤ℤ (most *ℤ w s)) (mulℤ_comm (f s) (w s)) (product_le (f s) most (w s) (low s l) (each s l).1))),
)
