-- The greatest of several worths.
use Rattle.std.proofs.Common.{◌≡◌, ℕ, ◌+◌, ◌<◌, ◌≤◌, arith, sym, subst, inl, inr, ◌⊎◌}
use Rattle.std.specs.Prelude.{ℤ, ◌≤ℤ◌, unsigned_abs}
use Rattle.std.specs.Int.{int_max}
use Rattle.std.proofs.lemmas.Int.{ints, clamps, by_lt_z}
use Rattle.backup.specs.Rounds.{IsGreatestOf}
use Rattle.game_model.proofs.Least.{last-or}

same : (x : ℤ) → x ≤ℤ x
same x = omega (arith, ints)

through : (x y z : ℤ) → x ≤ℤ y → y ≤ℤ z → x ≤ℤ z
through x y z h k = omega (arith, ints)

pub greatest-one : (f : ℕ → ℤ) (x : ℤ) → x ≡ f 0 → IsGreatestOf f 1 x
greatest-one f x e = record {
  each = λ k l. subst (λ (i : ℕ). f i ≤ℤ x) (sym (zero-only k l)) (subst (λ (y : ℤ). y ≤ℤ x) e (same x));
  some = (0, omega arith, e);
}
  where
    zero-only : (k : ℕ) → k < 1 → k ≡ 0
    zero-only k l = omega arith

max-cases : (x y : ℤ) → ((int_max x y ≡ x) × (y ≤ℤ x)) ⊎ ((int_max x y ≡ y) × (x ≤ℤ y))
max-cases x y = by_lt_z x y (λ h. inr (omega (arith, ints, clamps), omega (arith, ints))) (λ h. inl (omega (arith, ints, clamps), h))

greatest-keep : (f : ℕ → ℤ) (n : ℕ) (x : ℤ) → IsGreatestOf f n x → f n ≤ℤ x → IsGreatestOf f (n + 1) x
greatest-keep f n x h l = record {
  each = λ k m. elim (last-or k n m) [ inl b ↦ h.each k b | inr e ↦ subst (λ (i : ℕ). f i ≤ℤ x) (sym e) l ];
  some = (h.some.0, lift h.some.0 h.some.1, h.some.2);
}
  where
    lift : (k : ℕ) → k < n → k < n + 1
    lift k l = omega arith

greatest-take : (f : ℕ → ℤ) (n : ℕ) (x y : ℤ) → IsGreatestOf f n x → x ≤ℤ y → y ≡ f n → IsGreatestOf f (n + 1) y
greatest-take f n x y h l e = record {
  each = λ k m. elim (last-or k n m) [ inl b ↦ through (f k) x y (h.each k b) l | inr i ↦ subst (λ (j : ℕ). f j ≤ℤ y) (sym i) (subst (λ (z : ℤ). z ≤ℤ y) e (same y)) ];
  some = (n, omega arith, e);
}

pub greatest-more : (f : ℕ → ℤ) (n : ℕ) (x y : ℤ) → IsGreatestOf f n x → y ≡ f n → IsGreatestOf f (n + 1) (int_max x y)
greatest-more f n x y h e =
    elim (max-cases x y) [
      | inl m ↦ subst (IsGreatestOf f (n + 1)) (sym m.0) (greatest-keep f n x h (subst (λ (z : ℤ). z ≤ℤ x) e m.1))
      | inr m ↦ subst (IsGreatestOf f (n + 1)) (sym m.0) (greatest-take f n x y h m.1 e)
    ]

-- the greater of two worths is within the bound of both
pub max-within : (x y : ℤ) (most : ℕ) → unsigned_abs x ≤ most → unsigned_abs y ≤ most → unsigned_abs (int_max x y) ≤ most
max-within x y most h k =
    elim (max-cases x y) [
      | inl m ↦ subst (λ (z : ℤ). unsigned_abs z ≤ most) (sym m.0) h
      | inr m ↦ subst (λ (z : ℤ). unsigned_abs z ≤ most) (sym m.0) k
    ]
