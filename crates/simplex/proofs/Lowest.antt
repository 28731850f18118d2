-- A fraction divided by the greatest common divisor of its numbers.
use Rattle.std.proofs.Common.{ℕ, zero, suc, ◌*◌, ◌<◌, ◌≡◌, ℤ, pos, negsuc, ◌*ℤ◌, ◌<ℤ◌, [], ◌∷◌, sym, ap, ◌∙◌, subst, arith, unsigned_abs, mul-one}
use Rattle.std.specs.Int.{◌∣◌, IsGcd}
use Rattle.std.proofs.Math.Nat.{mul-dvd-mul_left, dvd_of_mul-dvd-mul_left, eq-one_of_dvd-one}
use Rattle.std.proofs.lemmas.Int.{ints, unsigned_abs-mul}
use Rattle.scaled_num.proofs.Ring.{ring, x, ◌⊗◌}
use Rattle.simplex.specs.Reading.{IsLowest}

factor_positive : (g : ℕ) (y z : ℤ) → pos g *ℤ y ≡ z → pos 0 <ℤ z → pos 0 <ℤ y
factor_positive g (pos zero) z e h = absurd (omega (arith, ints))
factor_positive g (pos (suc y)) z e h = omega (arith, ints)
factor_positive g (negsuc y) z e h = absurd (omega (arith, ints))

size : (g : ℕ) (y z : ℤ) → pos g *ℤ y ≡ z → g * unsigned_abs y ≡ unsigned_abs z
size g y z e = sym (unsigned_abs-mul (pos g) y) ∙ ap unsigned_abs e

pub is_lowest : (num den a b : ℤ) (g : ℕ) → 0 < g → pos 0 <ℤ den → pos g *ℤ a ≡ num → pos g *ℤ b ≡ den → IsGcd (unsigned_abs den) (unsigned_abs num) g → IsLowest a b
is_lowest num den a b g some positive ex ey gcd = record {
  positive = factor_positive g b den ey positive;
  coprime = λ d h.
      let one : d ∣ unsigned_abs a = h 0 (omega arith) in
      let two : d ∣ unsigned_abs b = h 1 (omega arith) in
      let both : g * d ∣ g = gcd.2 (g * d) (subst (λ (t : ℕ). g * d ∣ t) (size g b den ey) (mul-dvd-mul_left d g two)) (subst (λ (t : ℕ). g * d ∣ t) (size g a num ex) (mul-dvd-mul_left d g one)) in
      eq-one_of_dvd-one (dvd_of_mul-dvd-mul_left d some (subst (λ (t : ℕ). g * d ∣ t) (sym (mul-one g)) both));
}

pub same_fraction : (num den a b : ℤ) (g : ℕ) → pos g *ℤ a ≡ num → pos g *ℤ b ≡ den → a *ℤ den ≡ num *ℤ b
same_fraction num den a b g ea eb =
    ap (λ (y : ℤ). a *ℤ y) (sym eb) ∙ ring (a ∷ pos g ∷ b ∷ []) (x 0 ⊗ (x 1 ⊗ x 2)) ((x 1 ⊗ x 0) ⊗ x 2) (omega arith) ∙ ap (λ (y : ℤ). y *ℤ b) ea
