-- Products of numbers in their limits.
use Rattle.std.proofs.Common.{◌≡◌, ◌≤◌, ◌<◌, ◌*◌, ◌^◌, ℕ, ℤ, pos, negsuc, ◌*ℤ◌, sym, arith, subst}
use Rattle.std.specs.Prelude.{unsigned_abs, ◌≤ℤ◌, FitsSigned}
use mir.Syntax.{w128}
use Rattle.std.proofs.lemmas.Int.{ints, clamps, unsigned_abs-mul, fits_signed_from_abs, to_z-of_z}
use Rattle.std.proofs.Common.{to_z, of_z, ap, ◌∙◌, lit<}
use Rattle.std.specs.Prelude.{max, neg_ℤ}
use Rattle.std.specs.Int.{int_max}
use Rattle.std.proofs.Math.Nat.{mul-le-mul}

pub abs_limit : (z : ℤ) (n : ℕ) → pos 0 ≤ℤ z → z ≤ℤ pos n → unsigned_abs z ≤ n
abs_limit (pos m) n low high = omega (arith, ints)
abs_limit (negsuc m) n low high = omega (arith, ints)

pub abs_product : (a b : ℤ) (m n : ℕ) → unsigned_abs a ≤ m → unsigned_abs b ≤ n → unsigned_abs (a *ℤ b) ≤ m * n
abs_product a b m n p q = subst (λ (k : ℕ). k ≤ m * n) (sym (unsigned_abs-mul a b)) (mul-le-mul p q)

pub fits_in : (z : ℤ) (n : ℕ) → unsigned_abs z ≤ n → n < 2 ^ 127 → FitsSigned w128 z
fits_in z n le lt = fits_signed_from_abs w128 z (omega arith)

pub kept : (z : ℤ) (n : ℕ) → unsigned_abs z ≤ n → n < 2 ^ 127 → to_z w128 (of_z w128 z) ≡ z
kept z n le lt = to_z-of_z w128 z (fits_in z n le lt)

pub high_limit : (z : ℤ) (n : ℕ) → (neg_ℤ (pos n)) ≤ℤ z → z ≤ℤ pos n → unsigned_abs z ≤ n
high_limit (pos m) n low high = omega (arith, ints)
high_limit (negsuc m) n low high = omega (arith, ints)

greater : (n : ℕ) → int_max (pos n) (pos 1) ≡ pos (max 1 n)
greater n = omega (arith, ints, clamps)

pub magnitude : (r a m : ℤ) → unsigned_abs r ≤ 2 ^ 30 → a ≡ pos (unsigned_abs (to_z w128 (of_z w128 r))) → m ≡ int_max (to_z w128 (of_z w128 a)) (pos 1) → m ≡ pos (max 1 (unsigned_abs r))
magnitude r a m small e f =
    let at : a ≡ pos (unsigned_abs r) = e ∙ ap (λ (z : ℤ). pos (unsigned_abs z)) (kept r (2 ^ 30) small (lit< tt)) in
    let low : unsigned_abs a ≤ 2 ^ 30 = subst (λ (z : ℤ). unsigned_abs z ≤ 2 ^ 30) (sym at) small in
    f ∙ ap (λ (z : ℤ). int_max z (pos 1)) (kept a (2 ^ 30) low (lit< tt) ∙ at) ∙ greater (unsigned_abs r)

pub limit_of : (n : ℕ) → n ≤ 2 ^ 30 → max 1 n ≤ 2 ^ 30
limit_of n le = omega arith
