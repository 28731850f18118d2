-- The weights of a belief over their greatest common divisor.
use Rattle.std.proofs.Common.{◌≡◌, ℕ, zero, suc, ◌*◌, ◌^◌, ◌≤◌, List, [], ◌∷◌, map, refl, ap, arith, sym, subst, ◌∙◌}
use Rattle.std.specs.Prelude.{ℤ, pos, negsuc, ◌*ℤ◌, ◌≤ℤ◌, unsigned_abs, int_div}
use Rattle.std.specs.List.{AllByRecursion}
use Rattle.std.specs.Int.{◌∣◌}
use Rattle.std.proofs.lemmas.Int.{ints, unsigned_abs-mul}
use Rattle.std.proofs.lemmas.Nat.{div-add-mod'}
use Rattle.std.proofs.lemmas.Nat.Gcd.{le_of_dvd, mod-eq-zero_of_dvd}
use Rattle.std.proofs.Math.Nat.{mul-dvd-mul_left, dvd_of_mul-dvd-mul_left, eq-zero_of_zero-dvd, eq-one_of_dvd-one}
use Rattle.scaled_num.proofs.Divisors.{Divides}
use Rattle.scaled_num.specs.Sums.{sum_of}
use Rattle.game_model.specs.Game.{IsWithin, AreCoprime}

-- an exact quotient
pub exact : (d : ℕ) (w : ℤ) → pos 0 ≤ℤ w → Divides d w → w ≡ pos d *ℤ int_div w (pos d)
exact d (pos a) low h = ap pos (omega (arith, mod-eq-zero_of_dvd d h, div-add-mod' a d))
exact d (negsuc a) low h = absurd (omega (arith, ints))

-- the divisor of the weights of a belief is at least 1, and small
pub divisor-small : (d : ℕ) (ws : List ℤ) → AllByRecursion (IsWithin (pos 0) (pos (2 ^ 20))) ws → AllByRecursion (Divides d) ws → pos 1 ≤ℤ (sum_of ws) → (1 ≤ d) × (d ≤ 2 ^ 20)
divisor-small d [] each divides low = absurd (omega (arith, ints))
divisor-small d (pos zero ∷ ws) each divides low = divisor-small d ws each.1 divides.1 (omega (arith, ints))
divisor-small zero (pos (suc n) ∷ ws) each divides low = absurd (omega (arith, eq-zero_of_zero-dvd divides.0))
divisor-small (suc d) (pos (suc n) ∷ ws) each divides low =
    let high = each.0.1 in
    (omega arith, omega (arith, ints, le_of_dvd {m = suc d} {n = suc n} (omega arith) divides.0))
divisor-small d (negsuc n ∷ ws) each divides low = let w = each.0.0 in absurd (omega (arith, ints))

-- the quotients, and what they keep
abbrev pub quotients : ℕ → List ℤ → List ℤ
quotients d ws = map (λ x. int_div x (pos d)) ws

pub multiple : (d : ℕ) (ws : List ℤ) → AllByRecursion (IsWithin (pos 0) (pos (2 ^ 20))) ws → AllByRecursion (Divides d) ws → ws ≡ map (λ x. pos d *ℤ x) (quotients d ws)
multiple d [] each divides = refl
multiple d (w ∷ ws) each divides = ap-cons (exact d w each.0.0 divides.0) (multiple d ws each.1 divides.1)
  where
    ap-cons : {x y : ℤ} {xs ys : List ℤ} → x ≡ y → xs ≡ ys → x ∷ xs ≡ y ∷ ys
    ap-cons e f = cc

-- what divides all quotients, times the divisor divides all weights
lift : (d e : ℕ) (ws : List ℤ) → AllByRecursion (IsWithin (pos 0) (pos (2 ^ 20))) ws → AllByRecursion (Divides d) ws → AllByRecursion (Divides e) (quotients d ws) → AllByRecursion (Divides (d * e)) ws
lift d e [] each divides h = tt
lift d e (w ∷ ws) each divides h =
    let q : ℤ = int_div w (pos d) in
    let size : unsigned_abs w ≡ d * unsigned_abs q = ap unsigned_abs (exact d w each.0.0 divides.0) ∙ unsigned_abs-mul (pos d) q in
    (subst (λ (n : ℕ). d * e ∣ n) (sym size) (mul-dvd-mul_left e d h.0), lift d e ws each.1 divides.1 h.1)

pub quotients-coprime : (d : ℕ) (ws : List ℤ) → 1 ≤ d → AllByRecursion (IsWithin (pos 0) (pos (2 ^ 20))) ws → AllByRecursion (Divides d) ws →
    ((e : ℕ) → AllByRecursion (Divides e) ws → e ∣ d) → AreCoprime (quotients d ws)
quotients-coprime d ws low each divides greatest e h =
    let most : d * e ∣ d = greatest (d * e) (lift d e ws each divides h) in
    let again : d * e ∣ d * 1 = subst (λ (n : ℕ). d * e ∣ n) (omega arith) most in
    eq-one_of_dvd-one (dvd_of_mul-dvd-mul_left e low again)
