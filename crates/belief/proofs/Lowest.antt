-- Numbers divided by their greatest common divisor, and the beliefs that they are.
use Rattle.std.proofs.Common.{◌≡◌, ℕ, zero, suc, ◌*◌, ◌/◌, ◌^◌, ◌<◌, ◌≤◌, List, [], ◌∷◌, length, map, refl, ap, arith, sym, subst}
use Rattle.std.specs.Prelude.{ℤ, pos, negsuc, ◌*ℤ◌, ◌≤ℤ◌, ◌<ℤ◌, unsigned_abs}
use Rattle.std.specs.Int.{◌∣◌}
use Rattle.std.specs.List.{AllByRecursion}
use Rattle.std.proofs.lemmas.Int.{ints}
use Rattle.std.proofs.lemmas.List.{length-map}
use Rattle.std.proofs.lemmas.Nat.Gcd.{dvd-zero}
use Rattle.std.proofs.Math.Nat.{mul-dvd-mul_left, dvd_of_mul-dvd-mul_left, eq-zero_of_zero-dvd, eq-one_of_dvd-one, div-le_self, mul-div_cancel'}
use Rattle.scaled_num.specs.Sums.{sum_of}
use Rattle.game_model.specs.Game.{AreCoprime, IsWithin}
use Rattle.scaled_num.proofs.Divisors.{Divides}
use Rattle.belief.specs.Beliefs.{AreParts}
use Rattle.belief.specs.Quotients.{quotients}
use Rattle.belief.specs.Reduced.{AreLowest, IsReduced, IsSharedOut, most_total}

abbrev pub IsNotNegative : ℤ → Type 0
IsNotNegative x = pos 0 ≤ℤ x

ap-cons : {x y : ℤ} {xs ys : List ℤ} → x ≡ y → xs ≡ ys → x ∷ xs ≡ y ∷ ys
ap-cons e f = cc

-- divided by 1
pub whole : (xs : List ℤ) → AllByRecursion IsNotNegative xs → xs ≡ quotients 1 xs
whole [] h = refl
whole (pos n ∷ xs) h = ap-cons (ap pos (omega arith)) (whole xs h.1)
whole (negsuc n ∷ xs) h = let low = h.0 in absurd (omega (arith, ints))

-- an exact quotient
exact : (d : ℕ) (x : ℤ) → IsNotNegative x → Divides d x → x ≡ pos d *ℤ pos (unsigned_abs x / d)
exact d (pos n) low h = ap pos (sym (mul-div_cancel' d h))
exact d (negsuc n) low h = absurd (omega (arith, ints))

pub multiple : (d : ℕ) (xs : List ℤ) → AllByRecursion IsNotNegative xs → AllByRecursion (Divides d) xs → xs ≡ map (λ x. pos d *ℤ x) (quotients d xs)
multiple d [] h divides = refl
multiple d (x ∷ xs) h divides = ap-cons (exact d x h.0 divides.0) (multiple d xs h.1 divides.1)

pub quotients-none_negative : (d : ℕ) (xs : List ℤ) → AllByRecursion IsNotNegative (quotients d xs)
quotients-none_negative d [] = tt
quotients-none_negative d (x ∷ xs) = (omega (arith, ints), quotients-none_negative d xs)

pub quotients-sum : (d : ℕ) (xs : List ℤ) → AllByRecursion IsNotNegative xs → sum_of (quotients d xs) ≤ℤ sum_of xs
quotients-sum d [] h = omega (arith, ints)
quotients-sum d (pos n ∷ xs) h = omega (arith, ints, quotients-sum d xs h.1, div-le_self n d)
quotients-sum d (negsuc n ∷ xs) h = let low = h.0 in absurd (omega (arith, ints))

-- what divides all quotients, times the divisor divides all numbers
lift : (d e : ℕ) (xs : List ℤ) → AllByRecursion IsNotNegative xs → AllByRecursion (Divides d) xs → AllByRecursion (Divides e) (quotients d xs) → AllByRecursion (Divides (d * e)) xs
lift d e [] each divides h = tt
lift d e (x ∷ xs) each divides h =
    let size : d * (unsigned_abs x / d) ≡ unsigned_abs x = mul-div_cancel' d divides.0 in
    (subst (λ (n : ℕ). d * e ∣ n) size (mul-dvd-mul_left e d h.0), lift d e xs each.1 divides.1 h.1)

pub quotients-coprime : (d : ℕ) (xs : List ℤ) → 0 < d → AllByRecursion IsNotNegative xs → AllByRecursion (Divides d) xs →
    ((e : ℕ) → AllByRecursion (Divides e) xs → e ∣ d) → AreCoprime (quotients d xs)
quotients-coprime d xs low each divides greatest e h =
    let most : d * e ∣ d = greatest (d * e) (lift d e xs each divides h) in
    let again : d * e ∣ d * 1 = subst (λ (n : ℕ). d * e ∣ n) (omega arith) most in
    eq-one_of_dvd-one (dvd_of_mul-dvd-mul_left e low again)

-- zeros, and what divides them
abbrev pub IsZero : ℤ → Type 0
IsZero x = x ≡ pos 0

pub zeros-divided : (xs : List ℤ) (d : ℕ) → AllByRecursion IsZero xs → AllByRecursion (Divides d) xs
zeros-divided [] d h = tt
zeros-divided (x ∷ xs) d h = (subst (λ (z : ℤ). d ∣ unsigned_abs z) (sym h.0) (dvd-zero d), zeros-divided xs d h.1)

pub zeros-from : (xs : List ℤ) → AllByRecursion (Divides 0) xs → AllByRecursion IsZero xs
zeros-from [] h = tt
zeros-from (x ∷ xs) h = (none x (eq-zero_of_zero-dvd h.0), zeros-from xs h.1)
  where
    none : (x : ℤ) → unsigned_abs x ≡ 0 → x ≡ pos 0
    none x e = omega (arith, ints)

pub sum-low : (xs : List ℤ) → AllByRecursion IsNotNegative xs → pos 0 ≤ℤ sum_of xs
sum-low [] h = omega (arith, ints)
sum-low (x ∷ xs) h = let low = h.0 in omega (arith, ints, sum-low xs h.1)

zeros-from_sum : (xs : List ℤ) → AllByRecursion IsNotNegative xs → sum_of xs ≤ℤ pos 0 → AllByRecursion IsZero xs
zeros-from_sum [] h s = tt
zeros-from_sum (x ∷ xs) h s = let low = h.0 in (omega (arith, ints, sum-low xs h.1), zeros-from_sum xs h.1 (omega (arith, ints)))

-- coprime numbers are not all zero
pub sum-some : (xs : List ℤ) → AllByRecursion IsNotNegative xs → AreCoprime xs → pos 1 ≤ℤ sum_of xs
sum-some xs h coprime = above (sum_of xs) (λ s. let two : 2 ≡ 1 = coprime 2 (zeros-divided xs 2 (zeros-from_sum xs h s)) in absurd (omega arith))
  where
    above : (z : ℤ) → (z ≤ℤ pos 0 → ⊥) → pos 1 ≤ℤ z
    above (pos zero) never = absurd (never (omega (arith, ints)))
    above (pos (suc n)) never = omega (arith, ints)
    above (negsuc n) never = absurd (never (omega (arith, ints)))

-- each number is at most the sum
pub each-within : (xs : List ℤ) (most : ℤ) → AllByRecursion IsNotNegative xs → sum_of xs ≤ℤ most → AllByRecursion (IsWithin (pos 0) most) xs
each-within [] most h s = tt
each-within (x ∷ xs) most h s = let low = h.0 in ((low, omega (arith, ints, sum-low xs h.1)), each-within xs most h.1 (omega (arith, ints)))

pub parts-from : (xs : List ℤ) → length xs ≤ 16 → AllByRecursion IsNotNegative xs → AreCoprime xs → sum_of xs ≤ℤ pos (2 ^ 20) → AreParts xs
parts-from xs few h coprime s = record {
  few = few;
  belief = record {
    long = refl;
    each = each-within xs (pos (2 ^ 20)) h s;
    sums = (sum-some xs h coprime, s);
  };
  coprime = coprime;
}

-- what numbers are in lowest terms
pub record Lowered (xs qs : List ℤ) : Type 0 where
  pub long : length qs ≡ length xs
  pub none_negative : AllByRecursion IsNotNegative qs
  pub lowest : AreLowest xs qs
  pub most : sum_of qs ≤ℤ sum_of xs

pub lowered : (d : ℕ) (xs qs : List ℤ) → 0 < d → AllByRecursion IsNotNegative xs → AllByRecursion (Divides d) xs → ((e : ℕ) → AllByRecursion (Divides e) xs → e ∣ d) →
    qs ≡ quotients d xs → Lowered xs qs
lowered d xs qs low each divides greatest is = subst (Lowered xs) (sym is) (record {
  long = length-map xs (λ x. pos (unsigned_abs x / d));
  none_negative = quotients-none_negative d xs;
  lowest = record {
    divisor = d;
    times = multiple d xs each divides;
    coprime = quotients-coprime d xs low each divides greatest;
  };
  most = quotients-sum d xs each;
})

-- the divisor of numbers that are not all zero
pub sum-of_zeros : (xs : List ℤ) → AllByRecursion IsZero xs → sum_of xs ≡ pos 0
sum-of_zeros [] h = refl
sum-of_zeros (x ∷ xs) h = omega (arith, ints, h.0, sum-of_zeros xs h.1)

pub divisor-some : (d : ℕ) (xs : List ℤ) → AllByRecursion (Divides d) xs → pos 1 ≤ℤ sum_of xs → 0 < d
divisor-some zero xs divides some = absurd (omega (arith, ints, sum-of_zeros xs (zeros-from xs divides)))
divisor-some (suc d) xs divides some = omega arith

-- the belief of a mass whose lowest terms have the total of a belief, and of another
pub reduced-light : (mass lowest parts : List ℤ) → Lowered mass lowest → sum_of lowest ≤ℤ most_total → parts ≡ lowest → IsReduced mass parts
reduced-light mass lowest parts h s is = record {
  lowest = lowest;
  are_lowest = h.lowest;
  light = λ few. is;
  heavy = λ many. absurd (omega (arith, ints));
}

pub reduced-heavy : (mass lowest parts : List ℤ) → Lowered mass lowest → most_total <ℤ sum_of lowest → IsSharedOut lowest parts → IsReduced mass parts
reduced-heavy mass lowest parts h s shared = record {
  lowest = lowest;
  are_lowest = h.lowest;
  light = λ few. absurd (omega (arith, ints));
  heavy = λ many. shared;
}
