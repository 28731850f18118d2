-- Sums over few elements of small terms, and the number of starts.
use Rattle.std.proofs.Common.{◌≡◌, ℕ, suc, ◌+◌, ◌*◌, ◌^◌, ◌<◌, ◌≤◌, List, [], ◌∷◌, length, get_or, take, ap, arith, refl, sym, ◌∙◌}
use Rattle.std.specs.Prelude.{ℤ, pos, ◌+ℤ◌, ◌≤ℤ◌, unsigned_abs, FitsSigned}
use Rattle.std.specs.List.{AllByRecursion}
use Rattle.std.specs.Int.{w128}
use Rattle.std.proofs.lemmas.Int.{ints, fits_signed_from_abs}
use Rattle.scaled_num.specs.Sums.{total}
use Rattle.scaled_num.proofs.Products.{abs-add}
use Rattle.game_model.proofs.Pay.{each-from}
use Rattle.game_model.proofs.Sizes.{total-more}
use Rattle.point_set.proofs.Items.{later, rest-rises}
use Rattle.point_set.specs.Split.{AreRisingPairs}

-- a sum over the first elements, each of whose terms is at most 2^110 in magnitude
pub record SumTo {X : Type 0} (f : X → ℤ) (xs : List X) (i : ℕ) (sum : ℤ) : Type 0 where
  pub is : sum ≡ total f (take i xs)
  pub small : unsigned_abs sum ≤ i * 2 ^ 110

pub record SumNext {X : Type 0} (f : X → ℤ) (xs : List X) (d : X) (i : ℕ) (sum : ℤ) : Type 0 where
  pub term_fits : FitsSigned w128 (f (get_or xs i d))
  pub sum_fits : FitsSigned w128 (sum +ℤ f (get_or xs i d))
  pub so_far : SumTo f xs (i + 1) (sum +ℤ f (get_or xs i d))

pub sum-none : {X : Type 0} (f : X → ℤ) (xs : List X) → SumTo f xs 0 (pos 0)
sum-none f xs = record { is = refl; small = omega (arith, ints) }

pub sum-next : {X : Type 0} (f : X → ℤ) (xs : List X) (d : X) (i : ℕ) (sum : ℤ) → i < length xs → length xs ≤ 1024 → unsigned_abs (f (get_or xs i d)) ≤ 2 ^ 110 → SumTo f xs i sum → SumNext f xs d i sum
sum-next f xs d i sum l few small so_far =
    let x : ℤ = f (get_or xs i d) in
    let before = so_far.small in
    let after : unsigned_abs (sum +ℤ x) ≤ (i + 1) * 2 ^ 110 = omega (arith, abs-add sum x) in
    record {
      term_fits = fits_signed_from_abs w128 x (omega arith);
      sum_fits = fits_signed_from_abs w128 (sum +ℤ x) (omega arith);
      so_far = record { is = ap (λ (z : ℤ). z +ℤ x) so_far.is ∙ sym (total-more f xs i d l); small = after };
    }

-- numbers that rise from a to below n are few
rising-few : (a n : ℕ) (xs : List (ℕ × ℤ)) → a ≤ n → AreRisingPairs xs → AllByRecursion (λ x. a ≤ x.0) xs → AllByRecursion (λ x. x.0 < n) xs → length xs + a ≤ n
rising-few a n [] l h low high = omega arith
rising-few a n (x ∷ xs) l h low high =
    let rest : length xs + suc x.0 ≤ n = rising-few (suc x.0) n xs high.0 (rest-rises x xs h) (later x xs h) high.1 in
    let first : a ≤ x.0 = low.0 in
    omega arith

pub starts-few : (n : ℕ) (xs : List (ℕ × ℤ)) → AreRisingPairs xs → AllByRecursion (λ x. x.0 < n) xs → length xs ≤ n
starts-few n xs h high = omega (arith, rising-few 0 n xs (omega arith) h (each-from (λ (x : ℕ × ℤ). x.0 < n) _ xs (λ x l. omega arith) high) high)

-- none of the terms that are not negative is above their sum
pub each-below_total : {X : Type 0} (f : X → ℤ) (xs : List X) → AllByRecursion (λ x. pos 0 ≤ℤ f x) xs → AllByRecursion (λ x. f x ≤ℤ total f xs) xs
each-below_total f [] h = tt
each-below_total {X} f (x ∷ xs) h =
    let rest = each-below_total f xs h.1 in
    (first (f x) (total f xs) (not-negative f xs h.1), each-from (λ (y : X). f y ≤ℤ total f xs) _ xs (λ y l. more (f x) (f y) (total f xs) h.0 l) rest)
  where
    not-negative : {X : Type 0} (f : X → ℤ) (xs : List X) → AllByRecursion (λ x. pos 0 ≤ℤ f x) xs → pos 0 ≤ℤ total f xs
    not-negative f [] h = omega (arith, ints)
    not-negative f (x ∷ xs) h = both (f x) (total f xs) h.0 (not-negative f xs h.1)
      where
        both : (x y : ℤ) → pos 0 ≤ℤ x → pos 0 ≤ℤ y → pos 0 ≤ℤ (x +ℤ y)
        both x y h k = omega (arith, ints)

    first : (x y : ℤ) → pos 0 ≤ℤ y → x ≤ℤ (x +ℤ y)
    first x y h = omega (arith, ints)

    more : (x y z : ℤ) → pos 0 ≤ℤ x → y ≤ℤ z → y ≤ℤ (x +ℤ z)
    more x y z h k = omega (arith, ints)
