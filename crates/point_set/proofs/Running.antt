-- Running sums of signed products, and how large they are.
use Rattle.std.proofs.Common.{◌≡◌, ℕ, zero, suc, ◌+◌, ◌-◌, ◌*◌, ◌^◌, ◌<◌, ◌≤◌, List, [], ◌∷◌, length, get_or, take, ap, arith, sym, subst, ◌∙◌}
use Rattle.std.specs.Prelude.{ℤ, ◌+ℤ◌, ◌*ℤ◌, unsigned_abs, FitsSigned, sum_by}
use Rattle.std.specs.Int.{w128}
use Rattle.std.proofs.lemmas.Int.{fits_signed_from_abs, unsigned_abs-mul}
use Rattle.std.proofs.lemmas.List.Sums.{sum_by-cons, sum_by_more, sum_by_more_le}
use Rattle.scaled_num.specs.Sums.{below, total}
use Rattle.game_model.proofs.Sizes.{total-more}
use Rattle.belief.proofs.Sums.{sum-below-more}
use Rattle.scaled_num.proofs.Products.{abs-add}
use Rattle.scaled_num.proofs.Sums.{total-below-more}

sum-below-rises : (f : ℕ → ℕ) (n k : ℕ) → sum_by f (below n) ≤ sum_by f (below (n + k))
sum-below-rises f n zero = subst (λ (m : ℕ). sum_by f (below n) ≤ sum_by f (below m)) (same n) (omega arith)
  where
    same : (n : ℕ) → n ≡ n + 0
    same n = omega arith
sum-below-rises f n (suc k) = subst (λ (m : ℕ). sum_by f (below n) ≤ sum_by f (below m)) (same n k) (omega (arith, sum-below-rises f n k, sum-below-more f (n + k)))
  where
    same : (n k : ℕ) → n + k + 1 ≡ n + suc k
    same n k = omega arith

pub sum-below-le : (f : ℕ → ℕ) (n m : ℕ) → n ≤ m → sum_by f (below n) ≤ sum_by f (below m)
sum-below-le f n m l = let same : n + (m - n) ≡ m = omega arith in subst (λ (k : ℕ). sum_by f (below n) ≤ sum_by f (below k)) same (sum-below-rises f n (m - n))

-- one more product over the first numbers, each of at most so much
pub record NextProduct (f : ℕ → ℤ) (n most : ℕ) (x y z : ℤ) : Type 0 where
  pub x_fits : FitsSigned w128 x
  pub y_fits : FitsSigned w128 y
  pub product_fits : FitsSigned w128 (x *ℤ y)
  pub sum_fits : FitsSigned w128 (z +ℤ x *ℤ y)
  pub is : z +ℤ x *ℤ y ≡ total f (below (n + 1))
  pub small : unsigned_abs (z +ℤ x *ℤ y) ≤ (n + 1) * most

pub next-product : (f : ℕ → ℤ) (n most : ℕ) (x y z : ℤ) → f n ≡ x *ℤ y → unsigned_abs x ≤ 2 ^ 100 → unsigned_abs y ≤ 2 ^ 100 → unsigned_abs x * unsigned_abs y ≤ most → (n + 1) * most ≤ 2 ^ 120 →
    z ≡ total f (below n) → unsigned_abs z ≤ n * most → NextProduct f n most x y z
next-product f n most x y z e lx ly lxy room is small =
    let size : unsigned_abs (x *ℤ y) ≤ most = rw (unsigned_abs-mul x y) lxy in
    let more : unsigned_abs (z +ℤ x *ℤ y) ≤ (n + 1) * most = omega (arith, abs-add z (x *ℤ y)) in
    record {
      x_fits = fits_signed_from_abs w128 x (omega arith);
      y_fits = fits_signed_from_abs w128 y (omega arith);
      product_fits = fits_signed_from_abs w128 (x *ℤ y) (omega arith);
      sum_fits = fits_signed_from_abs w128 (z +ℤ x *ℤ y) (omega arith);
      is = ap (λ (w : ℤ). w +ℤ x *ℤ y) is ∙ ap (λ (w : ℤ). total f (below n) +ℤ w) (sym e) ∙ sym (total-below-more f n);
      small = more;
    }

-- one more product over a list, whose magnitudes sum to at most 2^124
pub record NextItem {X : Type 0} (f : X → ℤ) (xs : List X) (i : ℕ) (x y z : ℤ) : Type 0 where
  pub product_fits : FitsSigned w128 (x *ℤ y)
  pub sum_fits : FitsSigned w128 (z +ℤ x *ℤ y)
  pub is : z +ℤ x *ℤ y ≡ total f (take (i + 1) xs)
  pub small : unsigned_abs (z +ℤ x *ℤ y) ≤ sum_by (λ k. unsigned_abs (f k)) (take (i + 1) xs)

pub next-item : {X : Type 0} (f : X → ℤ) (xs : List X) (i : ℕ) (d : X) (x y z : ℤ) → i < length xs → f (get_or xs i d) ≡ x *ℤ y → sum_by (λ k. unsigned_abs (f k)) xs ≤ 2 ^ 124 →
    z ≡ total f (take i xs) → unsigned_abs z ≤ sum_by (λ k. unsigned_abs (f k)) (take i xs) → NextItem f xs i x y z
next-item f xs i d x y z l e room is small =
    let size : unsigned_abs (x *ℤ y) ≡ unsigned_abs (f (get_or xs i d)) = ap unsigned_abs (sym e) in
    let whole = sum_by_more_le (λ k. unsigned_abs (f k)) xs i d l in
    let more : unsigned_abs (z +ℤ x *ℤ y) ≤ sum_by (λ k. unsigned_abs (f k)) (take (i + 1) xs) = rw (sum_by_more (λ k. unsigned_abs (f k)) xs i d l) (omega (arith, abs-add z (x *ℤ y))) in
    record {
      product_fits = fits_signed_from_abs w128 (x *ℤ y) (omega arith);
      sum_fits = fits_signed_from_abs w128 (z +ℤ x *ℤ y) (omega (arith, abs-add z (x *ℤ y)));
      is = ap (λ (w : ℤ). w +ℤ x *ℤ y) is ∙ ap (λ (w : ℤ). total f (take i xs) +ℤ w) (sym e) ∙ sym (total-more f xs i d l);
      small = more;
    }

-- one more sum over the first numbers, whose magnitudes sum to at most 2^124
pub record NextSum (f : ℕ → ℤ) (h : ℕ → ℕ) (n : ℕ) (x z : ℤ) : Type 0 where
  pub sum_fits : FitsSigned w128 (z +ℤ x)
  pub is : z +ℤ x ≡ total f (below (n + 1))
  pub small : unsigned_abs (z +ℤ x) ≤ sum_by h (below (n + 1))

pub next-sum : (f : ℕ → ℤ) (h : ℕ → ℕ) (n m : ℕ) (x z : ℤ) → n < m → f n ≡ x → unsigned_abs x ≤ h n → sum_by h (below m) ≤ 2 ^ 124 → z ≡ total f (below n) → unsigned_abs z ≤ sum_by h (below n) → NextSum f h n x z
next-sum f h n m x z l e lx room is small =
    let whole = sum-below-le h (n + 1) m (omega arith) in
    let more : unsigned_abs (z +ℤ x) ≤ sum_by h (below (n + 1)) = omega (arith, abs-add z x, sum-below-more h n) in
    record {
      sum_fits = fits_signed_from_abs w128 (z +ℤ x) (omega arith);
      is = ap (λ (w : ℤ). w +ℤ x) is ∙ ap (λ (w : ℤ). total f (below n) +ℤ w) (sym e) ∙ sym (total-below-more f n);
      small = more;
    }

-- a sum is no larger than the sum of the magnitudes
pub total-size : {X : Type 0} (f : X → ℤ) (xs : List X) → unsigned_abs (total f xs) ≤ sum_by (λ x. unsigned_abs (f x)) xs
total-size f [] = omega arith
total-size f (x ∷ xs) = rw (sum_by-cons (λ k. unsigned_abs (f k)) x xs) (omega (arith, abs-add (f x) (total f xs), total-size f xs))

pub at-most-sum : (h : ℕ → ℕ) (n m : ℕ) → n < m → h n ≤ sum_by h (below m)
at-most-sum h n m l = omega (arith, sum-below-more h n, sum-below-le h (n + 1) m (omega arith))
