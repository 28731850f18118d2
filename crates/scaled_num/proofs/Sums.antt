-- Sums of signed numbers over lists.
use Rattle.std.proofs.Common.{◌≡◌, ℕ, suc, zero, ◌+◌, ◌*◌, ◌<◌, ◌≤◌, List, [], ◌∷◌, ◌++◌, length, get_or, refl, ap, arith, sym, ◌∙◌, add-one}
use Rattle.std.specs.Prelude.{ℤ, pos, ◌+ℤ◌, ◌*ℤ◌, ◌≤ℤ◌, sum_by, map, flat_map}
use Rattle.std.specs.List.{AllByRecursion, range_with_len}
use Rattle.std.proofs.lemmas.Int.{ints}
use Rattle.std.proofs.lemmas.List.Sums.{sum_by-cons}
use Rattle.std.specs.Prelude.{cond, ◌==◌}
use Rattle.std.proofs.Common.{inl, inr, ne_eqb}
use Rattle.std.proofs.lemmas.Bool.Decides.{eqb_tells}
use borrow.Author.Differences.{up}
use Rattle.scaled_num.specs.Sums.{total, below, sum_of}
use Rattle.scaled_num.proofs.Products.{mul-addℤ, mulℤ_comm}

pub total-append : {X : Type 0} (f : X → ℤ) (xs ys : List X) → total f (xs ++ ys) ≡ total f xs +ℤ total f ys
total-append f [] ys = omega (arith, ints)
total-append f (x ∷ xs) ys = omega (arith, ints, total-append f xs ys)

pub total-flat_map : {X Y : Type 0} (f : Y → ℤ) (g : X → List Y) (xs : List X) → total f (flat_map g xs) ≡ total (λ x. total f (g x)) xs
total-flat_map f g [] = refl
total-flat_map f g (x ∷ xs) = total-append f (g x) (flat_map g xs) ∙ ap (λ z. total f (g x) +ℤ z) (total-flat_map f g xs)

pub total-map : {X Y : Type 0} (f : Y → ℤ) (g : X → Y) (xs : List X) → total f (map g xs) ≡ total (λ x. f (g x)) xs
total-map f g [] = refl
total-map f g (x ∷ xs) = ap (λ z. f (g x) +ℤ z) (total-map f g xs)

pub total-scale : {X : Type 0} (k : ℤ) (f : X → ℤ) (xs : List X) → total (λ x. k *ℤ f x) xs ≡ k *ℤ total f xs
total-scale k f [] = omega (arith, ints)
total-scale k f (x ∷ xs) = ap (λ z. k *ℤ f x +ℤ z) (total-scale k f xs) ∙ sym (mul-addℤ k (f x) (total f xs))

pub total-add : {X : Type 0} (f g : X → ℤ) (xs : List X) → total (λ x. f x +ℤ g x) xs ≡ total f xs +ℤ total g xs
total-add f g [] = refl
total-add f g (x ∷ xs) = omega (arith, ints, total-add f g xs)

pub total-same : {X : Type 0} (f g : X → ℤ) (xs : List X) → AllByRecursion (λ x. f x ≡ g x) xs → total f xs ≡ total g xs
total-same f g [] h = refl
total-same f g (x ∷ xs) h = omega (arith, ints, h.0, total-same f g xs h.1)

pub total-le : {X : Type 0} (f g : X → ℤ) (xs : List X) → AllByRecursion (λ x. f x ≤ℤ g x) xs → total f xs ≤ℤ total g xs
total-le f g [] h = omega (arith, ints)
total-le f g (x ∷ xs) h = omega (arith, ints, h.0, total-le f g xs h.1)

pub total-pos : {X : Type 0} (f : X → ℕ) (xs : List X) → total (λ x. pos (f x)) xs ≡ pos (sum_by f xs)
total-pos f [] = refl
total-pos f (x ∷ xs) = ap (λ z. pos (f x) +ℤ z) (total-pos f xs) ∙ ap pos (sym (sum_by-cons f x xs))

-- numbers that are each between 0 and a bound sum to at most so many times the bound
pub sum-most : (most : ℕ) (xs : List ℤ) → AllByRecursion (λ x. (pos 0 ≤ℤ x) × (x ≤ℤ pos most)) xs → sum_of xs ≤ℤ pos (length xs * most)
sum-most most [] h = omega (arith, ints)
sum-most most (x ∷ xs) h = let high = h.0.1 in omega (arith, ints, sum-most most xs h.1, one-more (length xs) most)
  where
    one-more : (n k : ℕ) → suc n * k ≡ k + n * k
    one-more n k = omega arith

-- what holds of everything holds of each element
pub each : {X : Type 0} {P : X → Type 0} → ((x : X) → P x) → (xs : List X) → AllByRecursion P xs
each h [] = tt
each h (x ∷ xs) = (h x, each h xs)

-- what holds of each number from a on holds of each element of the range
pub from-each : (P : ℕ → Type 0) (a n : ℕ) → ((i : ℕ) → a ≤ i → i < a + n → P i) → AllByRecursion P (range_with_len a n)
from-each P a zero h = tt
from-each P a (suc n) h = (h a (omega arith) (omega arith), from-each P (a + 1) n (λ i l m. h i (omega arith) (omega arith)))

pub below-each : (P : ℕ → Type 0) (n : ℕ) → ((i : ℕ) → i < n → P i) → AllByRecursion P (below n)
below-each P n h = from-each P 0 n (λ i l m. h i (omega arith))

-- a sum over the places of a list is the sum over the list
shift : (f : ℕ → ℤ) (a n : ℕ) → total f (range_with_len (a + 1) n) ≡ total (λ i. f (suc i)) (range_with_len a n)
shift f a zero = refl
shift f a (suc n) = rw (add-one a) (ap (λ z. f (suc a) +ℤ z) (rw (← (add-one a)) (shift f (a + 1) n)))

pub total-places : {X : Type 0} (f : X → ℤ) (d : X) (xs : List X) → total (λ i. f (get_or xs i d)) (below (length xs)) ≡ total f xs
total-places f d [] = refl
total-places f d (x ∷ xs) = ap (λ z. f x +ℤ z) (shift (λ i. f (get_or (x ∷ xs) i d)) 0 (length xs) ∙ total-places f d xs)

pub each-append : {X : Type 0} (P : X → Type 0) (xs ys : List X) → AllByRecursion P xs → AllByRecursion P ys → AllByRecursion P (xs ++ ys)
each-append P [] ys h k = k
each-append P (x ∷ xs) ys h k = (h.0, each-append P xs ys h.1 k)

pub each-flat_map : {X Y : Type 0} (P : Y → Type 0) (f : X → List Y) (xs : List X) → AllByRecursion (λ x. AllByRecursion P (f x)) xs → AllByRecursion P (flat_map f xs)
each-flat_map P f [] h = tt
each-flat_map P f (x ∷ xs) h = each-append P (f x) (flat_map f xs) h.0 (each-flat_map P f xs h.1)

pub each-map : {X Y : Type 0} (P : Y → Type 0) (f : X → Y) (xs : List X) → AllByRecursion (λ x. P (f x)) xs → AllByRecursion P (map f xs)
each-map P f [] h = tt
each-map P f (x ∷ xs) h = (h.0, each-map P f xs h.1)

pub each-at : {X : Type 0} (P : X → Type 0) (d : X) (xs : List X) (i : ℕ) → AllByRecursion P xs → i < length xs → P (get_or xs i d)
each-at P d [] i h l = absurd (omega arith)
each-at P d (x ∷ xs) zero h l = h.0
each-at P d (x ∷ xs) (suc i) h l = each-at P d xs i h.1 (omega arith)

-- sums over the numbers below n
pub total-below : (n : ℕ) (f g : ℕ → ℤ) → ((i : ℕ) → i < n → f i ≡ g i) → total f (below n) ≡ total g (below n)
total-below n f g h = total-same f g (below n) (below-each (λ i. f i ≡ g i) n h)

pub total-below-le : (n : ℕ) (f g : ℕ → ℤ) → ((i : ℕ) → i < n → f i ≤ℤ g i) → total f (below n) ≤ℤ total g (below n)
total-below-le n f g h = total-le f g (below n) (below-each (λ i. f i ≤ℤ g i) n h)

-- a sum of weights times one number is their sum times it
pub total-weights : {X : Type 0} (f : X → ℕ) (k : ℤ) (xs : List X) → total (λ x. pos (f x) *ℤ k) xs ≡ pos (sum_by f xs) *ℤ k
total-weights f k xs =
    total-same (λ x. pos (f x) *ℤ k) (λ x. k *ℤ pos (f x)) xs (each (λ x. mulℤ_comm (pos (f x)) k) xs)
    ∙ total-scale k (λ x. pos (f x)) xs
    ∙ ap (λ z. k *ℤ z) (total-pos f xs)
    ∙ mulℤ_comm k (pos (sum_by f xs))

-- a sum of which one term counts is that term
single-term : (f : ℕ → ℤ) (a i : ℕ) (z : ℤ) → (i ≡ a → ⊥) → pos (cond (i == a) 1 0) *ℤ f i +ℤ z ≡ z
single-term f a i z ne = rw (ne_eqb i a ne) (omega (arith, ints))

none-counts : (f : ℕ → ℤ) (a b n : ℕ) → a < b → total (λ i. pos (cond (i == a) 1 0) *ℤ f i) (range_with_len b n) ≡ pos 0
none-counts f a b zero l = refl
none-counts f a b (suc n) l = single-term f a b _ (λ e. omega arith) ∙ none-counts f a (b + 1) n (omega arith)

one-counts : (f : ℕ → ℤ) (a b n : ℕ) → b ≤ a → a < b + n → total (λ i. pos (cond (i == a) 1 0) *ℤ f i) (range_with_len b n) ≡ f a
one-counts f a b zero l m = absurd (omega arith)
one-counts f a b (suc n) l m =
    elim (eqb_tells b a) [
      | inl e ↦ rw (e.0) (rw (none-counts f a (b + 1) n (omega (arith, e.1))) (omega (arith, ints, ap f e.1)))
      | inr e ↦ single-term f a b _ e.1 ∙ one-counts f a (b + 1) n (apart b a l e.1) (omega arith)
    ]
  where
    apart : (b a : ℕ) → b ≤ a → (b ≡ a → ⊥) → b + 1 ≤ a
    apart b a l ne = omega arith

pub total-single : (f : ℕ → ℤ) (a n : ℕ) → a < n → total (λ i. pos (cond (i == a) 1 0) *ℤ f i) (below n) ≡ f a
total-single f a n l = one-counts f a 0 n (omega arith) (omega arith)

pub sum-single : (a n : ℕ) → a < n → sum_by (λ i. cond (i == a) 1 0) (below n) ≡ 1
sum-single a n l = ap up (times_one (sum_by (λ i. cond (i == a) 1 0) (below n)) ∙ sym (total-weights (λ i. cond (i == a) 1 0) (pos 1) (below n)) ∙ total-single (λ i. pos 1) a n l)
  where
    times_one : (k : ℕ) → pos k ≡ pos k *ℤ pos 1
    times_one k = omega (arith, ints)

-- two sums trade places
pub total-swap : {X Y : Type 0} (f : X → Y → ℤ) (xs : List X) (ys : List Y) → total (λ x. total (λ y. f x y) ys) xs ≡ total (λ y. total (λ x. f x y) xs) ys
total-swap f [] ys = sym (zeros ys)
  where
    zeros : {Y : Type 0} (ys : List Y) → total (λ y. pos 0) ys ≡ pos 0
    zeros [] = refl
    zeros (y ∷ ys) = omega (arith, ints, zeros ys)
total-swap f (x ∷ xs) ys = ap (λ z. total (λ y. f x y) ys +ℤ z) (total-swap f xs ys) ∙ sym (total-add (λ y. f x y) (λ y. total (λ x'. f x' y) xs) ys)

pub sum_by-map : {X Y : Type 0} (f : Y → ℕ) (g : X → Y) (xs : List X) → sum_by f (map g xs) ≡ sum_by (λ x. f (g x)) xs
sum_by-map f g xs = ap up (sym (total-pos f (map g xs)) ∙ total-map (λ y. pos (f y)) g xs ∙ total-pos (λ x. f (g x)) xs)

pub sum_by-same : {X : Type 0} (f g : X → ℕ) (xs : List X) → ((x : X) → f x ≡ g x) → sum_by f xs ≡ sum_by g xs
sum_by-same f g [] h = refl
sum_by-same f g (x ∷ xs) h = omega (arith, sum_by-cons f x xs, sum_by-cons g x xs, h x, sum_by-same f g xs h)

-- one term more

pub total-range-more : (f : ℕ → ℤ) (a n : ℕ) → total f (range_with_len a (suc n)) ≡ total f (range_with_len a n) +ℤ f (a + n)
total-range-more f a zero = one (f a) ∙ ap (λ (k : ℕ). pos 0 +ℤ f k) (same a)
  where
    one : (z : ℤ) → z +ℤ pos 0 ≡ pos 0 +ℤ z
    one z = omega (arith, ints)

    same : (a : ℕ) → a ≡ a + 0
    same a = omega arith
total-range-more f a (suc n) = ap (λ (z : ℤ). f a +ℤ z) (total-range-more f (a + 1) n ∙ ap (λ (k : ℕ). total f (range_with_len (a + 1) n) +ℤ f k) (same a n)) ∙ regroup (f a) (total f (range_with_len (a + 1) n)) (f (a + suc n))
  where
    same : (a n : ℕ) → a + 1 + n ≡ a + suc n
    same a n = omega arith

    regroup : (x y z : ℤ) → x +ℤ (y +ℤ z) ≡ x +ℤ y +ℤ z
    regroup x y z = omega (arith, ints)

pub total-below-more : (f : ℕ → ℤ) (n : ℕ) → total f (below (n + 1)) ≡ total f (below n) +ℤ f n
total-below-more f n = rw (add-one n) (total-range-more f 0 n ∙ ap (λ (k : ℕ). total f (below n) +ℤ f k) (same n))
  where
    same : (n : ℕ) → 0 + n ≡ n
    same n = omega arith
