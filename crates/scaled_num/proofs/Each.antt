-- What holds of each element, or at each place, of a list.
use Rattle.std.proofs.Common.{◌≡◌, ℕ, zero, suc, ◌<◌, List, [], ◌∷◌, ◌++◌, length, get_or, map, flat_map, refl, arith, sym, ◌∙◌, subst}
use Rattle.std.specs.List.{AllByRecursion}
use Rattle.std.proofs.lemmas.List.FromFn.{get_or-range_with_len, length-range_with_len}
use Rattle.scaled_num.specs.Sums.{below}
use Rattle.scaled_num.proofs.Sums.{each-at}

pub each-front : {X : Type 0} (P : X → Type 0) (xs ys : List X) → AllByRecursion P (xs ++ ys) → AllByRecursion P xs
each-front P [] ys h = tt
each-front P (x ∷ xs) ys h = (h.0, each-front P xs ys h.1)

pub each-back : {X : Type 0} (P : X → Type 0) (xs ys : List X) → AllByRecursion P (xs ++ ys) → AllByRecursion P ys
each-back P [] ys h = h
each-back P (x ∷ xs) ys h = each-back P xs ys h.1

pub each-of-map : {X Y : Type 0} (P : Y → Type 0) (f : X → Y) (xs : List X) → AllByRecursion P (map f xs) → AllByRecursion (λ x. P (f x)) xs
each-of-map P f [] h = tt
each-of-map P f (x ∷ xs) h = (h.0, each-of-map P f xs h.1)

pub each-of-flat_map : {X Y : Type 0} (P : Y → Type 0) (f : X → List Y) (xs : List X) → AllByRecursion P (flat_map f xs) → AllByRecursion (λ x. AllByRecursion P (f x)) xs
each-of-flat_map P f [] h = tt
each-of-flat_map P f (x ∷ xs) h = (each-front P (f x) (flat_map f xs) h, each-of-flat_map P f xs (each-back P (f x) (flat_map f xs) h))

pub each-by-place : {X : Type 0} (P : X → Type 0) (d : X) (xs : List X) → ((i : ℕ) → i < length xs → P (get_or xs i d)) → AllByRecursion P xs
each-by-place P d [] h = tt
each-by-place P d (x ∷ xs) h = (h 0 (omega arith), each-by-place P d xs (λ i l. h (suc i) (omega arith)))

pub at-below : (P : ℕ → Type 0) (n i : ℕ) → AllByRecursion P (below n) → i < n → P i
at-below P n i h l =
    subst P (get_or-range_with_len 0 n i 0 l ∙ omega arith) (each-at P 0 (below n) i h (subst (λ (m : ℕ). i < m) (sym (length-range_with_len 0 n)) l))

-- the element at a place of a mapped list
pub get-map : {X Y : Type 0} (f : X → Y) (xs : List X) (i : ℕ) (d : X) (z : Y) → i < length xs → get_or (map f xs) i z ≡ f (get_or xs i d)
get-map f [] i d z l = absurd (omega arith)
get-map f (x ∷ xs) zero d z l = refl
get-map f (x ∷ xs) (suc i) d z l = get-map f xs i d z (omega arith)
