-- Sums, floors and shares of lists of numbers that are not negative.
use Rattle.std.proofs.Common.{◌≡◌, ◌≢◌, ℕ, suc, zero, ◌+◌, ◌^◌, FitsSigned, of_z, subst, below_more, ◌<◌, List, [], ◌∷◌, length, set, drop, replicate, refl, ap, arith, sym, ◌∙◌}
use Rattle.std.specs.Prelude.{ℤ, pos, negsuc, ◌+ℤ◌, ◌-ℤ◌, ◌*ℤ◌, ◌≤ℤ◌, ◌<ℤ◌}
use Rattle.std.specs.Int.{w128}
use Rattle.std.specs.List.{All, AllByRecursion}
use Rattle.std.proofs.lemmas.Int.{ints, by_lt_z}
use Rattle.std.proofs.lemmas.List.{get_or-set_same, get_or-set_other}
use borrow.Author.Differences.{product_is}
use Rattle.scaled_num.specs.Sums.{sum_of, total, below}
use Rattle.scaled_num.specs.Share.{at, IsFloor, AreFloors}
use Rattle.scaled_num.proofs.Products.{le-mulℤ, mulℤ_comm, add-mulℤ}
use Rattle.scaled_num.proofs.Sums.{each-at, total-scale, total-below-le, total-places}

-- no number is negative
abbrev pub NoneNegative : List ℤ → Type 0
NoneNegative xs = All (λ x. pos 0 ≤ℤ x) xs

pub All-tail : (P : ℤ → Type 0) (x : ℤ) (xs : List ℤ) → All P (x ∷ xs) → All P xs
All-tail P x xs h = λ k d l. h (suc k) d (omega arith)

pub All-drop : (P : ℤ → Type 0) (xs : List ℤ) (n : ℕ) → All P xs → All P (drop n xs)
All-drop P xs zero h = h
All-drop P [] (suc n) h = h
All-drop P (x ∷ xs) (suc n) h = All-drop P xs n (All-tail P x xs h)

-- what holds at each place holds of each number
pub All-at : (P : ℤ → Type 0) (xs : List ℤ) → ((i : ℕ) → i < length xs → P (at xs i)) → All P xs
All-at P [] h = λ k d l. absurd (omega arith)
All-at P (x ∷ xs) h = each (λ k d l. All-at P xs (λ i m. h (suc i) (omega arith)) k d l)
  where
    each : All P xs → All P (x ∷ xs)
    each rest zero d l = h 0 (omega arith)
    each rest (suc k) d l = rest k d (omega arith)

pub All-from_recursion : (P : ℤ → Type 0) (xs : List ℤ) → AllByRecursion P xs → All P xs
All-from_recursion P xs h = λ k d l. each-at P d xs k h l

pub All-to_recursion : (P : ℤ → Type 0) (xs : List ℤ) → All P xs → AllByRecursion P xs
All-to_recursion P [] h = tt
All-to_recursion P (x ∷ xs) h = (h 0 (pos 0) (omega arith), All-to_recursion P xs (All-tail P x xs h))

pub tail-none_negative : (x : ℤ) (xs : List ℤ) → NoneNegative (x ∷ xs) → NoneNegative xs
tail-none_negative x xs h = All-tail (λ x. pos 0 ≤ℤ x) x xs h

pub sum-none_negative : (xs : List ℤ) → NoneNegative xs → pos 0 ≤ℤ sum_of xs
sum-none_negative [] h = omega (arith, ints)
sum-none_negative (x ∷ xs) h =
    let first : pos 0 ≤ℤ x = h 0 (pos 0) (omega arith) in
    omega (arith, ints, first, sum-none_negative xs (tail-none_negative x xs h))

pub sum-drop : (xs : List ℤ) (i : ℕ) → i < length xs → sum_of (drop i xs) ≡ at xs i +ℤ sum_of (drop (i + 1) xs)
sum-drop [] i l = absurd (omega arith)
sum-drop (x ∷ xs) zero l = refl
sum-drop (x ∷ xs) (suc i) l =
    let next : suc (i + 1) ≡ suc i + 1 = omega arith in
    sum-drop xs i (omega arith) ∙ ap (λ (n : ℕ). at xs i +ℤ sum_of (drop n (x ∷ xs))) next

pub at_le_sum : (xs : List ℤ) (i : ℕ) → NoneNegative xs → i < length xs → (at xs i) ≤ℤ (sum_of xs)
at_le_sum [] i h l = absurd (omega arith)
at_le_sum (x ∷ xs) zero h l = omega (arith, ints, sum-none_negative xs (tail-none_negative x xs h))
at_le_sum (x ∷ xs) (suc i) h l =
    let first : pos 0 ≤ℤ x = h 0 (pos 0) (omega arith) in
    omega (arith, ints, first, at_le_sum xs i (tail-none_negative x xs h) (omega arith))

pub sum-set : (xs : List ℤ) (i : ℕ) (x : ℤ) → i < length xs → sum_of (set xs i x) +ℤ at xs i ≡ sum_of xs +ℤ x
sum-set [] i x l = absurd (omega arith)
sum-set (y ∷ ys) zero x l = omega (arith, ints)
sum-set (y ∷ ys) (suc i) x l = omega (arith, ints, sum-set ys i x (omega arith))

pub sum-zeros : (n : ℕ) → sum_of (replicate n (pos 0)) ≡ pos 0
sum-zeros zero = refl
sum-zeros (suc n) = omega (arith, ints, sum-zeros n)

-- one more number is added
pub small_fits : (x : ℤ) → pos 0 ≤ℤ x → x ≤ℤ pos (2 ^ 126) → FitsSigned w128 x
small_fits x p h = omega (arith, ints)

pub item_fits : (xs : List ℤ) (i : ℕ) → NoneNegative xs → sum_of xs ≤ℤ pos (2 ^ 126) → i < length xs → FitsSigned w128 (at xs i)
item_fits xs i h b l = small_fits (at xs i) (h i (pos 0) l) (omega (arith, ints, at_le_sum xs i h l))

pub add_next : (xs : List ℤ) (i : ℕ) (sum : ℤ) → NoneNegative xs → sum_of xs ≤ℤ pos (2 ^ 126) → i < length xs → pos 0 ≤ℤ sum → sum +ℤ sum_of (drop i xs) ≡ sum_of xs
    → FitsSigned w128 (sum +ℤ at xs i) × ((sum +ℤ at xs i) +ℤ sum_of (drop (i + 1) xs) ≡ sum_of xs) × (pos 0 ≤ℤ (sum +ℤ at xs i))
add_next xs i sum h b l p e =
    let item : pos 0 ≤ℤ at xs i = h i (pos 0) l in
    let later : pos 0 ≤ℤ sum_of (drop (i + 1) xs) = sum-none_negative (drop (i + 1) xs) (All-drop (λ x. pos 0 ≤ℤ x) xs (i + 1) h) in
    let cut : sum_of (drop i xs) ≡ at xs i +ℤ sum_of (drop (i + 1) xs) = sum-drop xs i l in
    let more : pos 0 ≤ℤ (sum +ℤ at xs i) = omega (arith, ints) in
    (small_fits (sum +ℤ at xs i) more (omega (arith, ints)), omega (arith, ints), more)

-- products
pub product_le : (a b c : ℤ) → pos 0 ≤ℤ c → a ≤ℤ b → (a *ℤ c) ≤ℤ (b *ℤ c)
product_le a b (pos k) p h = omega (arith, ints, le-mulℤ k a b h, mulℤ_comm a (pos k), mulℤ_comm b (pos k))
product_le a b (negsuc k) p h = absurd (omega (arith, ints))

pub product_none_negative : (a b : ℤ) → pos 0 ≤ℤ a → pos 0 ≤ℤ b → pos 0 ≤ℤ (a *ℤ b)
product_none_negative a b p q = omega (arith, ints, product_le (pos 0) a b q p)

pub cancel : (a b c : ℤ) → pos 0 <ℤ c → (a *ℤ c) ≤ℤ (b *ℤ c) → a ≤ℤ b
cancel a b (pos k) p h = by_lt_z b a (λ less. absurd (too_much less)) (λ most. most)
  where
    too_much : b <ℤ a → ⊥
    too_much less =
        let next : (b +ℤ pos 1) ≤ℤ a = omega (arith, ints) in
        omega (arith, ints, product_le (b +ℤ pos 1) a (pos k) (omega (arith, ints)) next, add-mulℤ b (pos 1) (pos k))
cancel a b (negsuc k) p h = absurd (omega (arith, ints))

pub floor-none_negative : (q a b : ℤ) → pos 0 ≤ℤ a → pos 0 <ℤ b → IsFloor q a b → pos 0 ≤ℤ q
floor-none_negative (pos n) a b p r h = omega (arith, ints)
floor-none_negative (negsuc n) a b p r h =
    let less : (negsuc n *ℤ b) ≤ℤ (negsuc 0 *ℤ b) = product_le (negsuc n) (negsuc 0) b (omega (arith, ints)) (omega (arith, ints)) in
    absurd (omega (arith, ints, less, product_is (negsuc 0) b, h.high))

pub weighted_fits : (weights : List ℤ) (t : ℤ) (i : ℕ) → NoneNegative weights → pos 0 ≤ℤ t → (sum_of weights *ℤ t) ≤ℤ pos (2 ^ 126) → i < length weights → FitsSigned w128 (at weights i *ℤ t)
weighted_fits weights t i h p b l =
    small_fits (at weights i *ℤ t) (product_none_negative (at weights i) t (h i (pos 0) l) p)
    (omega (arith, ints, product_le (at weights i) (sum_of weights) t p (at_le_sum weights i h l)))

-- the floors below a place, and the one at it
pub floor_next : (out weights : List ℤ) (t s q : ℤ) (place : ℕ) → place < length out → IsFloor q (at weights place *ℤ t) s
    → ((i : ℕ) → i < place → IsFloor (at out i) (at weights i *ℤ t) s) → (i : ℕ) → i < place + 1 → IsFloor (at (set out place q) i) (at weights i *ℤ t) s
floor_next out weights t s q place l f h = below_more _ _
    (λ i m. let other : i ≢ place = omega arith in rw get_or-set_other (h i m))
    (rw get_or-set_same f)

-- the floors are not negative, and sum to no more than the total
pub floors-none_negative : (weights : List ℤ) (t : ℤ) (floors : List ℤ) → NoneNegative weights → pos 0 ≤ℤ t → pos 0 <ℤ sum_of weights → AreFloors weights t floors → NoneNegative floors
floors-none_negative weights t floors h p s f =
    All-at (λ x. pos 0 ≤ℤ x) floors (λ k l.
    let inside : k < length weights = omega (arith, f.same_length) in
    floor-none_negative (at floors k) (at weights k *ℤ t) (sum_of weights) (product_none_negative (at weights k) t (h k (pos 0) inside) p) s (f.floor k inside))

pub floors-sum : (weights : List ℤ) (t : ℤ) (floors : List ℤ) → pos 0 <ℤ sum_of weights → AreFloors weights t floors → sum_of floors ≤ℤ t
floors-sum weights t floors s f =
    let whole = sum_of weights in
    let count = length weights in
    let each : (total (λ i. whole *ℤ at floors i) (below count)) ≤ℤ (total (λ i. t *ℤ at weights i) (below count)) =
    total-below-le count (λ i. whole *ℤ at floors i) (λ i. t *ℤ at weights i)
    (λ i l. omega (arith, ints, (f.floor i l).low, mulℤ_comm whole (at floors i), mulℤ_comm t (at weights i))) in
    let left : total (λ i. whole *ℤ at floors i) (below count) ≡ whole *ℤ sum_of floors =
    total-scale whole (λ i. at floors i) (below count)
    ∙ ap (λ (n : ℕ). whole *ℤ total (λ i. at floors i) (below n)) (sym f.same_length)
    ∙ ap (λ z. whole *ℤ z) (total-places (λ x. x) (pos 0) floors) in
    let right : total (λ i. t *ℤ at weights i) (below count) ≡ t *ℤ whole =
    total-scale t (λ i. at weights i) (below count) ∙ ap (λ z. t *ℤ z) (total-places (λ x. x) (pos 0) weights) in
    cancel (sum_of floors) t whole s (omega (arith, ints, each, left, right, mulℤ_comm whole (sum_of floors)))

-- the floors with what is missing added at one place
pub topped-sum : (floors : List ℤ) (place : ℕ) (t : ℤ) → place < length floors → sum_of (set floors place (at floors place +ℤ (t -ℤ sum_of floors))) ≡ t
topped-sum floors place t l =
    let sum : sum_of (set floors place (at floors place +ℤ (t -ℤ sum_of floors))) +ℤ at floors place ≡ sum_of floors +ℤ (at floors place +ℤ (t -ℤ sum_of floors)) =
    sum-set floors place (at floors place +ℤ (t -ℤ sum_of floors)) l in
    omega (arith, ints, sum)

pub set-none_negative : (xs : List ℤ) (place : ℕ) (x : ℤ) → NoneNegative xs → pos 0 ≤ℤ x → NoneNegative (set xs place x)
set-none_negative [] place x h p = h
set-none_negative (y ∷ ys) zero x h p = All-at (λ x. pos 0 ≤ℤ x) (x ∷ ys) first
  where
    first : (i : ℕ) → i < length (x ∷ ys) → pos 0 ≤ℤ at (x ∷ ys) i
    first zero l = p
    first (suc i) l = h (suc i) (pos 0) (omega arith)
set-none_negative (y ∷ ys) (suc place) x h p =
    All-at (λ x. pos 0 ≤ℤ x) (y ∷ set ys place x) (rest (set-none_negative ys place x (tail-none_negative y ys h) p))
  where
    rest : NoneNegative (set ys place x) → (i : ℕ) → i < length (y ∷ set ys place x) → pos 0 ≤ℤ at (y ∷ set ys place x) i
    rest later zero l = h 0 (pos 0) (omega arith)
    rest later (suc i) l = later i (pos 0) (omega arith)

pub replicate-none_negative : (n : ℕ) → NoneNegative (replicate n (pos 0))
replicate-none_negative zero = λ k d l. absurd (omega arith)
replicate-none_negative (suc n) = All-at (λ x. pos 0 ≤ℤ x) (pos 0 ∷ replicate n (pos 0)) (each (replicate-none_negative n))
  where
    each : NoneNegative (replicate n (pos 0)) → (i : ℕ) → i < length (pos 0 ∷ replicate n (pos 0)) → pos 0 ≤ℤ at (pos 0 ∷ replicate n (pos 0)) i
    each rest zero l = omega (arith, ints)
    each rest (suc i) l = rest i (pos 0) (omega arith)

-- where the first of zeros is replaced
pub zeros-sum : (n : ℕ) (t : ℤ) → 0 < n → sum_of (set (replicate n (pos 0)) 0 t) ≡ t
zeros-sum zero t l = absurd (omega arith)
zeros-sum (suc n) t l = omega (arith, ints, sum-zeros n)

pub sum-positive : (weights : List ℤ) (sum : ℤ) → NoneNegative weights → sum ≡ sum_of weights → (of_z w128 sum ≡ 0 → ⊥) → pos 0 <ℤ sum_of weights
sum-positive weights sum h e n = subst (λ s. pos 0 <ℤ s) e (above sum (subst (λ s. pos 0 ≤ℤ s) (sym e) (sum-none_negative weights h)) n)
  where
    above : (s : ℤ) → pos 0 ≤ℤ s → (of_z w128 s ≡ 0 → ⊥) → pos 0 <ℤ s
    above (pos n) p m = omega (arith, ints, m)
    above (negsuc n) p m = absurd (omega (arith, ints))

-- what is known once the floors were taken
pub record Taken (t : ℤ) (floors : List ℤ) : Type 0 where
  pub none_negative : NoneNegative floors
  pub within : sum_of floors ≤ℤ t
  pub small : t ≤ℤ pos (2 ^ 126)

pub floors-taken : (weights : List ℤ) (sum t : ℤ) (floors : List ℤ) → NoneNegative weights → pos 0 ≤ℤ t → (sum_of weights *ℤ t) ≤ℤ pos (2 ^ 126)
    → sum ≡ sum_of weights → (of_z w128 sum ≡ 0 → ⊥) → AreFloors weights t floors → Taken t floors
floors-taken weights sum t floors h p b e n f =
    let some : pos 0 <ℤ sum_of weights = sum-positive weights sum h e n in
    record {
      none_negative = floors-none_negative weights t floors h p some f;
      within = floors-sum weights t floors some f;
      small = omega (arith, ints, product_le (pos 1) (sum_of weights) t p (omega (arith, ints)));
    }

pub taken_item_fits : (t : ℤ) (floors : List ℤ) (place : ℕ) → Taken t floors → place < length floors → FitsSigned w128 (at floors place)
taken_item_fits t floors place k l = item_fits floors place k.none_negative (omega (arith, ints, k.within, k.small)) l

pub missing_fits : (t : ℤ) (floors : List ℤ) → Taken t floors → FitsSigned w128 (t -ℤ sum_of floors)
missing_fits t floors k =
    small_fits (t -ℤ sum_of floors) (omega (arith, ints, k.within)) (omega (arith, ints, k.small, sum-none_negative floors k.none_negative))

pub topped_fits : (t : ℤ) (floors : List ℤ) (place : ℕ) → Taken t floors → place < length floors → FitsSigned w128 (at floors place +ℤ (t -ℤ sum_of floors))
topped_fits t floors place k l =
    let item : pos 0 ≤ℤ at floors place = k.none_negative place (pos 0) l in
    small_fits (at floors place +ℤ (t -ℤ sum_of floors)) (omega (arith, ints, item, k.within)) (omega (arith, ints, k.small, at_le_sum floors place k.none_negative l))

pub topped-none_negative : (t : ℤ) (floors : List ℤ) (place : ℕ) → Taken t floors → place < length floors → NoneNegative (set floors place (at floors place +ℤ (t -ℤ sum_of floors)))
topped-none_negative t floors place k l =
    let item : pos 0 ≤ℤ at floors place = k.none_negative place (pos 0) l in
    set-none_negative floors place (at floors place +ℤ (t -ℤ sum_of floors)) k.none_negative (omega (arith, ints, item, k.within))
