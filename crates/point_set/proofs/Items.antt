-- Items with one more weight: what stays of them, and what they sum to.
use Rattle.std.proofs.Common.{◌≡◌, ℕ, zero, suc, ◌+◌, ◌^◌, ◌<◌, ◌≤◌, Bool, true, false, cond, ◌==◌, ltb, List, [], ◌∷◌, ◌++◌, length, get_or, set, take, drop, refl, ap, arith, sym, subst, ◌∙◌, inl, inr}
use Rattle.std.specs.Prelude.{ℤ, pos, negsuc, ◌+ℤ◌, ◌*ℤ◌, ◌≤ℤ◌, count_by}
use Rattle.std.specs.List.{AllByRecursion}
use Rattle.std.proofs.lemmas.Bool.{ltb-true, ltb-false}
use Rattle.std.proofs.lemmas.Bool.Decides.{eqb_tells}
use Rattle.std.proofs.lemmas.Int.{ints}
use Rattle.std.proofs.lemmas.List.Sums.{sum_by-cons}
use Rattle.scaled_num.specs.Share.{at}
use Rattle.scaled_num.specs.Sums.{sum_of, total}
use Rattle.scaled_num.proofs.Products.{add-mulℤ, sums}
use Rattle.scaled_num.proofs.Floors.{All-from_recursion, at_le_sum, product_none_negative}
use Rattle.scaled_num.proofs.Sums.{each-at}
use Rattle.game_model.proofs.Pay.{each-from}
use Rattle.game_model.specs.Game.{IsBelief, IsWithin}
use Rattle.point_set.specs.Corners.{point_at}
use Rattle.point_set.specs.Points.{PointData, no_point}
use Rattle.point_set.specs.Split.{AreRisingPairs, weight_of}
use Rattle.point_set.specs.Takes.{AreBeliefs, AreItems, inserted}
use Rattle.scaled_num.proofs.Each.{each-by-place}

-- pairs stand before all later ones
pub later : (x : ℕ × ℤ) (xs : List (ℕ × ℤ)) → AreRisingPairs (x ∷ xs) → AllByRecursion (λ y. x.0 < y.0) xs
later x [] h = tt
later x (y ∷ ys) h = (h.0, each-from (λ z. y.0 < z.0) (λ z. x.0 < z.0) ys (λ z k. through x.0 y.0 z.0 h.0 k) (later y ys h.1))
  where
    through : (a b c : ℕ) → a < b → b < c → a < c
    through a b c h k = omega arith

pub rest-rises : (x : ℕ × ℤ) (xs : List (ℕ × ℤ)) → AreRisingPairs (x ∷ xs) → AreRisingPairs xs
rest-rises x [] h = tt
rest-rises x (y ∷ ys) h = h.1

first-rises : (x : ℕ × ℤ) (xs : List (ℕ × ℤ)) → AllByRecursion (λ y. x.0 < y.0) xs → AreRisingPairs xs → AreRisingPairs (x ∷ xs)
first-rises x [] h k = tt
first-rises x (y ∷ ys) h k = (h.0, k)

-- the three places of a new weight
inserted-cases : (P : List (ℕ × ℤ) → Type 0) (k : ℕ) (w : ℤ) (x : ℕ × ℤ) (xs : List (ℕ × ℤ)) →
    (x.0 < k → P (x ∷ inserted k w xs)) → (x.0 ≡ k → P ((k, x.1 +ℤ w) ∷ xs)) → (k < x.0 → P ((k, w) ∷ x ∷ xs)) → P (inserted k w (x ∷ xs))
inserted-cases P k w x xs less same more =
    elim (ltb x.0 k) as (λ b. ltb x.0 k ≡ b → P (cond b (x ∷ inserted k w xs) (cond (x.0 == k) ((k, x.1 +ℤ w) ∷ xs) ((k, w) ∷ x ∷ xs)))) [
      | true ↦ (λ e. less (ltb-true x.0 k e))
      | false ↦ (λ e. elim (eqb_tells x.0 k) [
        | inl t ↦ rw (t.0) (same t.1)
        | inr t ↦ rw (t.0) (more (above (ltb-false x.0 k e) t.1))
      ])
    ] refl
  where
    above : k ≤ x.0 → (x.0 ≡ k → ⊥) → k < x.0
    above h ne = omega arith

pub each-inserted : (P : ℕ × ℤ → Type 0) (k : ℕ) (w : ℤ) (xs : List (ℕ × ℤ)) → AllByRecursion P xs → P (k, w) → ((x : ℕ × ℤ) → x.0 ≡ k → P x → P (k, x.1 +ℤ w)) → AllByRecursion P (inserted k w xs)
each-inserted P k w [] h new more = (new, tt)
each-inserted P k w (x ∷ xs) h new more =
    inserted-cases (AllByRecursion P) k w x xs
    (λ l. (h.0, each-inserted P k w xs h.1 new more))
    (λ e. (more x e h.0, h.1))
    (λ l. (new, (h.0, h.1)))

pub each-grown : (P Q : ℕ × ℤ → Type 0) (k : ℕ) (w : ℤ) (xs : List (ℕ × ℤ)) → ((x : ℕ × ℤ) → P x → Q x) → AllByRecursion P xs → Q (k, w) → ((x : ℕ × ℤ) → x.0 ≡ k → P x → Q (k, x.1 +ℤ w)) → AllByRecursion Q (inserted k w xs)
each-grown P Q k w [] f h new more = (new, tt)
each-grown P Q k w (x ∷ xs) f h new more =
    inserted-cases (AllByRecursion Q) k w x xs
    (λ l. (f x h.0, each-grown P Q k w xs f h.1 new more))
    (λ e. (more x e h.0, each-from P Q xs f h.1))
    (λ l. (new, (f x h.0, each-from P Q xs f h.1)))

pub rising-inserted : (k : ℕ) (w : ℤ) (xs : List (ℕ × ℤ)) → AreRisingPairs xs → AreRisingPairs (inserted k w xs)
rising-inserted k w [] h = tt
rising-inserted k w (x ∷ xs) h =
    inserted-cases AreRisingPairs k w x xs
    (λ l. first-rises x (inserted k w xs) (each-inserted (λ y. x.0 < y.0) k w xs (later x xs h) l (λ y e m. l)) (rising-inserted k w xs (rest-rises x xs h)))
    (λ e. first-rises (k, x.1 +ℤ w) xs (subst (λ (n : ℕ). AllByRecursion (λ (y : ℕ × ℤ). n < y.0) xs) e (later x xs h)) (rest-rises x xs h))
    (λ l. (l, h))

pub total-inserted : (g : ℕ → ℤ → ℤ) → ((k : ℕ) (a b : ℤ) → g k (a +ℤ b) ≡ g k a +ℤ g k b) → (k : ℕ) (w : ℤ) (xs : List (ℕ × ℤ)) →
    total (λ i. g i.0 i.1) (inserted k w xs) ≡ total (λ i. g i.0 i.1) xs +ℤ g k w
total-inserted g adds k w [] = swap (g k w)
  where
    swap : (a : ℤ) → a +ℤ pos 0 ≡ pos 0 +ℤ a
    swap a = omega (arith, sums)
total-inserted g adds k w (x ∷ xs) =
    inserted-cases (λ ys. total (λ i. g i.0 i.1) ys ≡ g x.0 x.1 +ℤ total (λ i. g i.0 i.1) xs +ℤ g k w) k w x xs
    (λ l. ap (λ z. g x.0 x.1 +ℤ z) (total-inserted g adds k w xs) ∙ regroup (g x.0 x.1) (total (λ i. g i.0 i.1) xs) (g k w))
    (λ e. ap (λ z. z +ℤ total (λ i. g i.0 i.1) xs) (adds k x.1 w ∙ ap (λ (n : ℕ). g n x.1 +ℤ g k w) (sym e)) ∙ last (g x.0 x.1) (g k w) (total (λ i. g i.0 i.1) xs))
    (λ l. first (g k w) (g x.0 x.1 +ℤ total (λ i. g i.0 i.1) xs))
  where
    regroup : (a b c : ℤ) → a +ℤ (b +ℤ c) ≡ a +ℤ b +ℤ c
    regroup a b c = omega (arith, sums)

    last : (a b c : ℤ) → (a +ℤ b) +ℤ c ≡ (a +ℤ c) +ℤ b
    last a b c = omega (arith, sums)

    first : (a b : ℤ) → a +ℤ b ≡ b +ℤ a
    first a b = omega (arith, sums)

pub weight-inserted : (k : ℕ) (w : ℤ) (xs : List (ℕ × ℤ)) (j : ℕ) → weight_of (inserted k w xs) j ≡ weight_of xs j +ℤ cond (k == j) w (pos 0)
weight-inserted k w xs j = total-inserted (λ n x. cond (n == j) x (pos 0)) (λ n a b. adds (n == j) a b) k w xs
  where
    adds : (t : Bool) (a b : ℤ) → cond t (a +ℤ b) (pos 0) ≡ cond t a (pos 0) +ℤ cond t b (pos 0)
    adds true a b = refl
    adds false a b = refl

pub count-inserted : (q : ℕ → Bool) (k : ℕ) (w : ℤ) (xs : List (ℕ × ℤ)) → count_by (λ i. q i.0) (inserted k w xs) ≤ count_by (λ i. q i.0) xs + cond (q k) 1 0
count-inserted q k w [] = omega (arith, sum_by-cons (λ (i : ℕ × ℤ). cond (q i.0) 1 0) (k, w) [])
count-inserted q k w (x ∷ xs) =
    let f : ℕ × ℤ → ℕ = λ i. cond (q i.0) 1 0 in
    rw (sum_by-cons f x xs)
    (inserted-cases (λ ys. count_by (λ i. q i.0) ys ≤ (f x + count_by (λ i. q i.0) xs) + cond (q k) 1 0) k w x xs
    (λ l. omega (arith, sum_by-cons f x (inserted k w xs), count-inserted q k w xs))
    (λ e. omega (arith, sum_by-cons f (k, x.1 +ℤ w) xs, ap {B = ℕ} (λ (n : ℕ). cond (q n) 1 0) e))
    (λ l. omega (arith, sum_by-cons f (k, w) (x ∷ xs), sum_by-cons f x xs)))

-- where the number stands, or would stand
pub inserted-there : (k : ℕ) (w : ℤ) (xs : List (ℕ × ℤ)) (i : ℕ) (d : ℕ × ℤ) → i < length xs → ((j : ℕ) → j < i → (get_or xs j d).0 < k) → (get_or xs i d).0 ≡ k →
    inserted k w xs ≡ set xs i ((get_or xs i d).0, (get_or xs i d).1 +ℤ w)
inserted-there k w [] i d l h e = absurd (omega arith)
inserted-there k w (x ∷ xs) zero d l h e =
    inserted-cases (λ ys. ys ≡ (x.0, x.1 +ℤ w) ∷ xs) k w x xs
    (λ m. absurd (omega arith))
    (λ m. ap (λ (n : ℕ). (n, x.1 +ℤ w) ∷ xs) (sym e))
    (λ m. absurd (omega arith))
inserted-there k w (x ∷ xs) (suc i) d l h e =
    let first : x.0 < k = h 0 (omega arith) in
    inserted-cases (λ ys. ys ≡ x ∷ set xs i ((get_or xs i d).0, (get_or xs i d).1 +ℤ w)) k w x xs
    (λ m. ap (λ (ys : List (ℕ × ℤ)). x ∷ ys) (inserted-there k w xs i d (omega arith) (λ j n. h (suc j) (omega arith)) e))
    (λ m. absurd (omega arith))
    (λ m. absurd (omega arith))

pub inserted-new : (k : ℕ) (w : ℤ) (xs : List (ℕ × ℤ)) (i : ℕ) (d : ℕ × ℤ) → i ≤ length xs → ((j : ℕ) → j < i → (get_or xs j d).0 < k) → (i < length xs → k < (get_or xs i d).0) →
    inserted k w xs ≡ take i xs ++ (k, w) ∷ drop i xs
inserted-new k w [] zero d l h e = refl
inserted-new k w [] (suc i) d l h e = absurd (omega arith)
inserted-new k w (x ∷ xs) zero d l h e =
    let more : k < x.0 = e (omega arith) in
    inserted-cases (λ ys. ys ≡ (k, w) ∷ x ∷ xs) k w x xs
    (λ m. absurd (omega arith))
    (λ m. absurd (omega arith))
    (λ m. refl)
inserted-new k w (x ∷ xs) (suc i) d l h e =
    let first : x.0 < k = h 0 (omega arith) in
    inserted-cases (λ ys. ys ≡ x ∷ (take i xs ++ (k, w) ∷ drop i xs)) k w x xs
    (λ m. ap (λ (ys : List (ℕ × ℤ)). x ∷ ys) (inserted-new k w xs i d (omega arith) (λ j n. h (suc j) (omega arith)) (λ n. e (omega arith))))
    (λ m. absurd (omega arith))
    (λ m. absurd (omega arith))

-- items that make up a mass, with one more weight that is no longer left
pub no-items : (points : List PointData) (mass : List ℤ) → AreItems points mass (at mass) []
no-items points mass = record { rising = tt; positive = tt; inside = tt; made = λ s l. none (at mass s) }
  where
    none : (a : ℤ) → pos 0 +ℤ a ≡ a
    none a = omega (arith, sums)

pub add-item : (points : List PointData) (mass : List ℤ) (left next : ℕ → ℤ) (items : List (ℕ × ℤ)) (k : ℕ) (w : ℤ) → AreItems points mass left items → pos 1 ≤ℤ w → k < length points →
    ((s : ℕ) → s < length mass → left s ≡ next s +ℤ w *ℤ at (point_at points k).belief s) → AreItems points mass next (inserted k w items)
add-item points mass left next items k w h some l from = record {
  rising = rising-inserted k w items h.rising;
  positive = each-inserted (λ (i : ℕ × ℤ). pos 1 ≤ℤ i.1) k w items h.positive some (λ x e p. more x.1 w p some);
  inside = each-inserted (λ (i : ℕ × ℤ). i.0 < length points) k w items h.inside l (λ x e p. l);
  made = λ s m.
      let g : ℕ → ℤ → ℤ = λ j x. x *ℤ at (point_at points j).belief s in
      ap (λ z. z +ℤ next s) (total-inserted g (λ j a b. add-mulℤ a b (at (point_at points j).belief s)) k w items)
      ∙ regroup (total (λ i. g i.0 i.1) items) (g k w) (next s)
      ∙ ap (λ z. total (λ i. g i.0 i.1) items +ℤ z) (sym (from s m))
      ∙ h.made s m;
}
  where
    more : (a b : ℤ) → pos 1 ≤ℤ a → pos 1 ≤ℤ b → pos 1 ≤ℤ (a +ℤ b)
    more a b p q = omega (arith, ints)

    regroup : (a b c : ℤ) → (a +ℤ b) +ℤ c ≡ a +ℤ (c +ℤ b)
    regroup a b c = omega (arith, sums)

pub same-items : (points : List PointData) (mass : List ℤ) (left next : ℕ → ℤ) (items : List (ℕ × ℤ)) → AreItems points mass left items →
    ((s : ℕ) → s < length mass → left s ≡ next s) → AreItems points mass next items
same-items points mass left next items h same = record {
  rising = h.rising;
  positive = h.positive;
  inside = h.inside;
  made = λ s l. ap (λ z. total (λ i. i.1 *ℤ at (point_at points i.0).belief s) items +ℤ z) (sym (same s l)) ∙ h.made s l;
}

-- a belief has a state of weight at least 1
pub has-weight : (xs : List ℤ) → AllByRecursion (λ x. pos 0 ≤ℤ x) xs → pos 1 ≤ℤ sum_of xs → (s : ℕ) × (s < length xs) × (pos 1 ≤ℤ at xs s)
has-weight [] h l = absurd (omega (arith, ints))
has-weight (pos zero ∷ xs) h l = let rest = has-weight xs h.1 (omega (arith, ints, l)) in (suc rest.0, omega (arith, rest.1), rest.2)
has-weight (pos (suc n) ∷ xs) h l = (0, omega arith, omega (arith, ints))
has-weight (negsuc n ∷ xs) h l = absurd (omega (arith, ints, h.0))

none-negative : {X : Type 0} (f : X → ℤ) (xs : List X) → AllByRecursion (λ x. pos 0 ≤ℤ f x) xs → pos 0 ≤ℤ total f xs
none-negative f [] h = omega (arith, ints)
none-negative f (x ∷ xs) h = omega (arith, ints, h.0, none-negative f xs h.1)

-- one of several terms is at most their sum
one-of : {X : Type 0} (f : X → ℤ) (d : X) (xs : List X) (i : ℕ) → AllByRecursion (λ x. pos 0 ≤ℤ f x) xs → i < length xs → f (get_or xs i d) ≤ℤ total f xs
one-of f d [] i h l = absurd (omega arith)
one-of f d (x ∷ xs) zero h l = omega (arith, ints, none-negative f xs h.1)
one-of f d (x ∷ xs) (suc i) h l = omega (arith, ints, h.0, one-of f d xs i h.1 (omega arith))

-- weight at least 0 times something at least 1
pub at-least : (a b : ℤ) → pos 0 ≤ℤ a → pos 1 ≤ℤ b → a ≤ℤ (a *ℤ b)
at-least (pos n) (pos (suc m)) p q = omega (arith, ints)
at-least (pos n) (pos zero) p q = absurd (omega (arith, ints))
at-least (negsuc n) b p q = absurd (omega (arith, ints))
at-least (pos n) (negsuc m) p q = absurd (omega (arith, ints))

-- the belief of a point
pub belief-at : (states : ℕ) (points : List PointData) (k : ℕ) → AreBeliefs states points → k < length points → IsBelief states (point_at points k).belief
belief-at states points k h l = each-at (λ (point : PointData). IsBelief states point.belief) no_point points k h l

pub parts-none-negative : (states : ℕ) (xs : List ℤ) → IsBelief states xs → AllByRecursion (λ x. pos 0 ≤ℤ x) xs
parts-none-negative states xs h = each-from (IsWithin (pos 0) (pos (2 ^ 20))) (λ x. pos 0 ≤ℤ x) xs (λ x w. w.0) h.each

-- no item weighs more than the whole mass
pub items-most : (points : List PointData) (mass : List ℤ) (left : ℕ → ℤ) (items : List (ℕ × ℤ)) → AreBeliefs (length mass) points → AllByRecursion (λ x. pos 0 ≤ℤ x) mass →
    ((s : ℕ) → s < length mass → pos 0 ≤ℤ left s) → AreItems points mass left items → AllByRecursion (λ item. item.1 ≤ℤ sum_of mass) items
items-most points mass left items beliefs none rest h = each-by-place (λ (item : ℕ × ℤ). item.1 ≤ℤ sum_of mass) (0, pos 0) items (λ i l.
    let item : ℕ × ℤ = get_or items i (0, pos 0) in
    let inside : item.0 < length points = each-at (λ (x : ℕ × ℤ). x.0 < length points) (0, pos 0) items i h.inside l in
    let some : pos 1 ≤ℤ item.1 = each-at (λ (x : ℕ × ℤ). pos 1 ≤ℤ x.1) (0, pos 0) items i h.positive l in
    let belief = belief-at (length mass) points item.0 beliefs inside in
    let index = has-weight (point_at points item.0).belief (parts-none-negative (length mass) (point_at points item.0).belief belief) belief.sums.0 in
    let s : ℕ = index.0 in
    let here : s < length mass = subst (λ (n : ℕ). s < n) belief.long index.1 in
    let f : ℕ × ℤ → ℤ = λ x. x.1 *ℤ at (point_at points x.0).belief s in
    let each : AllByRecursion (λ x. pos 0 ≤ℤ f x) items = each-by-place (λ (x : ℕ × ℤ). pos 0 ≤ℤ f x) (0, pos 0) items (λ j m.
    term (get_or items j (0, pos 0)) s here (each-at (λ (x : ℕ × ℤ). x.0 < length points) (0, pos 0) items j h.inside m) (each-at (λ (x : ℕ × ℤ). pos 1 ≤ℤ x.1) (0, pos 0) items j h.positive m)) in
    chain item.1 (f item) (total f items) (left s) (at mass s) (sum_of mass)
    (at-least item.1 (at (point_at points item.0).belief s) (low item.1 some) index.2) (one-of f (0, pos 0) items i each l) (rest s here) (h.made s here)
    (at_le_sum mass s (All-from_recursion (λ x. pos 0 ≤ℤ x) mass none) here))
  where
    low : (a : ℤ) → pos 1 ≤ℤ a → pos 0 ≤ℤ a
    low a p = omega (arith, ints)

    term : (x : ℕ × ℤ) (s : ℕ) → s < length mass → x.0 < length points → pos 1 ≤ℤ x.1 → pos 0 ≤ℤ (x.1 *ℤ at (point_at points x.0).belief s)
    term x s here inside some =
        let belief = belief-at (length mass) points x.0 beliefs inside in
        product_none_negative x.1 (at (point_at points x.0).belief s) (low x.1 some)
        (All-from_recursion (λ y. pos 0 ≤ℤ y) (point_at points x.0).belief (parts-none-negative (length mass) (point_at points x.0).belief belief) s (pos 0) (subst (λ (n : ℕ). s < n) (sym belief.long) here))

    chain : (a b c d e m : ℤ) → a ≤ℤ b → b ≤ℤ c → pos 0 ≤ℤ d → c +ℤ d ≡ e → e ≤ℤ m → a ≤ℤ m
    chain a b c d e m p q r t u = omega (arith, ints)
