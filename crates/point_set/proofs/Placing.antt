-- The index of a number among rising items, and what is written there.
use Rattle.std.proofs.Common.{◌≡◌, ℕ, zero, suc, ◌+◌, ◌-◌, ◌^◌, ◌<◌, ◌≤◌, true, false, ltb, List, [], ◌∷◌, ◌++◌, length, get_or, set, take, drop, refl, ap, arith, sym, subst, ◌∙◌, length-append, length-drop}
use Rattle.std.specs.Prelude.{ℤ, pos, ◌+ℤ◌, ◌≤ℤ◌, FitsSigned}
use Rattle.std.specs.Int.{w128}
use Rattle.std.proofs.lemmas.Int.{ints}
use Rattle.scaled_num.proofs.Floors.{small_fits}
use Rattle.std.specs.List.{AllByRecursion, copy_within}
use Rattle.std.specs.List.Sorted.{IsPartitionedBy, IsPartitionPoint}
use Rattle.std.proofs.lemmas.Bool.{lt-ltb, ltb-true, ltb-false}
use Rattle.std.proofs.lemmas.List.{drop-take, get_or-take, length-take-le}
use Rattle.std.proofs.lemmas.List.Edits.{take-paste}
use Rattle.std.proofs.Math.Seq.{take-set-lt}
use Rattle.scaled_num.proofs.Sums.{each-at}
use Rattle.point_set.specs.Split.{AreRisingPairs}
use Rattle.point_set.specs.Takes.{IsIndex, IsSmall, inserted}
use Rattle.point_set.proofs.Items.{inserted-new, inserted-there, later, rest-rises}

in-order : (xs : List (ℕ × ℤ)) → AreRisingPairs xs → (i j : ℕ) (d : ℕ × ℤ) → i ≤ j → j < length xs → (get_or xs i d).0 ≤ (get_or xs j d).0
in-order [] h i j d le lt = absurd (omega arith)
in-order (x ∷ xs) h zero zero d le lt = omega arith
in-order (x ∷ xs) h zero (suc j) d le lt = omega (arith, each-at (λ (y : ℕ × ℤ). x.0 < y.0) d xs j (later x xs h) (omega arith))
in-order (x ∷ xs) h (suc i) zero d le lt = absurd (omega arith)
in-order (x ∷ xs) h (suc i) (suc j) d le lt = in-order xs (rest-rises x xs h) i j d (omega arith) (omega arith)

pub parted : (k : ℕ) (xs : List (ℕ × ℤ)) → AreRisingPairs xs → IsPartitionedBy (λ y. ltb y.0 k) xs
parted k xs h i j d le lt e =
    let low : (get_or xs j d).0 < k = ltb-true (get_or xs j d).0 k e in
    lt-ltb (get_or xs i d).0 k (omega (arith, in-order xs h i j d le lt))

pub index-of : (k : ℕ) (xs : List (ℕ × ℤ)) (index : ℕ) → index ≤ length xs → IsPartitionPoint (λ y. ltb y.0 k ≡ true) (λ y. ltb y.0 k ≡ false) xs index → IsIndex k xs index
index-of k xs index l point = record {
  upto = l;
  below = λ j m. ltb-true (get_or xs j (0, pos 0)).0 k (point.0 j (0, pos 0) (omega arith) m);
  above = λ m. ltb-false (get_or xs index (0, pos 0)).0 k (point.1 index (0, pos 0) (omega arith) m);
}

-- weight is added to the item that stands at the index
pub written-there : (k : ℕ) (w : ℤ) (items : List (ℕ × ℤ)) (n index : ℕ) → n ≤ length items → IsIndex k (take n items) index → index < n → (get_or items index (0, pos 0)).0 ≡ k →
    take n (set items index ((get_or items index (0, pos 0)).0, (get_or items index (0, pos 0)).1 +ℤ w)) ≡ inserted k w (take n items)
written-there k w items n index l h m e =
    let same : get_or (take n items) index (0, pos 0) ≡ get_or items index (0, pos 0) = get_or-take n items index (0, pos 0) m in
    take-set-lt n items index ((get_or items index (0, pos 0)).0, (get_or items index (0, pos 0)).1 +ℤ w) m
    ∙ ap (λ (x : ℕ × ℤ). set (take n items) index (x.0, x.1 +ℤ w)) (sym same)
    ∙ sym (inserted-there k w (take n items) index (0, pos 0) (omega (arith, length-take-le n items l)) h.below (ap (λ (x : ℕ × ℤ). x.0) same ∙ e))

-- a new item is put in at the index
set-seam : {X : Type 0} (xs ys : List X) (i : ℕ) (v : X) → i < length xs → set (take (suc i) xs ++ ys) i v ≡ take i xs ++ v ∷ ys
set-seam [] ys i v l = absurd (omega arith)
set-seam (x ∷ xs) ys zero v l = refl
set-seam (x ∷ xs) ys (suc i) v l = ap (λ zs. x ∷ zs) (set-seam xs ys i v (omega arith))

take-of-take : {X : Type 0} (i n : ℕ) (xs : List X) → i ≤ n → take i (take n xs) ≡ take i xs
take-of-take zero n xs l = refl
take-of-take (suc i) zero xs l = absurd (omega arith)
take-of-take (suc i) (suc n) [] l = refl
take-of-take (suc i) (suc n) (x ∷ xs) l = ap (λ zs. x ∷ zs) (take-of-take i n xs (omega arith))

is-new : (k : ℕ) (w : ℤ) (items : List (ℕ × ℤ)) (n index : ℕ) → n ≤ length items → IsIndex k (take n items) index → (index < n → (get_or items index (0, pos 0)).0 ≡ k → ⊥) →
    inserted k w (take n items) ≡ take index (take n items) ++ (k, w) ∷ drop index (take n items)
is-new k w items n index l h ne = inserted-new k w (take n items) index (0, pos 0) h.upto h.below (λ m.
    let inside : index < n = omega (arith, length-take-le n items l) in
    let same : get_or (take n items) index (0, pos 0) ≡ get_or items index (0, pos 0) = get_or-take n items index (0, pos 0) inside in
    apart k (get_or (take n items) index (0, pos 0)).0 (h.above m) (λ e. ne inside (sym (ap (λ (x : ℕ × ℤ). x.0) same) ∙ e)))
  where
    apart : (k a : ℕ) → k ≤ a → (a ≡ k → ⊥) → k < a
    apart k a l ne = omega arith

pub room-for-new : (k : ℕ) (w : ℤ) (items : List (ℕ × ℤ)) (n index most : ℕ) → n ≤ length items → IsIndex k (take n items) index → (index < n → (get_or items index (0, pos 0)).0 ≡ k → ⊥) →
    length (inserted k w (take n items)) ≤ most → n < most
room-for-new k w items n index most l h ne room =
    let xs : List (ℕ × ℤ) = take n items in
    let upto : index ≤ length xs = h.upto in
    omega (
      arith,
      ap length (is-new k w items n index l h ne),
      length-append (take index xs) ((k, w) ∷ drop index xs),
      length-take-le index xs upto,
      length-drop index xs,
      length-take-le n items l,
    )

pub written-new : (k : ℕ) (w : ℤ) (items : List (ℕ × ℤ)) (n index : ℕ) → n < length items → IsIndex k (take n items) index → (index < n → (get_or items index (0, pos 0)).0 ≡ k → ⊥) →
    take (n + 1) (set (copy_within items index n (index + 1)) index (k, w)) ≡ inserted k w (take n items)
written-new k w items n index l h ne =
    let upto : index ≤ n = omega (arith, h.upto, length-take-le n items (omega arith)) in
    let m : ℕ = n - index in
    let whole : index + 1 + m ≡ n + 1 = omega arith in
    let again : index + m ≡ n = omega arith in
    let next : index + 1 ≡ suc index = omega arith in
    let moved : List (ℕ × ℤ) = copy_within items index n (index + 1) in
    take-set-lt (n + 1) moved index (k, w) (omega arith)
    ∙ ap (λ (xs : List (ℕ × ℤ)). set xs index (k, w))
    (ap (λ (j : ℕ). take j moved) (sym whole) ∙ take-paste items (index + 1) (drop index items) m (omega arith) (omega (arith, length-drop index items))
    ∙ ap (λ (j : ℕ). take j items ++ take m (drop index items)) next)
    ∙ set-seam items (take m (drop index items)) index (k, w) (omega arith)
    ∙ ap (λ (xs : List (ℕ × ℤ)). xs ++ (k, w) ∷ take m (drop index items)) (sym (take-of-take index n items upto))
    ∙ ap (λ (xs : List (ℕ × ℤ)). take index (take n items) ++ (k, w) ∷ xs) (sym (drop-take index m items) ∙ ap (λ (j : ℕ). drop index (take j items)) again)
    ∙ sym (is-new k w items n index (omega arith) h ne)

-- weights that fit
pub record SumFits (w x : ℤ) : Type 0 where
  pub old_fits : FitsSigned w128 x
  pub sum_fits : FitsSigned w128 (x +ℤ w)

pub sum-fits : (w : ℤ) (items : List (ℕ × ℤ)) (n index : ℕ) → n ≤ length items → index < n → AllByRecursion (λ item. IsSmall item.1) (take n items) → IsSmall w → SumFits w (get_or items index (0, pos 0)).1
sum-fits w items n index l m small h =
    let x : ℤ = (get_or items index (0, pos 0)).1 in
    let s : IsSmall x = subst (λ (y : ℕ × ℤ). IsSmall y.1) (get_or-take n items index (0, pos 0) m)
    (each-at (λ (item : ℕ × ℤ). IsSmall item.1) (0, pos 0) (take n items) index small (omega (arith, length-take-le n items l))) in
    record {
      old_fits = small_fits x s.0 (wide x s.1);
      sum_fits = small_fits (x +ℤ w) (low x w s.0 h.0) (high x w s.1 h.1);
    }
  where
    wide : (a : ℤ) → a ≤ℤ pos (2 ^ 100) → a ≤ℤ pos (2 ^ 126)
    wide a h = omega (arith, ints)

    low : (a b : ℤ) → pos 0 ≤ℤ a → pos 0 ≤ℤ b → pos 0 ≤ℤ (a +ℤ b)
    low a b p q = omega (arith, ints)

    high : (a b : ℤ) → a ≤ℤ pos (2 ^ 100) → b ≤ℤ pos (2 ^ 100) → (a +ℤ b) ≤ℤ pos (2 ^ 126)
    high a b p q = omega (arith, ints)
