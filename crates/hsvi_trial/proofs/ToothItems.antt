-- The items of a tooth split name points, and make up the mass.
use Rattle.std.proofs.Common.{◌≡◌, ℕ, zero, suc, ◌<◌, Bool, true, false, cond, ◌==◌, List, [], ◌∷◌, Option, Some, None, inl, inr, length, refl, ap, sym, subst, ◌∙◌, arith}
use Rattle.std.specs.Prelude.{ℤ, pos, negsuc, ◌+ℤ◌, ◌-ℤ◌, ◌*ℤ◌, ◌≤ℤ◌}
use Rattle.std.specs.List.{AllByRecursion}
use Rattle.std.proofs.lemmas.Bool.Decides.{eqb_tells}
use Rattle.std.proofs.lemmas.Int.{ints}
use Rattle.scaled_num.specs.Share.{at}
use Rattle.scaled_num.specs.Sums.{below, total}
use Rattle.scaled_num.proofs.Products.{sums}
use Rattle.point_set.specs.Best.{IsBest}
use Rattle.point_set.specs.Corners.{point_at}
use Rattle.point_set.specs.Points.{PointData}
use Rattle.point_set.specs.Sawtooth.{AreCorners}
use Rattle.point_set.specs.Split.{AreRisingPairs, less_times, weight_of}
use Rattle.point_set.specs.Takes.{AreBeliefs, AreItems, with_rests}
use Rattle.point_set.specs.Tooth.{HaveToothWeights, IsToothSplit, at_corners}
use Rattle.point_set.proofs.Items.{add-item, no-items, same-items}
use Rattle.point_set.proofs.OneSplit.{items-one}
use Rattle.point_set.proofs.Rests.{left_from, rests-end, rests-made, rests-weigh}
use Rattle.point_set.proofs.Taking.{less-at, less-long, less-none, less-none-negative, times-low}

abbrev Items : Type 0
Items = List (ℕ × ℤ)

abbrev NoneNegative : List ℤ → Type 0
NoneNegative xs = AllByRecursion (λ x. pos 0 ≤ℤ x) xs

-- ---- a point taken so many times
-- items of that point alone, and what it leaves of the mass
record IsBegun (points : List PointData) (mass : List ℤ) (k : ℕ) (times : ℤ) (rest : List ℤ) : Type 0 where
  pub items : Items
  pub made : AreItems points mass (at rest) items
  pub weights : (i : ℕ) → weight_of items i ≡ cond (i == k) times (pos 0)

no-weight : (b : Bool) → pos 0 ≡ cond b (pos 0) (pos 0)
no-weight true = refl
no-weight false = refl

one-weight : (k i : ℕ) (t : ℤ) → cond (k == i) t (pos 0) +ℤ pos 0 ≡ cond (i == k) t (pos 0)
one-weight k i t = elim (eqb_tells k i) [
  | inl e ↦ only (cond (k == i) t (pos 0)) ∙ ap (λ (n : ℕ). cond (n == i) t (pos 0)) e.1
      ∙ ap (λ (n : ℕ). cond (i == n) t (pos 0)) (sym e.1)
  | inr e ↦ only (cond (k == i) t (pos 0)) ∙ ap (λ (b : Bool). cond b t (pos 0)) e.0
      ∙ sym (ap (λ (b : Bool). cond b t (pos 0)) (other i k (λ same. e.1 (sym same))))
]
  where
    only : (x : ℤ) → x +ℤ pos 0 ≡ x
    only x = omega (arith, ints)

    other : (a b : ℕ) → (a ≡ b → ⊥) → (a == b) ≡ false
    other a b ne = elim (eqb_tells a b) [ inl e ↦ absurd (ne e.1) | inr e ↦ e.0 ]

begun : (points : List PointData) (mass : List ℤ) (k : ℕ) (times : ℤ) → k < length points → pos 0 ≤ℤ times →
    IsBegun points mass k times (less_times mass (point_at points k).belief times)
begun points mass k (pos zero) l low = record {
  items = [];
  made = same-items points mass (at mass) (at (less_times mass (point_at points k).belief (pos 0))) []
      (no-items points mass)
      (λ s m. ap (λ (xs : List ℤ). at xs s) (less-none mass (point_at points k).belief));
  weights = λ i. no-weight (i == k);
}
begun points mass k (pos (suc n)) l low = record {
  items = (k, pos (suc n)) ∷ [];
  made = add-item points mass (at mass) (at rest) [] k (pos (suc n)) (no-items points mass) (omega (arith, ints)) l
      (λ s m. back (at mass s) (at rest s) (pos (suc n) *ℤ at (point_at points k).belief s)
      (less-at mass (point_at points k).belief (pos (suc n)) s m));
  weights = λ i. one-weight k i (pos (suc n));
}
  where
    rest : List ℤ
    rest = less_times mass (point_at points k).belief (pos (suc n))

    back : (a r b : ℤ) → r ≡ a -ℤ b → a ≡ r +ℤ b
    back a r b e = omega (arith, sums)
begun points mass k (negsuc n) l low = absurd (omega (arith, ints))

-- ---- then each state's part of what remains at its corner
with-corners : (points : List PointData) (mass rest : List ℤ) (corners : ℕ → ℕ) (before items : Items) →
    AreBeliefs (length mass) points → AreCorners points (length mass) corners →
    NoneNegative rest → length rest ≡ length mass → AreItems points mass (at rest) before → AreRisingPairs items →
    AllByRecursion (λ item. pos 1 ≤ℤ item.1) items →
    ((i : ℕ) → weight_of items i ≡ weight_of before i +ℤ at_corners corners rest i) →
    AreItems points mass (λ s. pos 0) items
with-corners points mass rest corners before items beliefs current none long made rising positive weights =
    subst (AreItems points mass (λ s. pos 0)) (sym same)
    (same-items points mass (left_from rest n) (λ s. pos 0) out h (λ s l. rests-end rest n s l))
  where
    n : ℕ
    n = length mass

    out : Items
    out = with_rests corners rest before n

    h : AreItems points mass (left_from rest n) out
    h = rests-made points mass rest corners before n beliefs current none long (omega arith) made

    weigh : (i : ℕ) → weight_of out i ≡ weight_of before i +ℤ at_corners corners rest i
    weigh i = rests-weigh corners rest before n i none (omega (arith, long))
        ∙ ap (λ (m : ℕ). weight_of before i +ℤ total (λ s. cond (corners s == i) (at rest s) (pos 0)) (below m))
        (sym long)

    same : items ≡ out
    same = items-one items out rising h.rising positive h.positive (λ i. weights i ∙ sym (weigh i))

by-best : (points : List PointData) (mass : List ℤ) (corners : ℕ → ℕ) (best : Option ℕ) (items : Items) →
    AreBeliefs (length mass) points → NoneNegative mass → AreCorners points (length mass) corners →
    IsBest points mass best → AreRisingPairs items → AllByRecursion (λ item. pos 1 ≤ℤ item.1) items →
    HaveToothWeights points corners mass best items → AreItems points mass (λ s. pos 0) items
by-best points mass corners None items beliefs none current best rising positive weights =
    with-corners points mass mass corners [] items beliefs current none refl (no-items points mass) rising positive
    (λ i. weights i ∙ from-none (at_corners corners mass i))
  where
    from-none : (x : ℤ) → x ≡ pos 0 +ℤ x
    from-none x = omega (arith, ints)
by-best points mass corners (Some k) items beliefs none current best rising positive tooth =
    let belief : List ℤ = (point_at points k).belief in
    let rest : List ℤ = less_times mass belief tooth.times in
    let low : pos 0 ≤ℤ tooth.times = times-low mass belief tooth.times none tooth.most in
    let first : IsBegun points mass k tooth.times rest = begun points mass k tooth.times best.has.inside low in
    with-corners points mass rest corners first.items items beliefs current
    (less-none-negative mass belief tooth.times tooth.most.fits)
    (less-long mass belief tooth.times) first.made rising positive
    (λ i. tooth.weights i ∙ ap (λ (z : ℤ). z +ℤ at_corners corners rest i) (sym (first.weights i)))

-- the items of a tooth split leave nothing of the mass
pub tooth-items : (points : List PointData) (mass : List ℤ) (items : Items) → AreBeliefs (length mass) points →
    NoneNegative mass → IsToothSplit points mass items → AreItems points mass (λ s. pos 0) items
tooth-items points mass items beliefs none h =
    by-best points mass h.corners h.best items beliefs none h.current h.is_best h.rising h.positive h.weights
