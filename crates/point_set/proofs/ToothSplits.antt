-- The tooth split of a mass as a split by one wanted point, and what its items cost.
use Rattle.std.proofs.Common.{◌≡◌, ℕ, ◌<◌, ◌≤◌, Bool, true, false, cond, not, List, [], ◌∷◌, Option, Some, None, inl, inr, length, map, ap, ap₂, arith, sym, subst, ◌∙◌}
use Rattle.std.specs.Prelude.{ℤ, pos, ◌+ℤ◌, ◌-ℤ◌, ◌*ℤ◌, ◌≤ℤ◌, ◌<ℤ◌, ◌==◌}
use Rattle.std.specs.List.{AllByRecursion}
use Rattle.std.proofs.lemmas.Bool.Decides.{eqb_tells}
use Rattle.std.proofs.lemmas.Int.{ints}
use Rattle.scaled_num.specs.Share.{IsShared, at}
use Rattle.scaled_num.specs.Sums.{below, sum_of, total}
use Rattle.scaled_num.proofs.Floors.{All-from_recursion, NoneNegative}
use Rattle.scaled_num.proofs.Products.{add-mulℤ, mulℤ_comm}
use Rattle.scaled_num.proofs.Sums.{total-add, total-below, total-scale, total-single, total-swap}
use Rattle.game_model.specs.Game.{IsBelief}
use Rattle.belief.specs.Beliefs.{corner_of}
use Rattle.point_set.specs.Best.{IsBest}
use Rattle.point_set.specs.Corners.{point_at}
use Rattle.point_set.specs.Points.{PointData}
use Rattle.point_set.specs.Sawtooth.{AreCorners, IsBound, IsSawtooth, base_cost, cost_with}
use Rattle.point_set.specs.Split.{AreTakes, IsSplit, IsWanted, Take, TakesMost, is_corner, less_times, weight_of}
use Rattle.point_set.specs.Tooth.{HaveToothWeights, IsTooth, IsToothSplit, at_corners, items_cost}
use Rattle.point_set.proofs.One.{base-one, bound-one, bound-over}
use Rattle.scaled_num.proofs.OneShare.{shared-sum}
use Rattle.point_set.proofs.PointBounds.{times-total}
use Rattle.point_set.proofs.Rests.{corner-at, corner-other, same-corners}
use Rattle.point_set.proofs.Taking.{less-at, less-long}

abbrev Items : Type 0
Items = List (ℕ × ℤ)

-- ---- one wanted point
pub one-wanted : (points : List PointData) (states : ℕ) (corners : ℕ → ℕ) (k : ℕ) → k < length points → AreCorners points states corners → IsWanted points states ((k, pos 1) ∷ [])
one-wanted points states corners k l current = record {
  some = omega arith;
  rising = tt;
  inside = (l, tt);
  weights = ((omega (arith, ints), omega (arith, ints)), tt);
  corners = corners;
  current = current;
  few = few (not (is_corner corners states k));
}
  where
    few : (b : Bool) → length {A = ℕ × ℤ} (cond b ((k, pos 1) ∷ []) []) ≤ 8
    few true = omega arith
    few false = omega arith

turned : (a b : ℕ) → (a == b) ≡ (b == a)
turned a b = elim (eqb_tells a b) [
  | inl e ↦ e.0 ∙ sym (same b a (sym e.1))
  | inr e ↦ e.0 ∙ sym (other b a (λ same. e.1 (sym same)))
]
  where
    same : (b a : ℕ) → b ≡ a → (b == a) ≡ true
    same b a e = elim (eqb_tells b a) [ inl t ↦ t.0 | inr t ↦ absurd (t.1 e) ]

    other : (b a : ℕ) → (b ≡ a → ⊥) → (b == a) ≡ false
    other b a ne = elim (eqb_tells b a) [ inl t ↦ absurd (ne t.1) | inr t ↦ t.0 ]

head-same : (x y : ℕ) (xs : List ℕ) → x ∷ xs ≡ y ∷ [] → x ≡ y
head-same x y xs e = cc

fewer : (y : ℕ) → [] ≡ y ∷ [] → ⊥
fewer y e = cc

more : (x y z : ℕ) (xs : List ℕ) → x ∷ y ∷ xs ≡ z ∷ [] → ⊥
more x y z xs e = cc

-- a split by one wanted point takes it as often as it fits
by-takes : (points : List PointData) (corners : ℕ → ℕ) (mass rest : List ℤ) (k : ℕ) (items : Items) (takes : List Take) → IsBelief (length mass) (point_at points k).belief →
    map (λ (t : Take). t.number) takes ≡ k ∷ [] → IsShared (pos 1 ∷ []) (sum_of mass) (map (λ (t : Take). t.share) takes) → AreTakes points mass takes rest →
    ((i : ℕ) → weight_of items i ≡ total (λ (t : Take). cond (t.number == i) t.times (pos 0)) takes +ℤ total (λ s. cond (corners s == i) (at rest s) (pos 0)) (below (length mass))) →
    IsTooth points corners mass k items
by-takes points corners mass rest k items [] right e shared taken weights = absurd (fewer k e)
by-takes points corners mass rest k items (t ∷ u ∷ ts) right e shared taken weights = absurd (more t.number u.number k (map (λ (t : Take). t.number) ts) e)
by-takes points corners mass rest k items (t ∷ []) right e shared taken weights =
    record {
      times = t.times;
      most = record { fits = here.fits; most = λ n f. here.most n (subst (λ (z : ℤ). (n *ℤ sum_of belief) ≤ℤ z) (sym share) (times-total mass belief n right.long f)) f };
      weights = λ i. weights i ∙ ap₂ (λ (x y : ℤ). x +ℤ y) (first i) (ap (λ (xs : List ℤ). total (λ s. cond (corners s == i) (at xs s) (pos 0)) (below (length mass))) left ∙ ap (λ (n : ℕ). total (λ s. cond (corners s == i) (at (less_times mass belief t.times) s) (pos 0)) (below n)) (sym (less-long mass belief t.times)));
    }
  where
    belief : List ℤ
    belief = (point_at points k).belief

    number : t.number ≡ k
    number = head-same t.number k [] e

    alone : (x y : ℤ) → x +ℤ pos 0 ≡ y → x ≡ y
    alone x y e = omega (arith, ints)

    none : NoneNegative (pos 1 ∷ [])
    none = All-from_recursion (λ (x : ℤ). pos 0 ≤ℤ x) (pos 1 ∷ []) (omega (arith, ints), tt)

    share : t.share ≡ sum_of mass
    share = alone t.share (sum_of mass) (shared-sum (pos 1 ∷ []) (sum_of mass) (t.share ∷ []) none shared)

    here : TakesMost mass belief t.share t.times
    here = subst (λ (n : ℕ). TakesMost mass (point_at points n).belief t.share t.times) number taken.0

    left : rest ≡ less_times mass belief t.times
    left = taken.1 ∙ ap (λ (n : ℕ). less_times mass (point_at points n).belief t.times) number

    only : (x : ℤ) → x +ℤ pos 0 ≡ x
    only x = omega (arith, ints)

    first : (i : ℕ) → cond (t.number == i) t.times (pos 0) +ℤ pos 0 ≡ cond (i == k) t.times (pos 0)
    first i = only (cond (t.number == i) t.times (pos 0)) ∙ ap (λ (n : ℕ). cond (n == i) t.times (pos 0)) number ∙ ap (λ (b : Bool). cond b t.times (pos 0)) (turned k i)

pub one-tooth : (points : List PointData) (mass : List ℤ) (k : ℕ) (items : Items) → IsBelief (length mass) (point_at points k).belief → (h : IsSplit points ((k, pos 1) ∷ []) mass items) →
    IsTooth points h.corners mass k items
one-tooth points mass k items right h = by-takes points h.corners mass h.rest k items h.takes right h.listed h.shared h.taken h.weights

-- ---- a corner that is taken first, and then all corners: the same as all corners
corner-part : (n j s : ℕ) → j < n → s < n → at (corner_of n j) s ≡ pos (cond (s == j) 1 0)
corner-part n j s lj ls = elim (eqb_tells s j) [
  | inl e ↦ ap (at (corner_of n j)) e.1 ∙ corner-at n j lj ∙ sym (ap (λ (b : Bool). pos (cond b 1 0)) e.0)
  | inr e ↦ corner-other n j s ls e.1 ∙ sym (ap (λ (b : Bool). pos (cond b 1 0)) e.0)
]

corner-first : (corners : ℕ → ℕ) (mass belief : List ℤ) (t : ℤ) (j i : ℕ) → j < length mass → belief ≡ corner_of (length mass) j →
    cond (i == corners j) t (pos 0) +ℤ at_corners corners (less_times mass belief t) i ≡ at_corners corners mass i
corner-first corners mass belief t j i l e =
    ap₂ (λ (x y : ℤ). x +ℤ y)
    (ap (λ (b : Bool). cond b t (pos 0)) (turned i (corners j)) ∙ sym (total-single (λ s. cond (corners s == i) t (pos 0)) j (length mass) l))
    (ap (λ (n : ℕ). total (λ s. cond (corners s == i) (at (less_times mass belief t) s) (pos 0)) (below n)) (less-long mass belief t))
    ∙ sym (total-add (λ s. pos (cond (s == j) 1 0) *ℤ cond (corners s == i) t (pos 0)) (λ s. cond (corners s == i) (at (less_times mass belief t) s) (pos 0)) (below (length mass)))
    ∙ total-below (length mass) _ (λ s. cond (corners s == i) (at mass s) (pos 0)) (λ s ls.
    ap (λ (z : ℤ). pos (cond (s == j) 1 0) *ℤ cond (corners s == i) t (pos 0) +ℤ cond (corners s == i) z (pos 0))
    (less-at mass belief t s ls ∙ ap (λ (b : List ℤ). at mass s -ℤ t *ℤ at b s) e ∙ ap (λ (z : ℤ). at mass s -ℤ t *ℤ z) (corner-part (length mass) j s l ls))
    ∙ joined (corners s == i) (s == j) (at mass s) t)
  where
    joined : (b a : Bool) (m t : ℤ) → pos (cond a 1 0) *ℤ cond b t (pos 0) +ℤ cond b (m -ℤ t *ℤ pos (cond a 1 0)) (pos 0) ≡ cond b m (pos 0)
    joined true true m t = omega (arith, ints)
    joined true false m t = omega (arith, ints)
    joined false true m t = omega (arith, ints)
    joined false false m t = omega (arith, ints)

pub corner-tooth : (points : List PointData) (corners : ℕ → ℕ) (mass : List ℤ) (j k : ℕ) (items : Items) → j < length mass → AreCorners points (length mass) corners → k ≡ corners j →
    IsBelief (length mass) (point_at points k).belief → IsTooth points corners mass k items → HaveToothWeights points corners mass None items
corner-tooth points corners mass j k items l current e right h i =
    h.weights i
    ∙ ap (λ (n : ℕ). cond (i == n) h.times (pos 0) +ℤ at_corners corners (less_times mass (point_at points k).belief h.times) i) e
    ∙ corner-first corners mass (point_at points k).belief h.times j i l
    (ap (λ (n : ℕ). (point_at points n).belief) e ∙ (current j l).corner.belief
    ∙ ap (λ (n : ℕ). corner_of n j) (ap (λ (n : ℕ). length (point_at points n).belief) (sym e) ∙ right.long))

-- ---- what items cost, number by number
part : (a i : ℕ) (w y : ℤ) → cond (a == i) w (pos 0) *ℤ y ≡ pos (cond (i == a) 1 0) *ℤ (w *ℤ y)
part a i w y = ap (λ (b : Bool). cond b w (pos 0) *ℤ y) (turned a i) ∙ by (i == a) (w *ℤ y)
  where
    once : (z : ℤ) → z ≡ pos 1 *ℤ z
    once z = omega (arith, ints)

    never : (y z : ℤ) → pos 0 *ℤ y ≡ pos 0 *ℤ z
    never y z = omega (arith, ints)

    by : (b : Bool) (z : ℤ) → cond b w (pos 0) *ℤ y ≡ pos (cond b 1 0) *ℤ (w *ℤ y)
    by true z = once (w *ℤ y)
    by false z = never y (w *ℤ y)

single : (w : ℤ) (f : ℕ → ℤ) (a n : ℕ) → a < n → total (λ i. cond (a == i) w (pos 0) *ℤ f i) (below n) ≡ w *ℤ f a
single w f a n l = total-below n _ (λ i. pos (cond (i == a) 1 0) *ℤ (w *ℤ f i)) (λ i m. part a i w (f i)) ∙ total-single (λ i. w *ℤ f i) a n l

by-number : (n : ℕ) (f : ℕ → ℤ) (items : Items) → AllByRecursion (λ item. item.0 < n) items → total (λ item. item.1 *ℤ f item.0) items ≡ total (λ i. weight_of items i *ℤ f i) (below n)
by-number n f [] h = sym (total-scale (pos 0) f (below n) ∙ none (total f (below n)))
  where
    none : (x : ℤ) → pos 0 *ℤ x ≡ pos 0
    none x = omega (arith, ints)
by-number n f (x ∷ xs) h =
    ap₂ (λ (y z : ℤ). y +ℤ z) (sym (single x.1 f x.0 n h.0)) (by-number n f xs h.1)
    ∙ sym (total-add (λ i. cond (x.0 == i) x.1 (pos 0) *ℤ f i) (λ i. weight_of xs i *ℤ f i) (below n))
    ∙ total-below n _ (λ i. weight_of (x ∷ xs) i *ℤ f i) (λ i l. sym (add-mulℤ (cond (x.0 == i) x.1 (pos 0)) (weight_of xs i) (f i)))

-- what goes to the corners costs its part at each
spread : (corners : ℕ → ℕ) (m f : ℕ → ℤ) (states n : ℕ) → ((s : ℕ) → s < states → corners s < n) →
    total (λ i. total (λ s. cond (corners s == i) (m s) (pos 0)) (below states) *ℤ f i) (below n) ≡ total (λ s. m s *ℤ f (corners s)) (below states)
spread corners m f states n inside =
    total-below n _ (λ i. total (λ s. cond (corners s == i) (m s) (pos 0) *ℤ f i) (below states)) (λ i l. sym (scaled (f i) (λ s. cond (corners s == i) (m s) (pos 0))))
    ∙ total-swap (λ i s. cond (corners s == i) (m s) (pos 0) *ℤ f i) (below n) (below states)
    ∙ total-below states _ (λ s. m s *ℤ f (corners s)) (λ s l. single (m s) f (corners s) n (inside s l))
  where
    scaled : (y : ℤ) (g : ℕ → ℤ) → total (λ s. g s *ℤ y) (below states) ≡ total g (below states) *ℤ y
    scaled y g = total-below states _ (λ s. y *ℤ g s) (λ s l. mulℤ_comm (g s) y) ∙ total-scale y g (below states) ∙ mulℤ_comm y (total g (below states))

abbrev value_at : List PointData → ℕ → ℤ
value_at points i = (point_at points i).value

corners-inside : (points : List PointData) (states : ℕ) (corners : ℕ → ℕ) → AreCorners points states corners → (s : ℕ) → s < states → corners s < length points
corners-inside points states corners current s l = (current s l).inside

base-items : (points : List PointData) (corners : ℕ → ℕ) (mass : List ℤ) (items : Items) → AreCorners points (length mass) corners → AllByRecursion (λ item. item.0 < length points) items →
    HaveToothWeights points corners mass None items → items_cost points items ≡ base_cost points corners mass
base-items points corners mass items current inside weights =
    by-number (length points) (value_at points) items inside
    ∙ total-below (length points) _ (λ i. at_corners corners mass i *ℤ value_at points i) (λ i l. ap (λ (z : ℤ). z *ℤ value_at points i) (weights i))
    ∙ spread corners (at mass) (value_at points) (length mass) (length points) (corners-inside points (length mass) corners current)

tooth-items : (points : List PointData) (corners : ℕ → ℕ) (mass : List ℤ) (k : ℕ) (items : Items) → AreCorners points (length mass) corners → AllByRecursion (λ item. item.0 < length points) items → k < length points →
    (h : IsTooth points corners mass k items) → items_cost points items ≡ cost_with points corners mass (point_at points k) h.times
tooth-items points corners mass k items current inside l h =
    by-number (length points) (value_at points) items inside
    ∙ total-below (length points) _ (λ i. cond (k == i) h.times (pos 0) *ℤ value_at points i +ℤ at_corners corners left i *ℤ value_at points i) (λ i m.
    ap (λ (z : ℤ). z *ℤ value_at points i) (h.weights i ∙ ap (λ (b : Bool). cond b h.times (pos 0) +ℤ at_corners corners left i) (turned i k))
    ∙ add-mulℤ (cond (k == i) h.times (pos 0)) (at_corners corners left i) (value_at points i))
    ∙ total-add (λ i. cond (k == i) h.times (pos 0) *ℤ value_at points i) (λ i. at_corners corners left i *ℤ value_at points i) (below (length points))
    ∙ ap₂ (λ (y z : ℤ). y +ℤ z) (single h.times (value_at points) k (length points) l)
    (ap (λ (n : ℕ). total (λ i. total (λ s. cond (corners s == i) (at left s) (pos 0)) (below n) *ℤ value_at points i) (below (length points))) (less-long mass belief h.times)
    ∙ spread corners (at left) (value_at points) (length mass) (length points) (corners-inside points (length mass) corners current)
    ∙ total-below (length mass) _ (λ s. (at mass s -ℤ h.times *ℤ at belief s) *ℤ value_at points (corners s)) (λ s m. ap (λ (z : ℤ). z *ℤ value_at points (corners s)) (less-at mass belief h.times s m)))
  where
    belief : List ℤ
    belief = (point_at points k).belief

    left : List ℤ
    left = less_times mass belief h.times

-- ---- so the items of a tooth split cost what the sawtooth is
at-most : (x y : ℤ) → x ≡ y → x ≤ℤ y
at-most x y e = omega (arith, ints)

by-best : (points : List PointData) (mass : List ℤ) (items : Items) (corners : ℕ → ℕ) (best : Option ℕ) → AreCorners points (length mass) corners → AllByRecursion (λ item. item.0 < length points) items →
    IsBest points mass best → HaveToothWeights points corners mass best items → IsSawtooth points mass (items_cost points items)
by-best points mass items corners None current inside none weights =
    let cost = base-items points corners mass items current inside weights in
    record {
      corners = corners;
      current = current;
      base = at-most (items_cost points items) (base_cost points corners mass) cost;
      least = λ k bound b. subst (λ (z : ℤ). z ≤ℤ bound) (base-one points mass none.corners corners none.current current ∙ sym cost)
          (none.none k bound (bound-over points mass corners none.corners k bound current none.current b));
      some = inl cost;
    }
by-best points mass items corners (Some k) current inside best tooth =
    let cost : items_cost points items ≡ cost_with points corners mass (point_at points k) tooth.times = tooth-items points corners mass k items current inside best.has.inside tooth in
    let bound : IsBound points corners mass k (items_cost points items) = record { inside = best.has.inside; times = tooth.times; most = tooth.most; cost = cost } in
    let same : best.bound ≡ items_cost points items =
    bound-one points mass corners k best.bound (items_cost points items) (bound-over points mass best.corners corners k best.bound best.current current best.has) bound in
    record {
      corners = corners;
      current = current;
      base = under best.bound (items_cost points items) (base_cost points best.corners mass) (base_cost points corners mass) same best.below (base-one points mass best.corners corners best.current current);
      least = λ i other b. subst (λ (z : ℤ). z ≤ℤ other) same (best.least i other (bound-over points mass corners best.corners i other current best.current b));
      some = inr (k, bound);
    }
  where
    under : (x y b c : ℤ) → x ≡ y → x <ℤ b → b ≡ c → y ≤ℤ c
    under x y b c e l f = omega (arith, ints)

pub tooth-cost : (points : List PointData) (mass : List ℤ) (items : Items) → AllByRecursion (λ item. item.0 < length points) items → IsToothSplit points mass items → IsSawtooth points mass (items_cost points items)
tooth-cost points mass items inside h = by-best points mass items h.corners h.best h.current inside h.is_best h.weights

-- a number is that of the best point, or another where there is none
abbrev pub IsNamed : Option ℕ → ℕ → ℕ → Type 0
IsNamed None other k = k ≡ other
IsNamed (Some j) other k = k ≡ j

pub named-inside : (points : List PointData) (mass : List ℤ) (corners : ℕ → ℕ) (k : ℕ) (best : Option ℕ) → 1 ≤ length mass → AreCorners points (length mass) corners → IsBest points mass best → IsNamed best (corners 0) k → k < length points
named-inside points mass corners k None some current best e = subst (λ (n : ℕ). n < length points) (sym e) (current 0 some).inside
named-inside points mass corners k (Some j) some current best e = subst (λ (n : ℕ). n < length points) (sym e) best.has.inside

-- ---- the tooth split, from a split by the best point, or by the corner of the first state
pub tooth-split : (points : List PointData) (mass : List ℤ) (corners : ℕ → ℕ) (k : ℕ) (items : Items) (best : Option ℕ) → 1 ≤ length mass → IsBelief (length mass) (point_at points k).belief →
    AreCorners points (length mass) corners → IsBest points mass best → IsNamed best (corners 0) k → IsSplit points ((k, pos 1) ∷ []) mass items → IsToothSplit points mass items
tooth-split points mass corners k items best some right current is_best named h = record {
  best = best;
  is_best = is_best;
  corners = h.corners;
  current = h.current;
  rising = h.rising;
  positive = h.positive;
  weights = weights best named;
}
  where
    weights : (best : Option ℕ) → IsNamed best (corners 0) k → HaveToothWeights points h.corners mass best items
    weights None e = corner-tooth points h.corners mass 0 k items some h.current (e ∙ same-corners points (length mass) corners h.corners current h.current 0 some) right (one-tooth points mass k items right h)
    weights (Some j) e = subst (λ (n : ℕ). IsTooth points h.corners mass n items) e (one-tooth points mass k items right h)
