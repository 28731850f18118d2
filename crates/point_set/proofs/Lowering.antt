-- Where a point is replaced by a lower one that stands, all points stand.
use Rattle.std.proofs.Common.{◌≡◌, ℕ, zero, suc, ◌*◌, ◌<◌, List, [], ◌∷◌, length, get_or, set, arith, inl, inr, ap, sym, subst, refl, ◌∙◌}
use Rattle.std.specs.Prelude.{ℤ, pos, ◌+ℤ◌, ◌*ℤ◌, ◌≤ℤ◌, unsigned_abs}
use Rattle.std.specs.List.{AllByRecursion}
use Rattle.std.proofs.lemmas.Bool.{cases_order}
use Rattle.std.proofs.lemmas.Int.{ints}
use Rattle.std.proofs.lemmas.List.{get_or-set_same, get_or-set_other, length-set}
use Rattle.scaled_num.specs.Sums.{below, total}
use Rattle.scaled_num.proofs.Products.{le-mulℤ}
use Rattle.scaled_num.proofs.Sums.{each, sum_by-same, total-below-le, total-le}
use Rattle.game_model.specs.Branches.{Continuation}
use Rattle.game_model.specs.Game.{GameData, unit}
use Rattle.game_model.specs.Numbers.{Numbers}
use Rattle.point_set.specs.Changes.{IsLower, PointsStand}
use Rattle.point_set.specs.Corners.{point_at}
use Rattle.point_set.specs.Points.{Point, PointData, PointFits, PointStands, no_point, point_of, point_worth, points_of, shared, shares_at}

through : (x y z : ℤ) → x ≤ℤ y → y ≤ℤ z → x ≤ℤ z
through x y z h k = omega (arith, ints)

same : (x : ℤ) → x ≤ℤ x
same x = omega (arith, ints)

more : (n x y : ℤ) → x ≤ℤ y → (n +ℤ x) ≤ℤ (n +ℤ y)
more n x y h = omega (arith, ints)

-- points of the same beliefs and of no higher values than others, number by number
abbrev pub AreLower : List PointData → List PointData → Type 0
AreLower old new = (j : ℕ) → IsLower (point_at old j) (point_at new j)

-- one stage costs no more among lower points
pub worth-falls : (g : Numbers) (old new : List PointData) (point : Point) → AreLower old new → (a : ℕ) → point_worth g (points_of new) point a ≤ℤ point_worth g (points_of old) point a
worth-falls g old new point lower a =
    let counted : List PointData → ℕ → ℤ = λ points o. total (λ (share : Continuation). pos share.weight *ℤ (points_of points share.member).value) (shares_at point a o) in
    more (total (λ s. total (λ c. pos (point.belief s * point.mixes s c) *ℤ g.reward s a c *ℤ pos (unit * g.row_total * g.discount_under)) (below g.informed_actions)) (below g.states))
    (pos g.discount_over *ℤ total (counted new) (below g.observations)) (pos g.discount_over *ℤ total (counted old) (below g.observations))
    (le-mulℤ g.discount_over (total (counted new) (below g.observations)) (total (counted old) (below g.observations))
    (total-below-le g.observations (counted new) (counted old) (λ o lo.
    total-le (λ (share : Continuation). pos share.weight *ℤ (points_of new share.member).value) (λ (share : Continuation). pos share.weight *ℤ (points_of old share.member).value) (shares_at point a o)
    (each (λ (share : Continuation). le-mulℤ share.weight ((points_of new share.member).value) ((points_of old share.member).value) (lower share.member).value) (shares_at point a o)))))

-- and shares bring what they brought
pub shared-same : (old new : List PointData) (point : Point) → AreLower old new → (a o t : ℕ) → shared (points_of new) point a o t ≡ shared (points_of old) point a o t
shared-same old new point lower a o t =
    sum_by-same (λ (share : Continuation). share.weight * (points_of new share.member).belief t) (λ (share : Continuation). share.weight * (points_of old share.member).belief t) (shares_at point a o)
    (λ (share : Continuation). ap (λ (xs : List ℤ). share.weight * unsigned_abs (get_or xs t (pos 0))) (lower share.member).belief)

pub stands-lower : (g : Numbers) (old new : List PointData) (point : Point) → AreLower old new → PointStands g (points_of old) point → PointStands g (points_of new) point
stands-lower g old new point lower stands = record {
  split = λ a o t la lo lt. shared-same old new point lower a o t ∙ stands.split a o t la lo lt;
  value = λ a la. through _ _ _ (worth-falls g old new point lower a) (stands.value a la);
}

-- ---- a point is replaced
pub same-lower : (point : PointData) → IsLower point point
same-lower point = record { belief = refl; value = same point.value }

pub replaced-lower : (points : List PointData) (number : ℕ) (point : PointData) → number < length points → IsLower (point_at points number) point → AreLower points (set points number point)
replaced-lower points number point l lower j =
    elim (cases_order j number) [
      | inl e ↦ subst (λ (i : ℕ). IsLower (point_at points i) (point_at (set points number point) i)) (sym e)
          (subst (IsLower (point_at points number)) (sym (get_or-set_same points number point no_point l)) lower)
      | inr e ↦ subst (IsLower (point_at points j)) (sym (get_or-set_other points number j point no_point (λ i. elim e [ inl m ↦ omega arith | inr m ↦ omega arith ]))) (same-lower (point_at points j))
    ]

pub lowered-stand : (g : Numbers) (points : List PointData) (number : ℕ) (point : PointData) → PointsStand g points → number < length points → IsLower (point_at points number) point →
    PointStands g (points_of points) (point_of point) → PointsStand g (set points number point)
lowered-stand g points number point stand l lower stands j lj =
    let all : AreLower points (set points number point) = replaced-lower points number point l lower in
    elim (cases_order j number) [
      | inl e ↦ subst (λ (i : ℕ). PointStands g (points_of (set points number point)) (points_of (set points number point) i)) (sym e)
          (subst (λ (x : PointData). PointStands g (points_of (set points number point)) (point_of x)) (sym (get_or-set_same points number point no_point l)) (stands-lower g points (set points number point) (point_of point) all stands))
      | inr e ↦ subst (λ (x : PointData). PointStands g (points_of (set points number point)) (point_of x)) (sym (get_or-set_other points number j point no_point (λ i. elim e [ inl m ↦ omega arith | inr m ↦ omega arith ])))
          (stands-lower g points (set points number point) (points_of points j) all (stand j (subst (λ (n : ℕ). j < n) (length-set points number point) lj)))
    ]

-- what holds of all elements holds of them where one is replaced by another of which it holds
pub each-set : {X : Type 0} (P : X → Type 0) (xs : List X) (i : ℕ) (y : X) → AllByRecursion P xs → P y → AllByRecursion P (set xs i y)
each-set P [] i y h p = tt
each-set P (x ∷ xs) zero y h p = (p, h.1)
each-set P (x ∷ xs) (suc i) y h p = (h.0, each-set P xs i y h.1 p)

pub replaced-fit : (g : GameData) (points : List PointData) (number : ℕ) (point : PointData) → AllByRecursion (PointFits g (length points)) points → PointFits g (length points) point →
    AllByRecursion (PointFits g (length (set points number point))) (set points number point)
replaced-fit g points number point fit fits =
    subst (λ (n : ℕ). AllByRecursion (PointFits g n) (set points number point)) (sym (length-set points number point)) (each-set (PointFits g (length points)) points number point fit fits)
