-- The first point of the least bound, found point by point.
use Rattle.std.proofs.Common.{◌≡◌, ℕ, ◌+◌, ◌<◌, ◌≤◌, inl, inr, List, Option, Some, None, length, arith, sym, subst}
use Rattle.std.specs.Prelude.{ℤ, ◌≤ℤ◌, ◌<ℤ◌}
use Rattle.std.proofs.lemmas.Int.{ints}
use Rattle.point_set.specs.Best.{IsBest}
use Rattle.point_set.specs.Bounds.{IsLessened, gap_bound}
use Rattle.point_set.specs.Corners.{point_at}
use Rattle.point_set.specs.Points.{PointData}
use Rattle.point_set.specs.Sawtooth.{AreCorners, IsBound, base_cost, cost_with}
use Rattle.point_set.proofs.LeastBounds.{LeastSoFar, next-least}

-- the point k is the first of those with the bound `least`, which is below the base
pub record LeastIsOf (points : List PointData) (corners : ℕ → ℕ) (mass : List ℤ) (least : ℤ) (k : ℕ) : Type 0 where
  pub has : IsBound points corners mass k least
  pub below : least <ℤ base_cost points corners mass
  pub first : (i : ℕ) (other : ℤ) → i < k → IsBound points corners mass i other → least <ℤ other

abbrev pub IsLeader : List PointData → (ℕ → ℕ) → List ℤ → ℤ → Option ℕ → Type 0
IsLeader points corners mass least None = least ≡ base_cost points corners mass
IsLeader points corners mass least (Some k) = LeastIsOf points corners mass least k

-- the least so far, and the first point that has it
pub record LeadSoFar (points : List PointData) (corners : ℕ → ℕ) (mass : List ℤ) (i : ℕ) (least : ℤ) (best : Option ℕ) : Type 0 where
  pub so_far : LeastSoFar points corners mass i least
  pub leader : IsLeader points corners mass least best

-- a bound below the least so far leads
pub new-leader : (points : List PointData) (corners : ℕ → ℕ) (mass : List ℤ) (i : ℕ) (gap base least result : ℤ) →
    i < length points → ((times : ℤ) → gap_bound base gap times ≡ cost_with points corners mass (point_at points i) times) →
    LeastSoFar points corners mass i least → IsLessened mass (point_at points i).belief gap base least result → result <ℤ least →
    LeadSoFar points corners mass (i + 1) result (Some i)
new-leader points corners mass i gap base least result inside cost h g less = record {
  so_far = next-least points corners mass i gap base least result inside cost h g;
  leader = record {
    has = elim g.some [
      | inl same ↦ absurd (apart result least same less)
      | inr new ↦ record { inside = inside; times = new.0; most = new.1.0; cost = over new.0 new.1.1 }
    ];
    below = under result least (base_cost points corners mass) less h.base;
    first = λ k other l b. under result least other less (h.each k other l b);
  };
}
  where
    apart : (x y : ℤ) → x ≡ y → x <ℤ y → ⊥
    apart x y e l = omega (arith, ints)

    under : (x y z : ℤ) → x <ℤ y → y ≤ℤ z → x <ℤ z
    under x y z l m = omega (arith, ints)

    over : (times : ℤ) → result ≡ gap_bound base gap times → result ≡ cost_with points corners mass (point_at points i) times
    over times e = subst (λ (z : ℤ). result ≡ z) (cost times) e

-- any other leaves the leader
pub same-leader : (points : List PointData) (corners : ℕ → ℕ) (mass : List ℤ) (i : ℕ) (gap base least result : ℤ) (best : Option ℕ) →
    i < length points → ((times : ℤ) → gap_bound base gap times ≡ cost_with points corners mass (point_at points i) times) →
    LeadSoFar points corners mass i least best → IsLessened mass (point_at points i).belief gap base least result → least ≤ℤ result →
    LeadSoFar points corners mass (i + 1) least best
same-leader points corners mass i gap base least result best inside cost h g least_upto =
    let same : least ≡ result = equal least result least_upto g.low in
    record {
      so_far = subst (LeastSoFar points corners mass (i + 1)) (sym same) (next-least points corners mass i gap base least result inside cost h.so_far g);
      leader = h.leader;
    }
  where
    equal : (x y : ℤ) → x ≤ℤ y → y ≤ℤ x → x ≡ y
    equal x y l m = omega (arith, ints)

-- over all points it is the best one
pub all-led : (points : List PointData) (corners : ℕ → ℕ) (mass : List ℤ) (i : ℕ) (least : ℤ) (best : Option ℕ) → AreCorners points (length mass) corners → length points ≤ i →
    LeadSoFar points corners mass i least best → IsBest points mass best
all-led points corners mass i least None current l h = record {
  corners = corners;
  current = current;
  none = λ k bound b. subst (λ (z : ℤ). z ≤ℤ bound) h.leader (h.so_far.each k bound (omega (arith, b.inside)) b);
}
all-led points corners mass i least (Some k) current l h = record {
  corners = corners;
  current = current;
  bound = least;
  has = h.leader.has;
  below = h.leader.below;
  least = λ j other b. h.so_far.each j other (omega (arith, b.inside)) b;
  first = h.leader.first;
}
