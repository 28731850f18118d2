-- Points of a set that are changed: one is replaced, and the value of one is lowered to what one stage of it costs.
use Rattle.std.specs.Prelude.{ℕ, ℤ, pos, List, cond, length, sum_by, ◌≡◌, ◌<◌, ◌==◌, ◌+◌, ◌*◌, ◌+ℤ◌, ◌*ℤ◌, ◌≤ℤ◌, ◌<ℤ◌, slice_set, unsigned_abs}
use Rattle.std.specs.Int.{int_min}
use Rattle.std.specs.List.{AllByRecursion}
use Rattle.game_model.specs.Branches.{Continuation, mix_total}
use Rattle.game_model.specs.Game.{GameData, numbers}
use Rattle.game_model.specs.Numbers.{Numbers}
use Rattle.point_set.specs.Corners.{point_at}
use Rattle.point_set.specs.Kept.{IsKept}
use Rattle.point_set.specs.Points.{PointData, PointFits, PointStands, point_of, point_worth, points_of, shares_at}

-- each point of a list stands among all of them
abbrev pub PointsStand : Numbers → List PointData → Type 0
PointsStand g points = (j : ℕ) → j < length points → PointStands g (points_of points) (points_of points j)

-- a point is of the same belief as another, and its value is not higher
pub record IsLower (old new : PointData) : Type 0 where
  pub belief : new.belief ≡ old.belief
  pub value : new.value ≤ℤ old.value

-- the least whole number whose product with b is at least a
pub record IsCeiling (quotient a b : ℤ) : Type 0 where
  pub high : a ≤ℤ (quotient *ℤ b)
  pub low : (quotient *ℤ b) <ℤ (a +ℤ b)

-- the greatest of the first n values of f
pub record IsGreatestOf (f : ℕ → ℤ) (n : ℕ) (x : ℤ) : Type 0 where
  pub each : (k : ℕ) → k < n → f k ≤ℤ x
  pub some : (k : ℕ) × (k < n) × (x ≡ f k)

-- by what the worth of one stage is divided: the mix total times the row total times the discount's denominator
abbrev pub divisor_of : GameData → ℤ
divisor_of g = pos (mix_total * unsigned_abs g.shape.row_total * unsigned_abs g.shape.discount.1)

-- the value of a point among others, lowered to what one stage costs: the lesser of what it was, and of the greatest
-- worth of a stage over the own actions, divided and rounded up
pub record IsLoweredValue (g : GameData) (points : List PointData) (point : PointData) (value : ℤ) : Type 0 where
  pub worth : ℤ
  pub greatest : IsGreatestOf (point_worth (numbers g) (points_of points) (point_of point)) g.shape.own_actions worth
  pub quotient : ℤ
  pub ceiling : IsCeiling quotient worth (divisor_of g)
  pub lesser : value ≡ int_min point.value quotient

-- a point with another value
abbrev pub with_value : PointData → ℤ → PointData
with_value point value = record { belief = point.belief; value = value; mixes = point.mixes; splits = point.splits }

-- the point of a number has a value that is lowered so; all else is as it was
pub record IsSettled (g : GameData) (points : List PointData) (number : ℕ) (new : List PointData) : Type 0 where
  pub value : ℤ
  pub lowered : IsLoweredValue g points (point_at points number) value
  pub members : new ≡ slice_set points number (with_value (point_at points number) value)

-- what was kept is right for the points as they were before the value of one was written
pub record WasKept (points : List PointData) (number : ℕ) (corners : List ℕ) (gaps : List ℤ) : Type 0 where
  pub value : ℤ
  pub kept : IsKept (slice_set points number (with_value (point_at points number) value)) corners gaps

-- ---- shares that go to another point
-- the weight that branches give to a member
abbrev pub weight_in : List Continuation → ℕ → ℕ
weight_in branches m = sum_by (λ (b : Continuation). cond (m == b.member) b.weight 0) branches

-- weights by member, where what went to one goes to another, beside what went there already
abbrev pub moved : (ℕ → ℕ) → ℕ → ℕ → ℕ → ℕ
moved weights from to m = cond (m == from) 0 (cond (m == to) (weights to + weights from) (weights m))

-- the branches of a list name members below a count
abbrev pub NameBelow : ℕ → List Continuation → Type 0
NameBelow count branches = AllByRecursion (λ (b : Continuation). b.member < count) branches

-- a point is another one but for its shares in one of so many points, which go to another of them; equal shares are
-- added
pub record IsRenamed (g : Numbers) (count from to : ℕ) (old new : PointData) : Type 0 where
  pub belief : new.belief ≡ old.belief
  pub value : new.value ≡ old.value
  pub mixes : new.mixes ≡ old.mixes
  pub old_named : NameBelow count (point_of old).splits
  pub new_named : NameBelow count (point_of new).splits
  pub goes : (a o m : ℕ) → a < g.own_actions → o < g.observations → m < count →
      weight_in (shares_at (point_of new) a o) m ≡ moved (weight_in (shares_at (point_of old) a o)) from to m

-- ---- what is proved of them
-- where a point is replaced by one of the same belief and of no higher value that stands among the points as they were,
-- all points stand
abbrev pub LoweredStand : Type 0
LoweredStand =
    (g : Numbers) (points : List PointData) (number : ℕ) (point : PointData) → PointsStand g points → number < length points →
    IsLower (point_at points number) point → PointStands g (points_of points) (point_of point) → PointsStand g (slice_set points number point)

-- where one is replaced by a point that fits, all points fit
abbrev pub ReplacedFit : Type 0
ReplacedFit =
    (g : GameData) (points : List PointData) (number : ℕ) (point : PointData) → AllByRecursion (PointFits g (length points)) points → PointFits g (length points) point →
    AllByRecursion (PointFits g (length (slice_set points number point))) (slice_set points number point)

-- where the point `to` is of the belief of the point `from` and has no higher value, and a point's shares in this go to
-- that, all points stand
abbrev pub RenamedStand : Type 0
RenamedStand =
    (g : Numbers) (points : List PointData) (number from to : ℕ) (point : PointData) → PointsStand g points → number < length points →
    from < length points → to < length points → (from ≡ to → ⊥) → IsLower (point_at points from) (point_at points to) →
    IsRenamed g (length points) from to (point_at points number) point → PointsStand g (slice_set points number point)
