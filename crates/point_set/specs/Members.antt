-- Points and shares of the program as the data that the rules speak of.
use Rattle.game_model.specs.Limits.{most_members}
use Rattle.std.specs.Prelude.{ℕ, ℤ, pos, Bool, List, length, map, filter, sum_by, unsigned_abs, ◌*◌, ◌*ℤ◌, ◌<◌, ◌==◌, ◌&&◌}
use Rattle.std.specs.List.{AllByRecursion}
use Rattle.scaled_num.specs.First.{FirstIn}
use Rattle.scaled_num.specs.Sums.{below, total}
use Rattle.game_model.specs.Branches.{Branch, branch_of}
use Rattle.game_model.specs.Game.{GameData, numbers, reward_at}
use Rattle.belief.specs.Beliefs.{mix_weight}
use Rattle.belief.specs.Mixes.{MixesData}
use Rattle.point_set.specs.Faults.{HoldsAt, SplitsHold}
use Rattle.point_set.specs.Points.{Point, PointData, PointFits, PointStands, ValueHolds, point_of, point_worth, points_of}
use Rattle.point_set.specs.declared.points.Point.{Point as PointParts}
use Rattle.point_set.specs.declared.stands.PointFault.{PointFault}
use Rattle.game_model.specs.declared.branches.Branch.{Branch as ShareParts}

-- a point as data
abbrev pub point_data : PointParts → PointData
point_data point = record {
  belief = point.belief;
  value = point.value;
  mixes = point.mixes;
  splits = map branch_of point.splits.items;
}

abbrev pub data_of : List PointParts → List PointData
data_of points = map point_data points

-- the most points of a set
abbrev pub most_points : ℕ
most_points = most_members

-- a point and all points that its shares may name fit the game
pub record IsMember (g : GameData) (points : List PointParts) (point : PointParts) : Type 0 where
  pub each : AllByRecursion (PointFits g most_points) (data_of points)
  pub fits : PointFits g most_points (point_data point)
  pub named : AllByRecursion (λ (share : Branch). share.member < length points) (map branch_of point.splits.items)

-- of a point among others: it stands; its splits hold; its value holds after an own action; what a stage costs it then
abbrev pub StandsAmong : GameData → List PointParts → PointParts → Type 0
StandsAmong g points point = PointStands (numbers g) (points_of (data_of points)) (point_of (point_data point))

abbrev pub SplitsHoldAmong : GameData → List PointParts → PointParts → Type 0
SplitsHoldAmong g points point = SplitsHold (numbers g) (points_of (data_of points)) (point_of (point_data point))

abbrev pub ValueHoldsAmong : GameData → List PointParts → PointParts → ℕ → Type 0
ValueHoldsAmong g points point a = ValueHolds (numbers g) (points_of (data_of points)) (point_of (point_data point)) a

abbrev pub worth_among : GameData → List PointParts → PointParts → ℕ → ℤ
worth_among g points point a = point_worth (numbers g) (points_of (data_of points)) (point_of (point_data point)) a

-- of a point among others, the rules hold at all of these places; they fail first at this one among them
abbrev pub AllHoldAmong : GameData → List PointParts → PointParts → List PointFault → Type 0
AllHoldAmong g points point places = AllByRecursion (HoldsAt (numbers g) (points_of (data_of points)) (point_of (point_data point))) places

abbrev pub FailsFirstAmong : GameData → List PointParts → PointParts → List PointFault → PointFault → Type 0
FailsFirstAmong g points point places place =
    FirstIn (HoldsAt (numbers g) (points_of (data_of points)) (point_of (point_data point))) places place

-- a share names one of the points
abbrev pub IsNamed : List PointParts → ShareParts → Type 0
IsNamed points share = share.k < length points

-- a share stands after this own action and this observation
abbrev pub IsAfter : ℕ → ℕ → ShareParts → Bool
IsAfter a o share = (share.a == a) && (share.o == o)

-- the weight of a state that a share brings
abbrev pub brought : (ℕ → Point) → ℕ → ShareParts → ℕ
brought points s share = unsigned_abs share.weight * (points share.k).belief s

-- what a share counts for in a stage's worth
abbrev pub counted : (ℕ → Point) → ShareParts → ℤ
counted points share = share.weight *ℤ (points share.k).value

-- the magnitude of that, summed over shares
abbrev pub counted_size : (ℕ → Point) → List ShareParts → ℕ
counted_size points shares = sum_by (λ share. unsigned_abs (counted points share)) shares

-- the shares' part of a stage's worth after an own action
abbrev pub counted_after : (ℕ → Point) → List ShareParts → ℕ → ℕ → ℤ
counted_after points splits observations a = total (λ o. total (counted points) (filter (IsAfter a o) splits)) (below observations)

-- what mixes make of the rewards of an own action in a state
abbrev pub row_rewards : GameData → MixesData → ℕ → ℕ → ℤ
row_rewards g mixes a s = total (λ c. pos (mix_weight mixes s c) *ℤ reward_at g s a c) (below g.shape.informed_actions)
