-- What the sums over starts ask of nodes, points and starts.
use Rattle.std.specs.Prelude.{ℕ, ℤ, List, length, unsigned_abs, ◌*ℤ◌, ◌≤◌, ◌^◌}
use Rattle.std.specs.List.{AllByRecursion}
use Rattle.alpha_set.specs.Nodes.{NodeData, NodeFits}
use Rattle.controller.specs.Starts.{IsStart}
use Rattle.game_model.specs.Game.{GameData}
use Rattle.game_model.specs.Limits.{most_members}
use Rattle.point_set.specs.Points.{PointData, PointFits, points_of}

-- few nodes, each of which fits a game and names nodes of the list
pub record AreNodes (g : GameData) (nodes : List NodeData) : Type 0 where
  pub few : length nodes ≤ most_members
  pub each : AllByRecursion (NodeFits g (length nodes)) nodes

-- few points, each of which fits a game and names points of the list
pub record ArePoints (g : GameData) (points : List PointData) : Type 0 where
  pub few : length points ≤ most_members
  pub each : AllByRecursion (PointFits g (length points)) points

-- few starts among so many members, with weights of 1 to the most
pub record AreFewStarts (count : ℕ) (most : ℤ) (starts : List (ℕ × ℤ)) : Type 0 where
  pub few : length starts ≤ most_members
  pub each : AllByRecursion (IsStart count most) starts

-- a start point's weight times its value is small
abbrev pub IsSmallValue : List PointData → ℕ × ℤ → Type 0
IsSmallValue points start = unsigned_abs (start.1 *ℤ (points_of points start.0).value) ≤ 2 ^ 110
