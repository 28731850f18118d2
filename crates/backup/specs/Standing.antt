-- Sets of which every member stands.
use Rattle.std.specs.List.{AllByRecursion}
use Rattle.std.specs.Prelude.{ℕ, List, length, ◌<◌}
use Rattle.game_model.specs.Game.{GameData, numbers}
use Rattle.alpha_set.specs.Nodes.{NodeData, NodeFits, NodeStands, nodes_of}
use Rattle.point_set.specs.Points.{PointData, PointFits, PointStands, points_of}

abbrev pub NodesStand : GameData → List NodeData → Type 0
NodesStand g nodes = (i : ℕ) → i < length nodes → NodeStands (numbers g) (nodes_of nodes) (nodes_of nodes i)

abbrev pub PointsStand : GameData → List PointData → Type 0
PointsStand g points = (j : ℕ) → j < length points → PointStands (numbers g) (points_of points) (points_of points j)

-- every node of a set fits and stands
pub record NodesFitAndStand (g : GameData) (nodes : List NodeData) : Type 0 where
  pub fit : AllByRecursion (NodeFits g (length nodes)) nodes
  pub stand : NodesStand g nodes

-- every point of a set fits and stands
pub record PointsFitAndStand (g : GameData) (points : List PointData) : Type 0 where
  pub fit : AllByRecursion (PointFits g (length points)) points
  pub stand : PointsStand g points
