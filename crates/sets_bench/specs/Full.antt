-- A full certificate: sets of the greatest size that fit a game, with a point at each corner.
use Rattle.std.specs.Prelude.{ℕ, List, length, ◌≡◌, ◌<◌}
use Rattle.std.specs.List.{AllByRecursion}
use Rattle.alpha_set.specs.Members.{most_nodes}
use Rattle.alpha_set.specs.Nodes.{NodeData, NodeFits}
use Rattle.game_model.specs.Game.{GameData}
use Rattle.point_set.specs.Corners.{HasCorner}
use Rattle.point_set.specs.Members.{most_points}
use Rattle.point_set.specs.Points.{PointData, PointFits}

pub record AreFull (g : GameData) (nodes : List NodeData) (points : List PointData) : Type 0 where
  pub nodes_count : length nodes ≡ most_nodes
  pub points_count : length points ≡ most_points
  pub nodes_fit : AllByRecursion (NodeFits g most_nodes) nodes
  pub points_fit : AllByRecursion (PointFits g most_points) points
  pub corners : (s : ℕ) → s < g.shape.states → HasCorner points s
