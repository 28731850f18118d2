-- A set of members that is closed under steps or shares, cut out and put under new numbers.
use Rattle.std.specs.Prelude.{ℕ, Bool, IsTrue, List, length, ◌<◌}
use Rattle.std.specs.List.{AllByRecursion}
use Rattle.alpha_set.specs.Changes.{NodesStand}
use Rattle.alpha_set.specs.Nodes.{NodeData, NodeFits}
use Rattle.controller.specs.Export.{nodes_kept, points_kept, shares_of, steps_of}
use Rattle.game_model.specs.Branches.{Branch}
use Rattle.game_model.specs.Game.{GameData}
use Rattle.game_model.specs.Numbers.{Numbers}
use Rattle.point_set.specs.Changes.{PointsStand}
use Rattle.point_set.specs.Points.{PointData, PointFits}

-- each branch of a kept member names a kept one of so many members
abbrev pub IsClosed : (ℕ → List Branch) → ℕ → (ℕ → Bool) → Type 0
IsClosed branches count kept = (i : ℕ) → IsTrue (kept i) → AllByRecursion (λ (b : Branch). (b.member < count) × IsTrue (kept b.member)) (branches i)

-- where all nodes stand, those of a set that is closed under steps stand under their new numbers; where all fit, these
-- fit
abbrev pub CutNodesStand : Type 0
CutNodesStand =
    (g : Numbers) (nodes : List NodeData) (kept : ℕ → Bool) → IsClosed (steps_of nodes) (length nodes) kept →
    NodesStand g nodes → NodesStand g (nodes_kept kept nodes)

abbrev pub CutNodesFit : Type 0
CutNodesFit =
    (g : GameData) (nodes : List NodeData) (kept : ℕ → Bool) → IsClosed (steps_of nodes) (length nodes) kept →
    AllByRecursion (NodeFits g (length nodes)) nodes → AllByRecursion (NodeFits g (length (nodes_kept kept nodes))) (nodes_kept kept nodes)

-- so of points and shares
abbrev pub CutPointsStand : Type 0
CutPointsStand =
    (g : Numbers) (points : List PointData) (kept : ℕ → Bool) → IsClosed (shares_of points) (length points) kept →
    PointsStand g points → PointsStand g (points_kept kept points)

abbrev pub CutPointsFit : Type 0
CutPointsFit =
    (g : GameData) (points : List PointData) (kept : ℕ → Bool) → IsClosed (shares_of points) (length points) kept →
    AllByRecursion (PointFits g (length points)) points → AllByRecursion (PointFits g (length (points_kept kept points))) (points_kept kept points)
