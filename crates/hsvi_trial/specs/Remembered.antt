-- What a search remembers of the last visit of each depth: what it made, and on how many members.
use Rattle.std.specs.Prelude.{ℕ, ℤ, List, Option, None, Some, IfSome, length, ◌++◌, ◌≡◌, ◌≤◌}
use Rattle.std.specs.List.{All}
use Rattle.alpha_set.specs.Members.{node_data}
use Rattle.alpha_set.specs.Nodes.{NodeData, NodeFits, NodeStands, node_of, nodes_of}
use Rattle.game_model.specs.Game.{GameData, numbers}
use Rattle.point_set.specs.Members.{point_data}
use Rattle.point_set.specs.Points.{PointData, PointFits, PointStands, point_of, points_of}
use Rattle.backup.specs.LowerVisits.{IsLowerVisit}
use Rattle.backup.specs.UpperVisits.{IsUpperVisit}
use Rattle.stage_game.specs.AdviceData.{LowerAdviceData, UpperAdviceData}
use Rattle.stage_game.specs.Data.{lower_data, upper_data}
use Rattle.stage_game.specs.Fits.{LowerFits, UpperFits}
use Rattle.hsvi_trial.specs.declared.memory.LowerSide.{LowerSide}
use Rattle.hsvi_trial.specs.declared.memory.UpperSide.{UpperSide}
use Rattle.hsvi_trial.specs.declared.memory.Memory.{Memory}

-- the lower side of a visit: advice and node are those of the belief on the nodes, fit, and stand whatever comes behind
pub record IsLowerMade (g : GameData) (nodes : List NodeData) (belief : List ℤ) (advice : LowerAdviceData) (node : NodeData) : Type 0 where
  pub visit : IsLowerVisit g belief nodes advice node
  pub advice_fits : LowerFits g (length nodes) advice
  pub fits : NodeFits g (length nodes) node
  pub stays : (more : List NodeData) → NodeStands (numbers g) (nodes_of (nodes ++ more)) (node_of node)

-- the upper side of a visit, likewise
pub record IsUpperMade (g : GameData) (points : List PointData) (belief : List ℤ) (advice : UpperAdviceData) (point : PointData) : Type 0 where
  pub visit : IsUpperVisit g belief points advice point
  pub advice_fits : UpperFits g points advice
  pub fits : PointFits g (length points) point
  pub stays : (more : List PointData) → PointStands (numbers g) (points_of (points ++ more)) (point_of point)

-- a remembered side was made on no more members than there are, and where it was on as many, it is still right
pub record IsLowerSide (g : GameData) (nodes : List NodeData) (side : LowerSide) : Type 0 where
  pub few : side.count ≤ length nodes
  pub right : side.count ≡ length nodes → IsLowerMade g nodes side.belief (lower_data side.advice) (node_data side.node)

pub record IsUpperSide (g : GameData) (points : List PointData) (side : UpperSide) : Type 0 where
  pub few : side.count ≤ length points
  pub right : side.count ≡ length points → IsUpperMade g points side.belief (upper_data side.advice) (point_data side.point)

abbrev pub AreLowerSides : GameData → List NodeData → List (Option LowerSide) → Type 0
AreLowerSides g nodes sides = All (λ side. IfSome side (IsLowerSide g nodes)) sides

abbrev pub AreUpperSides : GameData → List PointData → List (Option UpperSide) → Type 0
AreUpperSides g points sides = All (λ side. IfSome side (IsUpperSide g points)) sides

-- all that a search remembers
pub record IsMemory (g : GameData) (nodes : List NodeData) (points : List PointData) (memory : Memory) : Type 0 where
  pub lower : AreLowerSides g nodes memory.lower.items
  pub upper : AreUpperSides g points memory.upper.items

-- what is left of a new member that was kept under a number, or was not
abbrev pub left_of : {M : Type 0} → Option ℕ → M → Option M
left_of None member = Some member
left_of (Some number) member = None
