-- What is proved of lower visits: they are a function of the game, the belief and the nodes.
use Rattle.std.specs.Prelude.{ℤ, List, ◌≡◌}
use Rattle.alpha_set.specs.Nodes.{NodeData}
use Rattle.game_model.specs.Game.{GameData}
use Rattle.stage_game.specs.AdviceData.{LowerAdviceData}
use Rattle.backup.specs.LowerVisits.{IsLowerVisit}

-- the lower visit of a belief among nodes has one advice and one node
abbrev pub LowerVisitsAreOne : Type 0
LowerVisitsAreOne =
    (g : GameData) (belief : List ℤ) (nodes : List NodeData) (advice other : LowerAdviceData) (node second : NodeData) →
    IsLowerVisit g belief nodes advice node → IsLowerVisit g belief nodes other second → (advice ≡ other) × (node ≡ second)
