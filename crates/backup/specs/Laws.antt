-- What is proved of seeds: they are a function of the game.
use Rattle.std.specs.Prelude.{ℕ, ℤ, List, ◌≡◌, ◌<◌}
use Rattle.game_model.specs.Game.{GameData, IsGame, numbers, span}
use Rattle.game_model.specs.Numbers.{Numbers}
use Rattle.alpha_set.specs.Nodes.{NodeData}
use Rattle.point_set.specs.Points.{Point, PointData}
use Rattle.backup.specs.Seeds.{AreCornerValues, AreSeedNodes, AreSeedPoints, IsEvaluation}

-- a game has one list of seed nodes
abbrev pub SeedNodesAreOne : Type 0
SeedNodesAreOne = (g : GameData) (nodes others : List NodeData) → AreSeedNodes g nodes → AreSeedNodes g others → nodes ≡ others

-- each state of a game has one corner value and one reply
abbrev pub CornerValuesAreOne : Type 0
CornerValuesAreOne =
    (g : GameData) (values others : ℕ → ℤ) (replies choices : ℕ → ℕ) → IsGame g →
    AreCornerValues (numbers g) (span g) values replies → AreCornerValues (numbers g) (span g) others choices →
    (s : ℕ) → s < g.shape.states → (values s ≡ others s) × (replies s ≡ choices s)

-- a point must be worth one number among others
abbrev pub EvaluationsAreOne : Type 0
EvaluationsAreOne =
    (g : Numbers) (points : ℕ → Point) (point : Point) (x y : ℤ) →
    IsEvaluation g points point x → IsEvaluation g points point y → x ≡ y

-- a game has one list of seed points, with its root point
abbrev pub SeedPointsAreOne : Type 0
SeedPointsAreOne = (g : GameData) (points others : List PointData) → IsGame g → AreSeedPoints g points → AreSeedPoints g others → points ≡ others
