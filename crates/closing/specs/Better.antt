-- Sets that get better: no node loses, and no point costs more.
use Rattle.std.specs.Prelude.{ℕ, List, [], ◌∷◌, ◌++◌, length, ◌≡◌, ◌⊎◌, ◌≤ℤ◌, ◌<◌, ◌≤◌}
use Rattle.alpha_set.specs.Members.{most_nodes}
use Rattle.alpha_set.specs.Nodes.{NodeData, nodes_of}
use Rattle.backup.specs.Standing.{NodesFitAndStand, PointsFitAndStand}
use Rattle.belief.specs.Beliefs.{corner_of}
use Rattle.game_model.specs.Game.{GameData}
use Rattle.point_set.specs.Corners.{point_at}
use Rattle.point_set.specs.Members.{most_points}
use Rattle.point_set.specs.Points.{PointData}

-- the nodes of a certificate: some, few, and all fit and stand
pub record AreNodes (g : GameData) (nodes : List NodeData) : Type 0 where
  pub some : 1 ≤ length nodes
  pub few : length nodes ≤ most_nodes
  pub sound : NodesFitAndStand g nodes

-- the points of a certificate: few, all fit and stand, and the first ones are at the corners
pub record ArePoints (g : GameData) (points : List PointData) : Type 0 where
  pub some : g.shape.states ≤ length points
  pub few : length points ≤ most_points
  pub sound : PointsFitAndStand g points
  pub corners : (s : ℕ) → s < g.shape.states → (point_at points s).belief ≡ corner_of g.shape.states s

-- each node is nowhere lower than before
pub record AreRaised (g : GameData) (before after : List NodeData) : Type 0 where
  pub count : length before ≤ length after
  pub higher : (i s : ℕ) → i < length before → s < g.shape.states → ((nodes_of before i).vector s) ≤ℤ ((nodes_of after i).vector s)

-- each point has the belief that it had, and a value that is not higher
pub record AreLowered (before after : List PointData) : Type 0 where
  pub count : length before ≤ length after
  pub beliefs : (j : ℕ) → j < length before → (point_at after j).belief ≡ (point_at before j).belief
  pub values : (j : ℕ) → j < length before → (point_at after j).value ≤ℤ (point_at before j).value

-- nodes that go on from others: those of a certificate, and none is lower
pub record NodesGoOn (g : GameData) (before after : List NodeData) : Type 0 where
  pub are : AreNodes g after
  pub raised : AreRaised g before after

-- points that go on from others: those of a certificate, and none costs more
pub record PointsGoOn (g : GameData) (before after : List PointData) : Type 0 where
  pub are : ArePoints g after
  pub lowered : AreLowered before after

-- a member was added behind the others, or nothing changed
abbrev pub IsAddedOrNot : {X : Type 0} → List X → X → List X → Type 0
IsAddedOrNot before x after = (after ≡ before) ⊎ (after ≡ before ++ x ∷ [])
