-- What a choice of different numbers goes on with.
use Rattle.std.specs.Prelude.{ℕ, ℤ, List, Option, ◌++◌, filter_map, map, take, ◌≡◌}
use Rattle.scaled_num.specs.Sums.{below}
use Rattle.alpha_set.specs.Nodes.{NodeData}
use Rattle.game_model.specs.Game.{GameData}
use Rattle.point_set.specs.Points.{PointData}
use Rattle.point_set.specs.Sawtooth.{AreCorners}
use Rattle.stage_game.specs.Chosen.{different}
use Rattle.stage_game.specs.LowerCandidates.{AreWorthy, most_lower}
use Rattle.stage_game.specs.UpperCandidates.{AreBest, most_others}

-- a choice of the first different numbers of a list, so many at most, becomes that of the list with these behind it
abbrev pub GoesOn : ℕ → List ℕ → List ℕ → List ℕ → Type 0
GoesOn most preferred old new = (seen : List ℕ) → old ≡ take most (different seen) → new ≡ take most (different (seen ++ preferred))

-- it goes on with the nodes of worth at masses
pub record GoesOnWorthy (nodes : List NodeData) (at_masses : List (List ℤ)) (old new : List ℕ) : Type 0 where
  pub priced : List ℕ
  pub worthy : AreWorthy nodes at_masses priced
  pub goes_on : GoesOn most_lower priced old new

-- it goes on with the best points at masses
pub record GoesOnBest (points : List PointData) (at_masses : List (List ℤ)) (old new : List ℕ) : Type 0 where
  pub answers : List (Option ℕ)
  pub best : AreBest points at_masses answers
  pub goes_on : GoesOn most_others (filter_map (λ answer. answer) answers) old new

-- the current corners of all states in order
pub record AreCornersOf (g : GameData) (points : List PointData) (numbers : List ℕ) : Type 0 where
  pub corners : ℕ → ℕ
  pub current : AreCorners points g.shape.states corners
  pub same : numbers ≡ map corners (below g.shape.states)
