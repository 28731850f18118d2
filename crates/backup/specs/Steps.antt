-- The parts of a node that always plays one action.
use Rattle.std.specs.Prelude.{ℕ, ℤ, pos, List, length, map, ◌≡◌}
use Rattle.scaled_num.specs.Share.{at}
use Rattle.scaled_num.specs.Sums.{below}
use Rattle.game_model.specs.Branches.{Branch, mix_total}
use Rattle.game_model.specs.Game.{GameData, numbers, span}
use Rattle.game_model.specs.Seeds.{IsSeed}

-- after the action and each of so many observations, all weight on the node of the action
abbrev pub always_steps : ℕ → ℕ → List Branch
always_steps a n = map (λ o. record { own = a; seen = o; member = a; weight = pos mix_total }) (below n)

-- the seed vector of the action, as a list
pub record IsSeedVector (g : GameData) (a : ℕ) (vector : List ℤ) : Type 0 where
  pub long : length vector ≡ g.shape.states
  pub seed : IsSeed (numbers g) (span g) a (at vector)
