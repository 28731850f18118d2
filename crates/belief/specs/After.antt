-- The mass after an own action and an observation, as a list.
use Rattle.std.specs.Prelude.{ℕ, ℤ, pos, List, map}
use Rattle.scaled_num.specs.Sums.{below}
use Rattle.game_model.specs.Game.{GameData, numbers}
use Rattle.belief.specs.Beliefs.{mix_weight, weight_at}
use Rattle.belief.specs.Mixes.{MixesData, mass_of}

-- the mass that a belief and mixes bring on after an own action and an observation, by next state
abbrev pub mass_after : GameData → List ℤ → MixesData → ℕ → ℕ → List ℤ
mass_after g belief mixes a o =
    map (λ t. pos (mass_of (numbers g) (weight_at belief) (mix_weight mixes) a o t)) (below g.shape.states)
