-- Mixes of the informed player, one for each state, and the mass that a belief brings to the next states.
use Rattle.std.specs.Prelude.{ℕ, ℤ, pos, List, flat_map, length, replicate, slice_set, ◌≡◌, ◌<◌, ◌*◌, ◌+◌, slice_index_or, sum_by}
use Rattle.std.specs.List.{AllByRecursion}
use Rattle.scaled_num.specs.Sums.{below, total}
use Rattle.game_model.specs.Branches.{mix_total}
use Rattle.game_model.specs.Game.{GameData, IsWithin}
use Rattle.game_model.specs.Numbers.{Numbers}

-- the weights of all states in order, each state's by informed action
pub record MixesData : Type 0 where
  pub states : ℕ
  pub actions : ℕ
  pub weights : List ℤ

abbrev pub mix_at : MixesData → ℕ → ℕ → ℤ
mix_at mixes s c = slice_index_or mixes.weights (s * mixes.actions + c) (pos 0)

-- each weight is 0 to the mix total, and those of each state sum to it
pub record AreMixes (mixes : MixesData) : Type 0 where
  pub long : length mixes.weights ≡ mixes.states * mixes.actions
  pub each : AllByRecursion (IsWithin (pos 0) (pos mix_total)) mixes.weights
  pub sums : (s : ℕ) → s < mixes.states → total (λ c. mix_at mixes s c) (below mixes.actions) ≡ pos mix_total

-- the mass that a belief and mixes bring to the next state t, after the own action a and the observation o
abbrev pub mass_of : Numbers → (ℕ → ℕ) → (ℕ → ℕ → ℕ) → ℕ → ℕ → ℕ → ℕ
mass_of g belief mixes a o t =
    sum_by (λ s. sum_by (λ c. belief s * mixes s c * g.weight s a c o t) (below g.informed_actions)) (below g.states)

-- the informed player surely plays one action in each state: all weight on it
abbrev pub pure_mixes : GameData → List ℕ → MixesData
pure_mixes g choice = record {
  states = g.shape.states;
  actions = g.shape.informed_actions;
  weights = flat_map (λ chosen. slice_set (replicate g.shape.informed_actions (pos 0)) chosen (pos mix_total)) choice;
}
