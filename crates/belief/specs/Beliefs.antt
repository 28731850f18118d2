-- What beliefs and mixes keep, and the functions that clauses read from them.
use Rattle.game_model.specs.Limits.{most_states, most_actions}
use Rattle.std.specs.Prelude.{ℕ, ℤ, pos, List, length, replicate, ◌≤◌, slice_index_or, slice_set, unsigned_abs}
use Rattle.game_model.specs.Game.{AreCoprime, GameData, IsBelief}
use Rattle.belief.specs.Mixes.{AreMixes, MixesData, mix_at}

-- the parts of a belief: one for each of not too many states, coprime, with a total of at least 1
pub record AreParts (parts : List ℤ) : Type 0 where
  pub few : length parts ≤ most_states
  pub belief : IsBelief (length parts) parts
  pub coprime : AreCoprime parts

-- all weight on one state
abbrev pub corner_of : ℕ → ℕ → List ℤ
corner_of states s = slice_set (replicate states (pos 0)) s (pos 1)

-- the weight of a state, which is not negative
abbrev pub weight_at : List ℤ → ℕ → ℕ
weight_at parts s = unsigned_abs (slice_index_or parts s (pos 0))

-- the weight of an informed action in a state, which is not negative
abbrev pub mix_weight : MixesData → ℕ → ℕ → ℕ
mix_weight mixes s c = unsigned_abs (mix_at mixes s c)

-- weights as mixes for the states and the informed actions of a game
abbrev pub mixes_for : GameData → List ℤ → MixesData
mixes_for g weights = record { states = g.shape.states; actions = g.shape.informed_actions; weights = weights }

-- mixes for the states and informed actions of a game
pub record AreKept (mixes : MixesData) : Type 0 where
  pub states : mixes.states ≤ most_states
  pub actions : mixes.actions ≤ most_actions
  pub right : AreMixes mixes
