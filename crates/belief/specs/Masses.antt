-- Masses in the making.
use Rattle.game_model.specs.Limits.{most_row_total}
use Rattle.std.specs.Prelude.{ℕ, ℤ, pos, Bool, List, length, cond, ◌*◌, ◌^◌, ◌<◌, ◌≤◌, ◌≤ℤ◌, ◌==◌, slice_index_or, sum_by, unsigned_abs}
use Rattle.std.specs.List.{AllByRecursion}
use Rattle.scaled_num.specs.Sums.{below}
use Rattle.game_model.specs.Game.{GameData, IsWithin, row_at, weight_in}
use Rattle.game_model.specs.declared.parts.Landing.{Landing}
use Rattle.belief.specs.Beliefs.{mix_weight}
use Rattle.belief.specs.Mixes.{MixesData}

-- each entry is 0 to a bound
abbrev pub AreBelow : ℤ → List ℤ → Type 0
AreBelow most out = (t : ℕ) → t < length out → IsWithin (pos 0) most (slice_index_or out t (pos 0))

-- a landing is seen so
abbrev pub IsSeen : ℕ → Landing → Bool
IsSeen o l = l.seen == o

-- what landings weigh at a next state
abbrev pub landed : List Landing → ℕ → ℕ
landed landings t = sum_by (λ (l : Landing). cond (l.to == t) (unsigned_abs l.weight) 0) landings

-- landings that lead to so many states, and weigh at most 2^30
pub record AreLandings (states : ℕ) (landings : List Landing) : Type 0 where
  pub inside : AllByRecursion (λ (l : Landing). l.to < states) landings
  pub positive : AllByRecursion (λ (l : Landing). pos 0 ≤ℤ l.weight) landings
  pub light : sum_by (λ (l : Landing). unsigned_abs l.weight) landings ≤ most_row_total

-- what a state of this weight brings to a next state
abbrev pub from_state : GameData → MixesData → ℕ → ℕ → ℕ → ℕ → ℕ → ℕ
from_state g mixes weight s a o t = sum_by (λ c. weight * mix_weight mixes s c * weight_in (row_at g s a c) o t) (below g.shape.informed_actions)
