-- Strategies of both players that depend on the history.
use Rattle.std.specs.Prelude.{ℕ, ◌≡◌, ◌<◌, ◌≤◌, List, length, map, sum_by}
use Rattle.std.specs.List.{AllByRecursion}
use Rattle.scaled_num.specs.Sums.{below}
use Rattle.game_model.specs.Numbers.{Numbers}
use Rattle.history_model.specs.Courses.{InformedWeights, OwnWeights, Stage}

-- what the informed player knows of a stage: all but player one's coin
pub record Known : Type 0 where
  pub own : ℕ
  pub informed : ℕ
  pub seen : ℕ
  pub to : ℕ
  pub coin : ℕ

abbrev pub known : Stage → Known
known x = record { own = x.own; informed = x.informed; seen = x.seen; to = x.to; coin = x.informed_coin }

pub record IsKnown (g : Numbers) (coins : ℕ) (x : Known) : Type 0 where
  pub own : x.own < g.own_actions
  pub informed : x.informed < g.informed_actions
  pub seen : x.seen < g.observations
  pub to : x.to < g.states
  pub coin : x.coin < coins

-- A strategy of the informed player: the weight of an action and a coin, from the first state and the history.
abbrev pub InformedStrategy : Type 0
InformedStrategy = ℕ → List Known → ℕ → ℕ → ℕ

-- Over n stages: after each shorter history that can be, the weights sum to the same whole number. So a strategy for ever may have
-- another common denominator for each n.
pub record IsInformedStrategy (g : Numbers) (coins whole n : ℕ) (strategy : InformedStrategy) : Type 0 where
  pub some : 1 ≤ whole
  pub sums : (first : ℕ) (history : List Known) → first < g.states → length history < n → AllByRecursion (IsKnown g coins) history →
      sum_by (λ c. sum_by (λ v. strategy first history c v) (below coins)) (below g.informed_actions) ≡ whole

abbrev pub informed_weights : InformedStrategy → ℕ → InformedWeights
informed_weights strategy first before c a o t v = strategy first (map known before) c v

-- what player one feels of a stage: its own action, the observation and its own coin
pub record Felt : Type 0 where
  pub own : ℕ
  pub seen : ℕ
  pub coin : ℕ

abbrev pub felt : Stage → Felt
felt x = record { own = x.own; seen = x.seen; coin = x.own_coin }

pub record IsFelt (g : Numbers) (coins : ℕ) (x : Felt) : Type 0 where
  pub own : x.own < g.own_actions
  pub seen : x.seen < g.observations
  pub coin : x.coin < coins

-- A strategy of player one: the weight of an action and a coin, from what it felt.
abbrev pub OwnStrategy : Type 0
OwnStrategy = List Felt → ℕ → ℕ → ℕ

pub record IsOwnStrategy (g : Numbers) (coins whole n : ℕ) (strategy : OwnStrategy) : Type 0 where
  pub some : 1 ≤ whole
  pub sums : (history : List Felt) → length history < n → AllByRecursion (IsFelt g coins) history →
      sum_by (λ a. sum_by (λ u. strategy history a u) (below coins)) (below g.own_actions) ≡ whole

abbrev pub own_weights : OwnStrategy → OwnWeights
own_weights strategy before a o u = strategy (map felt before) a u
