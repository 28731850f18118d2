-- An informed player that watches the controller too: it knows the start node, and player one's coin, which is the next node, in
-- every stage that was.
use Rattle.std.specs.Prelude.{ℕ, ◌≡◌, ◌<◌, ◌≤◌, ◌*◌, ◌^◌, ℤ, pos, ◌-ℤ◌, ◌*ℤ◌, ◌≤ℤ◌, List, length, sum_by}
use Rattle.std.specs.List.{AllByRecursion}
use Rattle.scaled_num.specs.Sums.{below, total}
use Rattle.alpha_set.specs.Nodes.{nodes_of}
use Rattle.controller.specs.Certificates.{CertificateData}
use Rattle.game_model.specs.Game.{GameData, first_at, numbers, span}
use Rattle.game_model.specs.Numbers.{Numbers}
use Rattle.history_model.specs.Courses.{InformedWeights, Stage, chance, courses, earned}
use Rattle.history_model.specs.Machines.{node_weights}
use Rattle.promises.specs.Promises.{drawn, first_whole, start_whole, units}

pub record IsStage (g : Numbers) (own_coins informed_coins : ℕ) (x : Stage) : Type 0 where
  pub own : x.own < g.own_actions
  pub informed : x.informed < g.informed_actions
  pub seen : x.seen < g.observations
  pub to : x.to < g.states
  pub own_coin : x.own_coin < own_coins
  pub informed_coin : x.informed_coin < informed_coins

-- the weight of an action and a coin, from the first state, the start node and all that was, the nodes too
abbrev pub WatchingStrategy : Type 0
WatchingStrategy = ℕ → ℕ → List Stage → ℕ → ℕ → ℕ

pub record IsWatchingStrategy (g : Numbers) (nodes coins whole n : ℕ) (strategy : WatchingStrategy) : Type 0 where
  pub some : 1 ≤ whole
  pub sums : (first start : ℕ) (history : List Stage) → first < g.states → start < nodes → length history < n → AllByRecursion (IsStage g nodes coins) history →
      sum_by (λ c. sum_by (λ v. strategy first start history c v) (below coins)) (below g.informed_actions) ≡ whole

abbrev pub watching_weights : WatchingStrategy → ℕ → ℕ → InformedWeights
watching_weights strategy first start before c a o t v = strategy first start before c v

-- what the controller earns from the first state s over n stages, times `start_whole`, where the informed player sees every node
abbrev pub watched_earned : GameData → CertificateData → ℕ → ℕ → ℕ → WatchingStrategy → ℤ
watched_earned g k coins n s strategy =
    drawn k.start_nodes (λ i.
    earned (numbers g) (length k.nodes) coins n s (node_weights (nodes_of k.nodes) i) (watching_weights strategy s i))

-- the controller still earns at least the lower bound less the tail
abbrev pub EarnsWatched : GameData → CertificateData → Type 0
EarnsWatched g k =
    (n coins whole : ℕ) (strategy : WatchingStrategy) → IsWatchingStrategy (numbers g) (length k.nodes) coins whole n strategy →
    let tail = start_whole k.start_nodes *ℤ pos ((numbers g).discount_over ^ n * span g * first_whole g) in
    ((k.lower.num *ℤ pos ((numbers g).discount_under ^ n) -ℤ tail) *ℤ pos (((numbers g).row_total * units * whole) ^ n))
    ≤ℤ (pos units *ℤ total (λ s. pos (first_at g s) *ℤ watched_earned g k coins n s strategy) (below g.shape.states))

-- in each first state, and from each node as the start, still at least the node's entry less the tail
abbrev pub EarnsWatchedAt : GameData → CertificateData → Type 0
EarnsWatchedAt g k =
    (n coins whole s i : ℕ) (strategy : WatchingStrategy) → s < g.shape.states → i < length k.nodes → IsWatchingStrategy (numbers g) (length k.nodes) coins whole n strategy →
    (((nodes_of k.nodes i).vector s *ℤ pos ((numbers g).discount_under ^ n) -ℤ pos ((numbers g).discount_over ^ n * span g))
    *ℤ pos (((numbers g).row_total * units * whole) ^ n))
    ≤ℤ (pos units *ℤ earned (numbers g) (length k.nodes) coins n s (node_weights (nodes_of k.nodes) i) (watching_weights strategy s i))

-- What it earns is a mean here too: from each node the weights of all courses sum to the number that the bound is multiplied by.
abbrev pub WatchedInTheMean : GameData → CertificateData → Type 0
WatchedInTheMean g k =
    (n coins whole s i : ℕ) (strategy : WatchingStrategy) → s < g.shape.states → i < length k.nodes → IsWatchingStrategy (numbers g) (length k.nodes) coins whole n strategy →
    sum_by (chance (numbers g) n s (node_weights (nodes_of k.nodes) i) (watching_weights strategy s i)) (courses (numbers g) (length k.nodes) coins n)
    ≡ ((numbers g).row_total * units * whole) ^ n
