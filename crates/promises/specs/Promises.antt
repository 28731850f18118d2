-- What a user of a certificate that stands is told.
use Rattle.std.specs.Prelude.{ℕ, ◌≡◌, ◌≢◌, ◌/◌, ◌<◌, ◌*◌, ◌^◌, ℤ, pos, ◌+ℤ◌, ◌-ℤ◌, ◌*ℤ◌, ◌≤ℤ◌, List, length, sum_by}
use Rattle.std.specs.List.{AllByRecursion}
use Rattle.scaled_num.specs.Sums.{below, total}
use Rattle.alpha_set.specs.Nodes.{nodes_of}
use Rattle.controller.specs.Certificates.{CertificateData}
use Rattle.game_model.specs.Game.{GameData, first_at, numbers, span}
use Rattle.game_model.specs.Numbers.{Numbers}
use Rattle.point_set.specs.Points.{points_of}
use Rattle.history_model.specs.Courses.{chance, courses, earned}
use Rattle.history_model.specs.Machines.{brought, multiple, node_weights, one_action, point_weights}
use Rattle.history_model.specs.Strategies.{InformedStrategy, IsInformedStrategy, IsOwnStrategy, OwnStrategy, informed_weights, own_weights}

-- both constants: units of reward, and the total of a mix
abbrev pub units : ℕ
units = 65536

-- the total of the first belief
abbrev pub first_whole : GameData → ℕ
first_whole g = sum_by (first_at g) (below g.shape.states)

-- Starts are numbers of nodes or points, each with its weight. The sum of their weights:
abbrev pub start_whole : List (ℕ × ℤ) → ℤ
start_whole starts = total (λ start. start.1) starts

-- and the sum over them of weight times f of the node or point: what a draw among them is worth, times `start_whole`
abbrev pub drawn : List (ℕ × ℤ) → (ℕ → ℤ) → ℤ
drawn starts f = total (λ start. start.1 *ℤ f start.0) starts

-- each start is one of so many members, and its weight is at least 1
abbrev pub AreDrawn : ℕ → List (ℕ × ℤ) → Type 0
AreDrawn count starts = AllByRecursion (λ start. (start.0 < count) × (pos 1 ≤ℤ start.1)) starts

-- what the controller earns from the first state s over n stages, times `start_whole`: its start node is drawn, and the informed
-- player doesn't see it
abbrev pub controller_earned : GameData → CertificateData → ℕ → ℕ → ℕ → InformedStrategy → ℤ
controller_earned g k coins n s strategy =
    drawn k.start_nodes (λ i.
    earned (numbers g) (length k.nodes) coins n s (node_weights (nodes_of k.nodes) i) (informed_weights strategy s))

-- The controller earns at least the lower bound less the tail, over every number n of stages, whatever the informed player does
-- by whatever coins: its chances are weights over `whole`.
abbrev pub Earns : GameData → CertificateData → Type 0
Earns g k =
    (n coins whole : ℕ) (strategy : InformedStrategy) → IsInformedStrategy (numbers g) coins whole n strategy →
    let tail = start_whole k.start_nodes *ℤ pos ((numbers g).discount_over ^ n * span g * first_whole g) in
    ((k.lower.num *ℤ pos ((numbers g).discount_under ^ n) -ℤ tail) *ℤ pos (((numbers g).row_total * units * whole) ^ n))
    ≤ℤ (pos units *ℤ total (λ s. pos (first_at g s) *ℤ controller_earned g k coins n s strategy) (below g.shape.states))

-- in each first state at least the start nodes' entries, by their weights, less the tail
abbrev pub EarnsAt : GameData → CertificateData → Type 0
EarnsAt g k =
    (n coins whole s : ℕ) (strategy : InformedStrategy) → s < g.shape.states → IsInformedStrategy (numbers g) coins whole n strategy →
    let entry = drawn k.start_nodes (λ i. (nodes_of k.nodes i).vector s) in
    let tail = start_whole k.start_nodes *ℤ pos ((numbers g).discount_over ^ n * span g) in
    ((entry *ℤ pos ((numbers g).discount_under ^ n) -ℤ tail) *ℤ pos (((numbers g).row_total * units * whole) ^ n))
    ≤ℤ (pos units *ℤ controller_earned g k coins n s strategy)

-- the common multiple of all that the points bring
abbrev pub common_multiple : GameData → CertificateData → ℕ
common_multiple g k = multiple (numbers g) (points_of k.points) (length k.points)

-- What player one earns from the first state s over n stages against the splitting strategy, which knows s and draws a start point
-- by weight times the point's belief in s. Those products sum to the multiple times the first belief's weight of s
-- (`StartsAreDrawn`), so this is times that.
abbrev pub against_splitting : GameData → CertificateData → ℕ → ℕ → ℕ → OwnStrategy → ℤ
against_splitting g k coins n s strategy =
    drawn k.start_points (λ j. pos ((points_of k.points j).belief s) *ℤ
    earned (numbers g) coins (length k.points) n s (own_weights strategy) (point_weights (numbers g) (points_of k.points) (common_multiple g k) j s))

-- Against the splitting strategy no strategy of player one earns more than the upper bound plus the tail.
abbrev pub HoldsDown : GameData → CertificateData → Type 0
HoldsDown g k =
    (n coins whole : ℕ) (strategy : OwnStrategy) → IsOwnStrategy (numbers g) coins whole n strategy →
    let tail = k.multiple *ℤ pos ((numbers g).discount_over ^ n * span g * first_whole g) in
    (pos units *ℤ total (λ s. against_splitting g k coins n s strategy) (below g.shape.states))
    ≤ℤ ((k.upper.num *ℤ pos ((numbers g).discount_under ^ n) +ℤ tail) *ℤ pos (((numbers g).row_total * whole * units * common_multiple g k) ^ n))

-- Always to play one action earns at least the bound less the tail.
abbrev pub ActionEarns : Numbers → (ℕ → ℕ) → ℕ → ℕ → ℤ → Type 0
ActionEarns g first width action lower =
    (n coins whole : ℕ) (strategy : InformedStrategy) → IsInformedStrategy g coins whole n strategy →
    ((lower *ℤ pos (g.discount_under ^ n) -ℤ pos (g.discount_over ^ n * width * sum_by first (below g.states)))
    *ℤ pos ((g.row_total * whole) ^ n))
    ≤ℤ (pos units *ℤ total (λ s. pos (first s) *ℤ earned g 1 coins n s (one_action action) (informed_weights strategy s)) (below g.states))

-- What is earned is a mean: from each node the weights of all courses sum to the number that the bound is multiplied by.
abbrev pub EarnsInTheMean : GameData → CertificateData → Type 0
EarnsInTheMean g k =
    (n coins whole s i : ℕ) (strategy : InformedStrategy) → s < g.shape.states → i < length k.nodes → IsInformedStrategy (numbers g) coins whole n strategy →
    sum_by (chance (numbers g) n s (node_weights (nodes_of k.nodes) i) (informed_weights strategy s)) (courses (numbers g) (length k.nodes) coins n)
    ≡ ((numbers g).row_total * units * whole) ^ n

-- and so they do from each point
abbrev pub HoldsInTheMean : GameData → CertificateData → Type 0
HoldsInTheMean g k =
    (n coins whole s j : ℕ) (strategy : OwnStrategy) → s < g.shape.states → j < length k.points → IsOwnStrategy (numbers g) coins whole n strategy →
    sum_by (chance (numbers g) n s (own_weights strategy) (point_weights (numbers g) (points_of k.points) (common_multiple g k) j s)) (courses (numbers g) coins (length k.points) n)
    ≡ ((numbers g).row_total * whole * units * common_multiple g k) ^ n

-- The quotient by which the splitting strategy draws its next point is exact.
abbrev pub DrawsExactly : GameData → CertificateData → Type 0
DrawsExactly g k =
    (j a o t : ℕ) → j < length k.points → a < g.shape.own_actions → o < g.shape.observations → t < g.shape.states →
    let w = brought (numbers g) (points_of k.points j) a o t in
    w ≢ 0 → w * (common_multiple g k / w) ≡ common_multiple g k

-- Both draws of starts are draws: there is a start node, each start names a member with a weight of at least 1, and in every state
-- the start points' weights times beliefs sum to the multiple, which is at least 1, times the first belief.
pub record StartsAreDrawn (g : GameData) (k : CertificateData) : Type 0 where
  pub nodes : AreDrawn (length k.nodes) k.start_nodes
  pub some_node : pos 1 ≤ℤ start_whole k.start_nodes
  pub points : AreDrawn (length k.points) k.start_points
  pub some_point : pos 1 ≤ℤ k.multiple
  pub make_up_first : (s : ℕ) → s < g.shape.states → drawn k.start_points (λ j. pos ((points_of k.points j).belief s)) ≡ k.multiple *ℤ pos (first_at g s)
