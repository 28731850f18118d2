-- Nodes of a controller: when a node fits a game, and when it stands.
use Rattle.std.specs.Prelude.{ℕ, ℤ, pos, neg_ℤ, ◌+ℤ◌, ◌*ℤ◌, ◌≤ℤ◌, List, [], map, filter, length, ◌≡◌, ◌<◌, ◌*◌, ◌==◌, ◌&&◌, slice_index_or, unsigned_abs}
use Rattle.std.specs.List.{AllByRecursion}
use Rattle.scaled_num.specs.Sums.{below, total, sum_of}
use Rattle.game_model.specs.Branches.{AreBranches, Branch, Continuation, branches_at, continuation_of, continuations_at, mix_total}
use Rattle.game_model.specs.Game.{GameData, IsWithin, numbers, span, unit}
use Rattle.game_model.specs.Numbers.{Numbers, over_row}

-- a node as a list of entries by state, a mix of the own actions, and its steps
pub record NodeData : Type 0 where
  pub vector : List ℤ
  pub mix : List ℤ
  pub next : List Branch

-- weights of 0 to the mix total, which sum to it
pub record IsMix (actions : ℕ) (weights : List ℤ) : Type 0 where
  pub long : length weights ≡ actions
  pub each : AllByRecursion (IsWithin (pos 0) (pos mix_total)) weights
  pub sums : sum_of weights ≡ pos mix_total

-- A node fits a game and a number of nodes: its entries are within the span, and after each own action and
-- observation its steps have the weight of that action.
pub record NodeFits (g : GameData) (nodes : ℕ) (node : NodeData) : Type 0 where
  pub long : length node.vector ≡ g.shape.states
  pub entries : AllByRecursion (IsWithin (neg_ℤ (pos (span g))) (pos (span g))) node.vector
  pub mix : IsMix g.shape.own_actions node.mix
  pub next : AreBranches (numbers g) nodes (pos mix_total) node.next
  pub sums : (a o : ℕ) → a < g.shape.own_actions → o < g.shape.observations →
      total (λ b. b.weight) (branches_at node.next a o) ≡ slice_index_or node.mix a (pos 0)

-- ---- the numbers of a node, which the rule and the plans take
pub record Node : Type 0 where
  pub vector : ℕ → ℤ
  pub mix : ℕ → ℕ
  pub next : List Continuation

abbrev pub no_node : NodeData
no_node = record { vector = []; mix = []; next = [] }

abbrev pub node_of : NodeData → Node
node_of node = record {
  vector = λ s. slice_index_or node.vector s (pos 0);
  mix = λ a. unsigned_abs (slice_index_or node.mix a (pos 0));
  next = map continuation_of node.next;
}

-- the nodes of a list, by number
abbrev pub nodes_of : List NodeData → ℕ → Node
nodes_of nodes i = node_of (slice_index_or nodes i no_node)

-- the steps after an own action and an observation
abbrev pub steps_at : Node → ℕ → ℕ → List Continuation
steps_at node a o = continuations_at node.next a o

-- what the steps after an own action and an observation are worth in the state t
abbrev pub steps_worth : (ℕ → Node) → Node → ℕ → ℕ → ℕ → ℤ
steps_worth nodes node a o t = total (λ step. pos step.weight *ℤ (nodes step.member).vector t) (steps_at node a o)

-- what one stage of a node gives in the state s against the informed action c, in units of M * D * Q
abbrev pub node_worth : Numbers → (ℕ → Node) → Node → ℕ → ℕ → ℤ
node_worth g nodes node s c =
    total (λ a. pos (node.mix a) *ℤ g.reward s a c *ℤ pos (unit * g.row_total * g.discount_under)) (below g.own_actions)
    +ℤ pos g.discount_over *ℤ total (λ a. over_row g s a c (λ o t. steps_worth nodes node a o t)) (below g.own_actions)

-- the node rule at the state s and the informed action c: in one stage the node loses nothing
abbrev pub NodeHolds : Numbers → (ℕ → Node) → Node → ℕ → ℕ → Type 0
NodeHolds g nodes node s c = (node.vector s *ℤ pos (mix_total * g.row_total * g.discount_under)) ≤ℤ node_worth g nodes node s c

-- a node stands where the rule holds everywhere
abbrev pub NodeStands : Numbers → (ℕ → Node) → Node → Type 0
NodeStands g nodes node = (s c : ℕ) → s < g.states → c < g.informed_actions → NodeHolds g nodes node s c
