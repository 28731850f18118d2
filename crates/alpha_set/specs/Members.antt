-- Nodes and steps of the program as the data that the rules speak of, and the table of what steps are worth.
use Rattle.game_model.specs.Limits.{most_states, most_actions, most_observations, most_members}
use Rattle.std.specs.Prelude.{ℕ, ℤ, pos, List, length, map, cond, unsigned_abs, slice_index_or, ◌≡◌, ◌+◌, ◌*◌, ◌+ℤ◌, ◌*ℤ◌, ◌≤ℤ◌, ◌<◌, ◌≤◌, ◌==◌, ◌&&◌}
use Rattle.std.specs.List.{AllByRecursion}
use Rattle.scaled_num.specs.First.{FirstIn}
use Rattle.scaled_num.specs.Sums.{below, total}
use Rattle.game_model.specs.Branches.{Branch, branch_of, mix_total}
use Rattle.game_model.specs.Game.{GameData, numbers, span, unit}
use Rattle.game_model.specs.Numbers.{Numbers, over_row}
use Rattle.alpha_set.specs.Faults.{NodeFailsFirst}
use Rattle.alpha_set.specs.Nodes.{Node, NodeData, NodeFits, NodeStands, node_of, nodes_of, steps_worth}
use Rattle.alpha_set.specs.declared.nodes.Node.{Node as NodeParts}
use Rattle.game_model.specs.declared.branches.Branch.{Branch as StepParts}

-- a node as data
abbrev pub node_data : NodeParts → NodeData
node_data node = record {
  vector = node.vector.items;
  mix = node.mix.items;
  next = map branch_of node.next.items;
}

abbrev pub data_of : List NodeParts → List NodeData
data_of nodes = map node_data nodes

-- the most nodes of a set
abbrev pub most_nodes : ℕ
most_nodes = most_members

-- a node and all nodes that its steps may name fit the game
pub record IsMember (g : GameData) (nodes : List NodeParts) (node : NodeParts) : Type 0 where
  pub each : AllByRecursion (NodeFits g most_nodes) (data_of nodes)
  pub fits : NodeFits g most_nodes (node_data node)
  pub named : AllByRecursion (λ (step : Branch). step.member < length nodes) (map branch_of node.next.items)

-- a node stands among others; it fails first at this place
abbrev pub StandsAmong : GameData → List NodeParts → NodeParts → Type 0
StandsAmong g nodes node = NodeStands (numbers g) (nodes_of (data_of nodes)) (node_of (node_data node))

abbrev pub FailsFirstAmong : GameData → List NodeParts → NodeParts → ℕ × ℕ → Type 0
FailsFirstAmong g nodes node place = NodeFailsFirst (numbers g) (nodes_of (data_of nodes)) (node_of (node_data node)) place

-- What steps are worth stands in a table, by own action, observation and next state.
abbrev pub table_length : ℕ
table_length = most_actions * most_observations * most_states

abbrev pub table_index : ℕ → ℕ → ℕ → ℕ
table_index a o t = (a * most_observations + o) * most_states + t

abbrev pub entry_at : List ℤ → ℕ → ℕ → ℕ → ℤ
entry_at table a o t = slice_index_or table (table_index a o t) (pos 0)

-- the table holds what the steps of a node are worth
abbrev pub HoldsWorths : GameData → (ℕ → Node) → Node → List ℤ → Type 0
HoldsWorths g nodes node table =
    (a o t : ℕ) → a < g.shape.own_actions → o < g.shape.observations → t < g.shape.states → entry_at table a o t ≡ steps_worth nodes node a o t

-- a table whose entries are at most the mix total times the span
pub record IsTable (g : GameData) (table : List ℤ) : Type 0 where
  pub long : length table ≡ table_length
  pub small : (a o t : ℕ) → a < g.shape.own_actions → o < g.shape.observations → t < g.shape.states → unsigned_abs (entry_at table a o t) ≤ mix_total * span g

-- what one step brings to an entry of the table, where its node has this vector
abbrev pub brought : StepParts → List ℤ → ℕ → ℕ → ℕ → ℤ
brought step vector a o t = cond ((step.a == a) && (step.o == o)) (step.weight *ℤ slice_index_or vector t (pos 0)) (pos 0)

-- what a mix of the own actions is paid at once
abbrev pub paid : Numbers → (ℕ → ℕ) → ℕ → ℕ → ℤ
paid g mix s c = total (λ a. pos (mix a) *ℤ g.reward s a c) (below g.own_actions)

-- the sum over the own actions and the row of each of its weights times the entries of a table
abbrev pub expected : Numbers → List ℤ → ℕ → ℕ → ℤ
expected g table s c = total (λ a. over_row g s a c (λ o t. entry_at table a o t)) (below g.own_actions)

-- the weights of a mix, by own action
abbrev pub mix_of : List ℤ → ℕ → ℕ
mix_of mix a = unsigned_abs (slice_index_or mix a (pos 0))

-- what one stage gives in the state s against the informed action c, where a table holds what the steps are worth: the
-- right side of the node rule
abbrev pub worth_by : Numbers → (ℕ → ℕ) → List ℤ → ℕ → ℕ → ℤ
worth_by g mix table s c = pos (unit * g.row_total * g.discount_under) *ℤ paid g mix s c +ℤ pos g.discount_over *ℤ expected g table s c

-- the node rule, where a table holds what the steps are worth
abbrev pub HoldsBy : Numbers → Node → List ℤ → ℕ → ℕ → Type 0
HoldsBy g node table s c = (node.vector s *ℤ pos (mix_total * g.row_total * g.discount_under)) ≤ℤ worth_by g node.mix table s c

-- by a table, the node rule holds at all of these places; it fails first at this one among them
abbrev pub AllHoldBy : GameData → NodeParts → List ℤ → List (ℕ × ℕ) → Type 0
AllHoldBy g node table places = AllByRecursion (λ (place : ℕ × ℕ). HoldsBy (numbers g) (node_of (node_data node)) table place.0 place.1) places

abbrev pub FailsFirstBy : GameData → NodeParts → List ℤ → List (ℕ × ℕ) → ℕ × ℕ → Type 0
FailsFirstBy g node table places place = FirstIn (λ (place : ℕ × ℕ). HoldsBy (numbers g) (node_of (node_data node)) table place.0 place.1) places place
