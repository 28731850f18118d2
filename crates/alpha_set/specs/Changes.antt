-- Nodes of a set that are changed: one is replaced, and one is raised to what one stage of it gives.
use Rattle.std.specs.Prelude.{ℕ, ℤ, pos, List, cond, length, sum_by, ◌≡◌, ◌<◌, ◌==◌, ◌+◌, ◌*◌, ◌≤ℤ◌, ◌<ℤ◌, slice_index_or, slice_set, unsigned_abs}
use Rattle.std.specs.Int.{int_max}
use Rattle.std.specs.List.{AllByRecursion}
use Rattle.scaled_num.specs.Share.{IsFloor, at}
use Rattle.game_model.specs.Bounds.{IsLeastOf}
use Rattle.game_model.specs.Branches.{Continuation, mix_total}
use Rattle.game_model.specs.Game.{GameData, numbers}
use Rattle.game_model.specs.Numbers.{Numbers}
use Rattle.alpha_set.specs.Nodes.{NodeData, NodeFits, NodeStands, no_node, node_of, node_worth, nodes_of, steps_at}

-- each node of a list stands among all of them
abbrev pub NodesStand : Numbers → List NodeData → Type 0
NodesStand g nodes = (k : ℕ) → k < length nodes → NodeStands g (nodes_of nodes) (nodes_of nodes k)

-- a vector is nowhere lower than another
abbrev pub IsNowhereLower : ℕ → List ℤ → List ℤ → Type 0
IsNowhereLower states old new = (s : ℕ) → s < states → at old s ≤ℤ at new s

-- in some place a number is higher
abbrev pub HasRisen : List ℤ → List ℤ → Type 0
HasRisen old new = (s : ℕ) × (s < length old) × (at old s <ℤ at new s)

-- the greater of a number, and of a worth divided and rounded down
pub record IsRaised (worth divisor old new : ℤ) : Type 0 where
  pub quotient : ℤ
  pub floor : IsFloor quotient worth divisor
  pub greater : new ≡ int_max old quotient

-- by what the least worth of one stage is divided: the mix total times the row total times the discount's denominator
abbrev pub divisor_of : GameData → ℤ
divisor_of g = pos (mix_total * unsigned_abs g.shape.row_total * unsigned_abs g.shape.discount.1)

-- the vector of a node among others, raised to what one stage gives: each entry is the greater of what it was, and of
-- the least worth of a stage there, divided and rounded down
pub record IsRaisedVector (g : GameData) (nodes : List NodeData) (node : NodeData) (vector : List ℤ) : Type 0 where
  pub long : length vector ≡ g.shape.states
  pub worths : ℕ → ℤ
  pub least : (s : ℕ) → s < g.shape.states → IsLeastOf (node_worth (numbers g) (nodes_of nodes) (node_of node) s) g.shape.informed_actions (worths s)
  pub raised : (s : ℕ) → s < g.shape.states → IsRaised (worths s) (divisor_of g) (at node.vector s) (at vector s)

-- a node with another vector
abbrev pub with_vector : NodeData → List ℤ → NodeData
with_vector node vector = record { vector = vector; mix = node.mix; next = node.next }

-- the node of a number has a vector that is raised so; all else is as it was
pub record IsLifted (g : GameData) (nodes : List NodeData) (number : ℕ) (new : List NodeData) : Type 0 where
  pub vector : List ℤ
  pub raised : IsRaisedVector g nodes (slice_index_or nodes number no_node) vector
  pub members : new ≡ slice_set nodes number (with_vector (slice_index_or nodes number no_node) vector)

-- ---- steps that go to another node
-- the weight that branches give to a member
abbrev pub weight_in : List Continuation → ℕ → ℕ
weight_in branches m = sum_by (λ (b : Continuation). cond (m == b.member) b.weight 0) branches

-- weights by member, where what went to one goes to another, beside what went there already
abbrev pub moved : (ℕ → ℕ) → ℕ → ℕ → ℕ → ℕ
moved weights from to m = cond (m == from) 0 (cond (m == to) (weights to + weights from) (weights m))

-- the branches of a list name members below a count
abbrev pub NameBelow : ℕ → List Continuation → Type 0
NameBelow count branches = AllByRecursion (λ (b : Continuation). b.member < count) branches

-- a node is another one but for its steps to one of so many nodes, which go to another of them; equal steps are added
pub record IsRenamed (g : Numbers) (count from to : ℕ) (old new : NodeData) : Type 0 where
  pub vector : new.vector ≡ old.vector
  pub mix : new.mix ≡ old.mix
  pub old_named : NameBelow count (node_of old).next
  pub new_named : NameBelow count (node_of new).next
  pub goes : (a o m : ℕ) → a < g.own_actions → o < g.observations → m < count →
      weight_in (steps_at (node_of new) a o) m ≡ moved (weight_in (steps_at (node_of old) a o)) from to m

-- ---- what is proved of them
-- where one is replaced by a node that fits, all nodes fit
abbrev pub ReplacedFit : Type 0
ReplacedFit =
    (g : GameData) (nodes : List NodeData) (number : ℕ) (node : NodeData) → AllByRecursion (NodeFits g (length nodes)) nodes → NodeFits g (length nodes) node →
    AllByRecursion (NodeFits g (length (slice_set nodes number node))) (slice_set nodes number node)

-- where a node is replaced by one that is nowhere lower and that stands among the nodes as they were, all nodes stand
abbrev pub RaisedStand : Type 0
RaisedStand =
    (g : Numbers) (nodes : List NodeData) (number : ℕ) (node : NodeData) → NodesStand g nodes → number < length nodes →
    IsNowhereLower g.states (slice_index_or nodes number no_node).vector node.vector → NodeStands g (nodes_of nodes) (node_of node) →
    NodesStand g (slice_set nodes number node)

-- where the node `to` is nowhere lower than the node `from`, and a node's steps to this go to that, all nodes stand
abbrev pub RenamedStand : Type 0
RenamedStand =
    (g : Numbers) (nodes : List NodeData) (number from to : ℕ) (node : NodeData) → NodesStand g nodes → number < length nodes →
    from < length nodes → to < length nodes → (from ≡ to → ⊥) →
    IsNowhereLower g.states (slice_index_or nodes from no_node).vector (slice_index_or nodes to no_node).vector →
    IsRenamed g (length nodes) from to (slice_index_or nodes number no_node) node → NodesStand g (slice_set nodes number node)
