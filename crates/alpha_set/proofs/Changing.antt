-- Where a node is replaced by a higher one that stands, all nodes stand.
use Rattle.std.proofs.Common.{ℕ, zero, suc, ◌*◌, ◌<◌, List, [], ◌∷◌, length, get_or, set, arith, inl, inr, sym, subst}
use Rattle.std.specs.Prelude.{ℤ, pos, ◌+ℤ◌, ◌*ℤ◌, ◌≤ℤ◌}
use Rattle.std.specs.List.{AllByRecursion}
use Rattle.std.proofs.lemmas.Bool.{cases_order}
use Rattle.std.proofs.lemmas.Int.{ints}
use Rattle.std.proofs.lemmas.List.{get_or-set_same, get_or-set_other, length-set, map-set}
use Rattle.scaled_num.specs.Sums.{below, total}
use Rattle.scaled_num.proofs.Products.{le-mulℤ}
use Rattle.scaled_num.proofs.Sums.{each, total-below-le, total-le}
use Rattle.game_model.specs.Branches.{Continuation}
use Rattle.game_model.specs.Game.{GameData, unit}
use Rattle.game_model.specs.Numbers.{Numbers, over_row}
use Rattle.alpha_set.specs.Changes.{IsNowhereLower, NodesStand}
use Rattle.alpha_set.specs.Members.{data_of, node_data}
use Rattle.alpha_set.specs.Products.{AreNarrow, HaveNarrowEntries}
use Rattle.alpha_set.specs.declared.nodes.Node.{Node as NodeParts}
use Rattle.alpha_set.specs.Nodes.{Node, NodeData, NodeFits, NodeStands, no_node, node_of, node_worth, nodes_of, steps_at, steps_worth}

through : (x y z : ℤ) → x ≤ℤ y → y ≤ℤ z → x ≤ℤ z
through x y z h k = omega (arith, ints)

same : (x : ℤ) → x ≤ℤ x
same x = omega (arith, ints)

more : (n x y : ℤ) → x ≤ℤ y → (n +ℤ x) ≤ℤ (n +ℤ y)
more n x y h = omega (arith, ints)

-- nodes that are nowhere lower than others, number by number
abbrev pub AreNowhereLower : Numbers → (ℕ → Node) → (ℕ → Node) → Type 0
AreNowhereLower g old new = (k t : ℕ) → t < g.states → (old k).vector t ≤ℤ (new k).vector t

-- one stage gives no less among nodes that are nowhere lower
pub worth-rises : (g : Numbers) (old new : ℕ → Node) (node : Node) → AreNowhereLower g old new → (s c : ℕ) → node_worth g old node s c ≤ℤ node_worth g new node s c
worth-rises g old new node rises s c =
    let steps : (a o t : ℕ) → t < g.states → steps_worth old node a o t ≤ℤ steps_worth new node a o t =
    λ a o t lt. total-le (λ (step : Continuation). pos step.weight *ℤ (old step.member).vector t) (λ (step : Continuation). pos step.weight *ℤ (new step.member).vector t) (steps_at node a o)
    (each (λ (step : Continuation). le-mulℤ step.weight ((old step.member).vector t) ((new step.member).vector t) (rises step.member t lt)) (steps_at node a o)) in
    let later : (ℕ → Node) → ℕ → ℤ = λ nodes a. over_row g s a c (λ o t. steps_worth nodes node a o t) in
    more (total (λ a. pos (node.mix a) *ℤ g.reward s a c *ℤ pos (unit * g.row_total * g.discount_under)) (below g.own_actions))
    (pos g.discount_over *ℤ total (later old) (below g.own_actions)) (pos g.discount_over *ℤ total (later new) (below g.own_actions))
    (le-mulℤ g.discount_over (total (later old) (below g.own_actions)) (total (later new) (below g.own_actions))
    (total-below-le g.own_actions (later old) (later new) (λ a la.
    total-below-le g.observations _ _ (λ o lo.
    total-below-le g.states _ _ (λ t lt. le-mulℤ (g.weight s a c o t) (steps_worth old node a o t) (steps_worth new node a o t) (steps a o t lt))))))

-- a node that stands among nodes stands among higher ones
pub stands-higher : (g : Numbers) (old new : ℕ → Node) (node : Node) → AreNowhereLower g old new → NodeStands g old node → NodeStands g new node
stands-higher g old new node rises stands s c ls lc = through _ _ _ (stands s c ls lc) (worth-rises g old new node rises s c)

-- ---- a node is replaced
pub replaced-rise : (g : Numbers) (nodes : List NodeData) (number : ℕ) (node : NodeData) → number < length nodes → IsNowhereLower g.states (get_or nodes number no_node).vector node.vector →
    AreNowhereLower g (nodes_of nodes) (nodes_of (set nodes number node))
replaced-rise g nodes number node l rises k t lt =
    elim (cases_order k number) [
      | inl e ↦ subst (λ (j : ℕ). (nodes_of nodes j).vector t ≤ℤ (nodes_of (set nodes number node) j).vector t) (sym e)
          (subst (λ (x : NodeData). (nodes_of nodes number).vector t ≤ℤ (node_of x).vector t) (sym (get_or-set_same nodes number node no_node l)) (rises t lt))
      | inr e ↦ subst (λ (x : NodeData). (nodes_of nodes k).vector t ≤ℤ (node_of x).vector t) (sym (get_or-set_other nodes number k node no_node (λ i. elim e [ inl m ↦ omega arith | inr m ↦ omega arith ]))) (same ((nodes_of nodes k).vector t))
    ]

pub raised-stand : (g : Numbers) (nodes : List NodeData) (number : ℕ) (node : NodeData) → NodesStand g nodes → number < length nodes → IsNowhereLower g.states (get_or nodes number no_node).vector node.vector →
    NodeStands g (nodes_of nodes) (node_of node) → NodesStand g (set nodes number node)
raised-stand g nodes number node stand l rises stands k lk =
    let higher = replaced-rise g nodes number node l rises in
    elim (cases_order k number) [
      | inl e ↦ subst (λ (j : ℕ). NodeStands g (nodes_of (set nodes number node)) (nodes_of (set nodes number node) j)) (sym e)
          (subst (λ (x : NodeData). NodeStands g (nodes_of (set nodes number node)) (node_of x)) (sym (get_or-set_same nodes number node no_node l)) (stands-higher g (nodes_of nodes) (nodes_of (set nodes number node)) (node_of node) higher stands))
      | inr e ↦ subst (λ (x : NodeData). NodeStands g (nodes_of (set nodes number node)) (node_of x)) (sym (get_or-set_other nodes number k node no_node (λ i. elim e [ inl m ↦ omega arith | inr m ↦ omega arith ])))
          (stands-higher g (nodes_of nodes) (nodes_of (set nodes number node)) (nodes_of nodes k) higher (stand k (subst (λ (n : ℕ). k < n) (length-set nodes number node) lk)))
    ]

-- what holds of all elements holds of them where one is replaced by another of which it holds
pub each-set : {X : Type 0} (P : X → Type 0) (xs : List X) (i : ℕ) (y : X) → AllByRecursion P xs → P y → AllByRecursion P (set xs i y)
each-set P [] i y h p = tt
each-set P (x ∷ xs) zero y h p = (p, h.1)
each-set P (x ∷ xs) (suc i) y h p = (h.0, each-set P xs i y h.1 p)

pub replaced-narrow : (nodes : List NodeParts) (number : ℕ) (node : NodeParts) → HaveNarrowEntries (data_of nodes) → AreNarrow node.vector.items → HaveNarrowEntries (data_of (set nodes number node))
replaced-narrow nodes number node narrow here =
    subst HaveNarrowEntries (sym (map-set node_data nodes number node)) (each-set (λ (x : NodeData). AreNarrow x.vector) (data_of nodes) number (node_data node) narrow here)

pub replaced-fit : (g : GameData) (nodes : List NodeData) (number : ℕ) (node : NodeData) → AllByRecursion (NodeFits g (length nodes)) nodes → NodeFits g (length nodes) node →
    AllByRecursion (NodeFits g (length (set nodes number node))) (set nodes number node)
replaced-fit g nodes number node fit fits =
    subst (λ (n : ℕ). AllByRecursion (NodeFits g n) (set nodes number node)) (sym (length-set nodes number node)) (each-set (NodeFits g (length nodes)) nodes number node fit fits)
