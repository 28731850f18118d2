use Rattle.std.proofs.Common.{arith, ◌≡◌, ◌∙◌, List, ap, set, sym, subst}
use Rattle.std.specs.Bool.{IsTrue}
use Rattle.std.proofs.lemmas.List.{length-set, map-set}
use Rattle.game_model.specs.Sets.{SetData}
use Rattle.alpha_set.specs.Members.{data_of, node_data}
use Rattle.alpha_set.specs.Nodes.{NodeData}
use Rattle.alpha_set.specs.Products.{AreNarrow, HaveNarrowEntries}
use Rattle.alpha_set.specs.declared.nodes.Node.{Node}
use Rattle.alpha_set.proofs.Changing.{replaced-narrow}
use Rattle.alpha_set.proofs.sets.NodeSet.replace.Goals as goal
use Rattle.alpha_set.proofs.sets.NodeSet.replace.Goals.{then-self, else-self}

pub invariant_of-self : goal.invariant_of-self
invariant_of-self c =
    let nodes : List Node = c.self.inside.nodes.items in
    let node : Node = c.args.node in
    let here : IsTrue c.are_narrow-narrow.result → AreNarrow node.vector.items = λ t. subst AreNarrow c.deref.ensures.value (c.are_narrow-narrow.ensures.0 t) in
    let narrow : IsTrue c.if-self.self → HaveNarrowEntries (data_of (set nodes c.args.number node)) = λ t.
    elim c.if-self.branch [
      | then-self w ↦ replaced-narrow nodes c.args.number node (c.self.invariant.1 w.if-self.true) (here (sym w.self-is ∙ t))
      | else-self w ↦ absurd (let no = w.self-is in cc (no, t))
    ] in
    (omega (arith, length-set nodes c.args.number node, c.self.invariant.0), narrow)

pub returns-clause-members : goal.returns-clause-members
returns-clause-members c =
    let held : data_of c.self.inside.nodes.items ≡ c.args.self.now.members = ap (λ (set : SetData NodeData). set.members) c.self.view_is in
    map-set node_data c.self.inside.nodes.items c.args.number c.args.node
    ∙ ap (λ (ms : List NodeData). set ms c.args.number (node_data c.args.node)) held
