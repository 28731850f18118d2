use Rattle.std.proofs.Common.{◌≡◌, ◌∙◌, ◌<◌, ◌≤◌, ℕ, List, get_or, length, sym, subst, ap}
use Rattle.std.specs.Bool.{IsTrue}
use Rattle.std.specs.Vec.{with_items}
use Rattle.std.proofs.lemmas.List.{with_items_is}
use Rattle.game_model.proofs.Front.{length-map}
use Rattle.game_model.specs.Sets.{SetData}
use Rattle.alpha_set.specs.Changes.{HasRisen, IsLifted}
use Rattle.alpha_set.specs.Members.{data_of, most_nodes, node_data}
use Rattle.alpha_set.specs.Nodes.{NodeData, no_node}
use Rattle.alpha_set.specs.Products.{AreNarrow, HaveNarrowEntries}
use Rattle.alpha_set.specs.declared.nodes.Node.{Node}
use Rattle.alpha_set.proofs.Lifting.{LiftedKeep, entries-at, lifted-keep, lifted-narrow}
use Rattle.alpha_set.proofs.sets.NodeSet.lift.Goals as goal
use Rattle.alpha_set.proofs.sets.NodeSet.lift.Goals.{then-self, else-self}

held : (c : goal.After-self-2-1) → data_of c.deref_mut.result.now ≡ c.args.self.now.members
held c = ap data_of c.deref_mut.ensures.value ∙ ap (λ (set : SetData NodeData). set.members) c.self.view_is

written : (c : goal.After-self-2-1) → (with_items c.self.inside.nodes c.lift_node-risen.new.nodes).items ≡ c.lift_node-risen.new.nodes
written c = with_items_is c.self.inside.nodes c.lift_node-risen.new.nodes (c.lift_node-risen.auto.nodes ∙ c.deref_mut.ensures.len)

few : (c : goal.After-self-2-1) → length c.args.self.now.members ≤ most_nodes
few c = subst (λ (n : ℕ). n ≤ most_nodes) (sym (ap length (sym (ap (λ (set : SetData NodeData). set.members) c.self.view_is)) ∙ length-map node_data c.self.inside.nodes.items)) c.self.invariant.0

lifted : (c : goal.After-self-2-1) → IsLifted c.args.game.now c.args.self.now.members c.args.number (data_of (with_items c.self.inside.nodes c.lift_node-risen.new.nodes).items)
lifted c =
    subst (λ (ms : List NodeData). IsLifted c.args.game.now ms c.args.number (data_of (with_items c.self.inside.nodes c.lift_node-risen.new.nodes).items)) (held c)
    (subst (λ (ns : List Node). IsLifted c.args.game.now (data_of c.deref_mut.result.now) c.args.number (data_of ns)) (sym (written c)) c.lift_node-risen.ensures.lifted)

kept : (c : goal.After-self-2-1) → LiftedKeep c.args.game.now c.args.self.now.members (data_of (with_items c.self.inside.nodes c.lift_node-risen.new.nodes).items)
kept c = lifted-keep c.args.game.now c.law_game.ensures.accepted c.args.self.now.members _ c.args.number (few c) c.requires.member c.requires.fits (lifted c)

pub invariant_of-self : goal.invariant_of-self
invariant_of-self c =
    let items : List Node = (with_items c.self.inside.nodes c.lift_node-risen.new.nodes).items in
    let news : List NodeData = data_of items in
    let inside : c.args.number < length items = subst (λ (n : ℕ). c.args.number < n) (sym (kept c).count ∙ length-map node_data items) c.requires.member in
    let held : data_of c.self.inside.nodes.items ≡ c.args.self.now.members = ap (λ (set : SetData NodeData). set.members) c.self.view_is in
    let narrow : IsTrue c.if-self.self → HaveNarrowEntries news = λ t.
    elim c.if-self.branch [
      | then-self w ↦
          let here : AreNarrow (get_or news c.args.number no_node).vector =
          subst AreNarrow (w.deref.ensures.value ∙ entries-at items c.args.number w.index.result.now w.index.result.now.vector.items inside (ap (λ (x : Node). x.vector.items) w.index.ensures))
          (w.are_narrow-self-inside.ensures.0 (sym w.self-is ∙ t)) in
          lifted-narrow c.args.game.now c.args.self.now.members news c.args.number c.requires.member (lifted c) (subst HaveNarrowEntries held (c.self.invariant.1 w.if-self.true)) here
      | else-self w ↦ absurd (let no = w.self-is in cc (no, t))
    ] in
    (subst (λ (n : ℕ). n ≤ most_nodes) (sym (kept c).count ∙ length-map node_data items) (few c), narrow)

pub returns-clause-told : goal.returns-clause-told
returns-clause-told c =
    let number : ℕ = c.args.number in
    let news : List Node = c.lift_node-risen.new.nodes in
    let P : List NodeData → List NodeData → Type 0 = λ old new.
    (IsTrue c.lift_node-risen.result → HasRisen (get_or old number no_node).vector (get_or new number no_node).vector) × (HasRisen (get_or old number no_node).vector (get_or new number no_node).vector → IsTrue c.lift_node-risen.result) in
    subst (λ (ns : List Node). P c.args.self.now.members (data_of ns)) (sym (written c)) (subst (λ (ms : List NodeData). P ms (data_of news)) (held c) c.lift_node-risen.ensures.told)

pub returns-clause-count : goal.returns-clause-count
returns-clause-count c = (kept c).count

pub returns-clause-never_lower : goal.returns-clause-never_lower
returns-clause-never_lower c = (kept c).higher

pub returns-clause-fit : goal.returns-clause-fit
returns-clause-fit c = (kept c).fit

pub returns-clause-stand : goal.returns-clause-stand
returns-clause-stand c = (kept c).stand
