use Rattle.std.proofs.Common.{◌≡◌, ◌∙◌, ◌<◌, ℕ, Bool, false, true, List, length, ap, arith, get_or, sym, subst}
use Rattle.std.specs.List.{AllByRecursion}
use Rattle.alpha_set.specs.Members.{node_data}
use Rattle.alpha_set.specs.Nodes.{NodeData, no_node}
use Rattle.game_model.specs.Branches.{Branch}
use Rattle.controller.specs.Export.{renumbered_node}
use Rattle.controller.specs.Reached.{flag_at}
use Rattle.controller.proofs.Renumbering.{keep-few, keep-no, keep-yes}
use Rattle.controller.proofs.kept.keep_nodes.Goals as goal

abbrev changed : List Bool → List NodeData → ℕ → NodeData
changed flags members k = renumbered_node (flag_at flags) (get_or members k no_node)

pub loop-i-preserved-then-not-keeps : goal.loop-i-preserved-then-not-keeps
loop-i-preserved-then-not-keeps c =
    let not_kept : flag_at c.args.numbering.now c.loop-i.i ≡ false = sym c.keeps.ensures ∙ c.if-not-keeps.true in
    keep-no (changed c.args.numbering.now c.args.nodes.now.members) (flag_at c.args.numbering.now) c.loop-i.i c.loop-i.kept.members c.loop-i.invariant not_kept

pub renumber_node-requires : goal.renumber_node-requires
renumber_node-requires c =
    let inside : c.loop-i.i < length c.args.nodes.now.members = omega (arith, c.len-i-end.ensures.count) in
    subst (λ (n : ℕ). AllByRecursion (λ (b : Branch). b.member < n) (node_data c.node.result.now).next) (sym c.requires.count)
    (subst (λ (x : NodeData). AllByRecursion (λ (b : Branch). b.member < length c.args.nodes.now.members) x.next) (sym c.node.ensures) (c.requires.named c.loop-i.i inside))

pub add_node-requires : goal.add_node-requires
add_node-requires c =
    let few = keep-few (changed c.args.numbering.now c.args.nodes.now.members) (flag_at c.args.numbering.now) c.loop-i.i c.loop-i.kept.members c.loop-i.invariant in
    omega (arith, few, c.len-i-end.ensures.count, c.len-i-end.ensures.few)

pub loop-i-preserved : goal.loop-i-preserved
loop-i-preserved c =
    let is_kept : flag_at c.args.numbering.now c.loop-i.i ≡ true = sym c.keeps.ensures ∙ c.if-not-keeps.false in
    let same : node_data c.in_ok-node.node ≡ changed c.args.numbering.now c.args.nodes.now.members c.loop-i.i =
    c.in_ok-node.ensures ∙ ap (λ (x : NodeData). renumbered_node (flag_at c.args.numbering.now) x) c.node.ensures in
    keep-yes (changed c.args.numbering.now c.args.nodes.now.members) (flag_at c.args.numbering.now) c.loop-i.i c.loop-i.kept.members c.add_node.new.nodes.members (node_data c.in_ok-node.node)
    c.loop-i.invariant c.in_ok-add_node.ensures same is_kept
