use Rattle.std.proofs.Common.{ap, ◌∙◌, rules, length, subst, List}
use Rattle.std.specs.Prelude.{ℤ, FitsSigned}
use Rattle.std.specs.Int.{w128}
use Rattle.std.proofs.lemmas.Int.{to_z-of_z}
use Rattle.alpha_set.specs.Members.{node_data, most_nodes}
use Rattle.alpha_set.specs.Worth.{IsWorth, worth_at}
use Rattle.hsvi_trial.proofs.DueTests.{node-due}
use Rattle.backup.proofs.GrownSets.{node-fits-more}
use Rattle.hsvi_trial.proofs.keeping.is_node_due.Goals as goal

pub node_worth-requires-clause-node : goal.node_worth-requires-clause-node
node_worth-requires-clause-node c = node-fits-more c.args.game.now (length c.args.nodes.now.members) most_nodes (node_data c.args.node.now) c.len.ensures.few c.requires.node

pub returns : goal.returns
returns c =
    let worth_fits : FitsSigned w128 c.worth-worth.result.0 = search rules in
    let product_fits : FitsSigned w128 c.node_worth.result = search rules in
    simp to_z-of_z
    (node-due c.args.nodes.now.members c.args.belief.now (node_data c.args.node.now) c.worth-worth.result.0 c.node_worth.result c.worth-worth.result.1
    (subst (λ (b : List ℤ). IsWorth c.args.nodes.now.members b c.worth-worth.result.0 c.worth-worth.result.1) c.parts.ensures.parts c.worth-worth.ensures.worth)
    (c.node_worth.ensures ∙ ap (λ (b : List ℤ). worth_at b (node_data c.args.node.now).vector) c.parts-2.ensures.parts))
