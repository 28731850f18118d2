use Rattle.std.proofs.Common.{arith, length, rules}
use Rattle.alpha_set.specs.Nodes.{NodeFits, no_node}
use Rattle.controller.proofs.nodes.nodes_fit.Goals as goal
use Rattle.scaled_num.proofs.Each.{each-by-place}

pub returns : goal.returns
returns c = (
  λ t. each-by-place (NodeFits c.args.game.now (length c.args.nodes.now.members)) no_node c.args.nodes.now.members (λ k l. c.loop-i.invariant k (omega (arith, c.len-i-end.ensures.count))),
  λ h. search rules,
)
