use Rattle.std.proofs.Common.{subst, sym}
use Rattle.alpha_set.specs.Members.{node_data}
use Rattle.stage_game.specs.Asked.{NodesServe}
use Rattle.worked_rows.proofs.SeedsServe.{node-behind}
use Rattle.worked_rows.proofs.stages.push_node.Goals as goal

pub returns : goal.returns
returns c =
    subst (NodesServe c.args.game.now) (sym c.in-Ok.ensures.added)
    (node-behind c.args.game.now c.args.set.now.members (node_data c.in_ok-node.node) c.requires.fit c.in_ok-node.ensures.fits)
