use Rattle.worked_rows.proofs.SeedsServe.{nodes-serve, points-serve}
use Rattle.worked_rows.proofs.stages.seeds_of.Goals as goal

pub returns-clause-nodes : goal.returns-clause-nodes
returns-clause-nodes c = nodes-serve c.args.game.now c.law_game.ensures.accepted c.in_ok-nodes.nodes.members c.in_ok-nodes.ensures.nodes c.in_ok-nodes.ensures.nodes_fit c.len.ensures.few

pub returns-clause-points : goal.returns-clause-points
returns-clause-points c = points-serve c.args.game.now c.law_game.ensures.accepted c.in_ok-nodes.points.members c.in_ok-nodes.ensures.points c.in_ok-nodes.ensures.points_fit c.len-2.ensures.few
