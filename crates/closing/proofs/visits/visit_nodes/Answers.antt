use Rattle.closing.proofs.Kept.{points-serve}
use Rattle.closing.proofs.visits.visit_nodes.Goals as goal

pub matched_node-requires-clause-points : goal.matched_node-requires-clause-points
matched_node-requires-clause-points c = points-serve c.args.game.now c.args.points.now.members c.requires.points
