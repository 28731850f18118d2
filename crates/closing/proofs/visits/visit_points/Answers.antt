use Rattle.closing.proofs.Kept.{points-serve}
use Rattle.closing.proofs.visits.visit_points.Goals as goal

pub of-requires : goal.of-requires
of-requires c = points-serve c.args.game.now c.args.points.now.members c.requires.points

pub matched_point-requires-clause-points : goal.matched_point-requires-clause-points
matched_point-requires-clause-points c = points-serve c.args.game.now c.args.points.now.members c.requires.points

pub is_lower-requires : goal.is_lower-requires
is_lower-requires c = points-serve c.args.game.now c.args.points.now.members c.requires.points
