use Rattle.closing.proofs.Kept.{points-serve}
use Rattle.closing.proofs.branches.Frontier.add_after.Goals as goal

pub divide-heights-requires : goal.divide-heights-requires
divide-heights-requires c = record { points = points-serve c.args.game.now c.args.points.now.members c.requires.points }

pub stand_in-belief-requires-clause-points : goal.stand_in-belief-requires-clause-points
stand_in-belief-requires-clause-points c = points-serve c.args.game.now c.args.points.now.members c.requires.points
