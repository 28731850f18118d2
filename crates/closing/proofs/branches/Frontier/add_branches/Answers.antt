use Rattle.closing.proofs.Kept.{points-serve}
use Rattle.closing.proofs.branches.Frontier.add_branches.Goals as goal

pub of-requires : goal.of-requires
of-requires c = points-serve c.args.game.now c.args.points.now.members c.requires.points
