use Rattle.closing.proofs.Kept.{nodes-asked}
use Rattle.closing.proofs.branches.lower_rate.Goals as goal

pub worth-low-requires-clause-weighed : goal.worth-low-requires-clause-weighed
worth-low-requires-clause-weighed c = nodes-asked c.args.game.now c.args.nodes.now.members c.args.mass.now c.law_game.ensures.accepted c.requires.nodes c.requires.mass
