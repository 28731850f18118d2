use Rattle.closing.proofs.Kept.{nodes-asked}
use Rattle.closing.proofs.pushing.low.Goals as goal

pub worth-worth-requires-clause-weighed : goal.worth-worth-requires-clause-weighed
worth-worth-requires-clause-weighed c = nodes-asked c.args.game.now c.args.nodes.now.members c.args.parts.now c.law_game.ensures.accepted c.requires.nodes c.requires.parts
