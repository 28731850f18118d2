use Rattle.std.proofs.Common.{sym, subst}
use Rattle.alpha_set.specs.Worth.{AreWeighed}
use Rattle.closing.proofs.Kept.{nodes-weighed}
use Rattle.closing.proofs.bases.worth_at.Goals as goal

pub worth-worth-requires-clause-weighed : goal.worth-worth-requires-clause-weighed
worth-worth-requires-clause-weighed c =
    subst (AreWeighed c.args.nodes.now.members) (sym c.parts.ensures.parts) (nodes-weighed c.args.game.now c.args.nodes.now.members c.args.belief.now c.law_game.ensures.accepted c.requires (c.is_of_game.ensures c.if-is_of_game.true))
