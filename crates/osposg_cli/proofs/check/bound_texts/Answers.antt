use Rattle.osposg_cli.proofs.Bounds.{lower-small, tail-small, upper-small}
use Rattle.osposg_cli.proofs.check.bound_texts.Goals as goal

pub decimals_down-requires : goal.decimals_down-requires
decimals_down-requires c = rw (← c.certificate.view_is) at (lower-small c.args.game.now c.args.certificate.now c.law_game.ensures.accepted c.requires)

pub decimals_up-requires : goal.decimals_up-requires
decimals_up-requires c = rw (← c.certificate.view_is) at (upper-small c.args.game.now c.args.certificate.now c.law_game.ensures.accepted c.requires)

pub decimals_up-requires-2 : goal.decimals_up-requires-2
decimals_up-requires-2 c = rw (← c.certificate.view_is) at (tail-small c.args.game.now c.args.certificate.now c.law_game.ensures.accepted c.requires)
