use Rattle.std.proofs.Common.{rules}
use mir.Syntax.{w128}
use mir.Val.{SFits}
use Rattle.std.proofs.lemmas.Int.{to_z-of_z}
use Rattle.cert_text.proofs.Whole.{limits_kept}
use Rattle.cert_text.proofs.texts.limits.Goals as goal

pub returns-clause-kept : goal.returns-clause-kept
returns-clause-kept c =
    let fits : SFits w128 c.span.result = search rules in
    rw (to_z-of_z w128 c.span.result fits, c.states.ensures, c.own_actions.ensures, c.informed_actions.ensures, c.observations.ensures, c.span.ensures) (limits_kept c.args.game.now c.law_game.ensures.accepted)
