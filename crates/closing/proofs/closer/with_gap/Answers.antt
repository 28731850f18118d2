use Rattle.std.proofs.Common.{rules}
use Rattle.std.proofs.lemmas.Int.{to_z-of_z}
use Rattle.std.specs.Prelude.{FitsSigned}
use Rattle.std.specs.Int.{w128}
use Rattle.controller.specs.Data.{fraction_data}
use Rattle.controller.proofs.Places.{rules as rules_at}
use Rattle.closing.proofs.BetterMembers.{gap-better, gap-same}
use Rattle.closing.proofs.closer.with_gap.Goals as goal

pub concluded-requires-clause-start : goal.concluded-requires-clause-start
concluded-requires-clause-start c =
    let range : FitsSigned w128 c.certificate.inside.multiple = search rules in
    let stands = rw (← c.certificate.view_is) at c.requires.stands in
    simp to_z-of_z (rules_at c.args.game.now _ stands.holds).start

pub returns-clause-same : goal.returns-clause-same
returns-clause-same c =
    let range : FitsSigned w128 c.certificate.inside.multiple = search rules in
    let stands = rw (← c.certificate.view_is) at c.requires.stands in
    let concluded = simp to_z-of_z at c.concluded.ensures.concluded in
    rw (← c.certificate.view_is) (gap-same c.args.game.now _ (fraction_data c.args.gap.now) c.concluded.result stands concluded)

pub returns-clause-better : goal.returns-clause-better
returns-clause-better c =
    let range : FitsSigned w128 c.certificate.inside.multiple = search rules in
    let stands = rw (← c.certificate.view_is) at c.requires.stands in
    let concluded = simp to_z-of_z at c.concluded.ensures.concluded in
    rw (← c.certificate.view_is) (gap-better c.args.game.now _ (fraction_data c.args.gap.now) c.concluded.result stands c.concluded.ensures.fits concluded)
