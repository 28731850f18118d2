use Rattle.std.proofs.Common.{rules, ◌≡◌, [], ◌∷◌}
use Rattle.std.proofs.lemmas.Int.{to_z-of_z}
use Rattle.std.specs.Prelude.{pos, FitsSigned}
use Rattle.std.specs.Int.{w128}
use Rattle.controller.proofs.Places.{rules as rules_at}
use Rattle.closing.proofs.OneStarts.{node-better, node-fits}
use Rattle.closing.proofs.restarts.with_start_node.Goals as goal

pub concluded-requires-clause-fits : goal.concluded-requires-clause-fits
concluded-requires-clause-fits c =
    let range : FitsSigned w128 c.certificate.inside.multiple = search rules in
    let stands = rw (← c.certificate.view_is) at c.requires.stands in
    let node = rw (← c.certificate.view_is) at c.requires.node in
    let starts : c.in_ok-vec.field-0.items ≡ (c.args.number, pos 1) ∷ [] = c.in_ok-vec.ensures.items in
    simp (starts, to_z-of_z) (node-fits c.args.game.now _ c.args.number stands.fits node)

pub concluded-requires-clause-start : goal.concluded-requires-clause-start
concluded-requires-clause-start c =
    let range : FitsSigned w128 c.certificate.inside.multiple = search rules in
    let stands = rw (← c.certificate.view_is) at c.requires.stands in
    simp to_z-of_z (rules_at c.args.game.now _ stands.holds).start

pub returns : goal.returns
returns c =
    let range : FitsSigned w128 c.certificate.inside.multiple = search rules in
    let stands = rw (← c.certificate.view_is) at c.requires.stands in
    let node = rw (← c.certificate.view_is) at c.requires.node in
    let starts : c.in_ok-vec.field-0.items ≡ (c.args.number, pos 1) ∷ [] = c.in_ok-vec.ensures.items in
    let concluded = simp (starts, to_z-of_z) at c.concluded.ensures.concluded in
    rw (← c.certificate.view_is) (node-better c.args.game.now _ c.concluded.result c.args.number stands node c.concluded.ensures.fits concluded)
