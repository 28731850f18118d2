use Rattle.std.proofs.Common.{◌≡◌, [], ◌∷◌}
use Rattle.std.specs.Prelude.{pos}
use Rattle.closing.proofs.OneStarts.{point-better, point-fits}
use Rattle.closing.proofs.restarts.with_start_point.Goals as goal

pub concluded-requires-clause-fits : goal.concluded-requires-clause-fits
concluded-requires-clause-fits c =
    let stands = rw (← c.certificate.view_is) at c.requires.stands in
    let point = rw (← c.certificate.view_is) at c.requires.point in
    let starts : c.in_ok-vec.field-0.items ≡ (c.args.number, pos 1) ∷ [] = c.in_ok-vec.ensures.items in
    simp starts (point-fits c.args.game.now _ c.args.number stands.fits point)

pub returns : goal.returns
returns c =
    let stands = rw (← c.certificate.view_is) at c.requires.stands in
    let point = rw (← c.certificate.view_is) at c.requires.point in
    let starts : c.in_ok-vec.field-0.items ≡ (c.args.number, pos 1) ∷ [] = c.in_ok-vec.ensures.items in
    let concluded = simp starts at c.concluded.ensures.concluded in
    rw (← c.certificate.view_is) (point-better c.args.game.now _ c.concluded.result c.args.number stands point c.concluded.ensures.fits concluded)
