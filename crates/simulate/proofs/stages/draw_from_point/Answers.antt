use Rattle.std.proofs.Common.{get_or, length, ap, arith, ◌∙◌}
use Rattle.std.specs.List.{sum}
use Rattle.std.proofs.lemmas.List.FromFn.{length-map-range_with_len}
use Rattle.game_model.specs.Game.{GameData}
use Rattle.point_set.specs.Points.{no_point, points_of}
use Rattle.controller.specs.Certificates.{CertificateData}
use Rattle.simulate.specs.Choices.{place_drawn}
use Rattle.simulate.proofs.Mixed.{point-total, point-weights}
use Rattle.simulate.proofs.stages.draw_from_point.Goals as goal

pub draw_place-requires-clause-some : goal.draw_place-requires-clause-some
draw_place-requires-clause-some c =
    let g : GameData = c.args.game.now in
    let k = c.args.certificate.now in
    let weights = c.deref.ensures.value ∙ c.in_ok-weights.ensures ∙ point-weights g k c.args.j c.args.s _ c.requires.stands.fits c.requires.point (c.point.ensures ∙ ap (λ (m : CertificateData). get_or m.points c.args.j no_point) c.certificate.view_is) in
    let total = ap sum weights ∙ point-total g k c.args.j c.args.s c.requires.stands.fits c.requires.point c.requires.state in
    omega (arith, total)

pub draw_place-requires-clause-most : goal.draw_place-requires-clause-most
draw_place-requires-clause-most c =
    let g : GameData = c.args.game.now in
    let k = c.args.certificate.now in
    let weights = c.deref.ensures.value ∙ c.in_ok-weights.ensures ∙ point-weights g k c.args.j c.args.s _ c.requires.stands.fits c.requires.point (c.point.ensures ∙ ap (λ (m : CertificateData). get_or m.points c.args.j no_point) c.certificate.view_is) in
    let total = ap sum weights ∙ point-total g k c.args.j c.args.s c.requires.stands.fits c.requires.point c.requires.state in
    omega (arith, total)

pub overflow_cast-result : goal.overflow_cast-result
overflow_cast-result c =
    let g : GameData = c.args.game.now in
    let k = c.args.certificate.now in
    let weights = c.deref.ensures.value ∙ c.in_ok-weights.ensures ∙ point-weights g k c.args.j c.args.s _ c.requires.stands.fits c.requires.point (c.point.ensures ∙ ap (λ (m : CertificateData). get_or m.points c.args.j no_point) c.certificate.view_is) in
    let few = c.law_game.ensures.accepted.shape.informed_actions.1 in
    let inside = c.draw_place.ensures.within in
    omega (arith, inside, few, ap length weights ∙ length-map-range_with_len ((points_of k.points c.args.j).mixes c.args.s) 0 g.shape.informed_actions)

pub returns-clause-informed : goal.returns-clause-informed
returns-clause-informed c =
    let g : GameData = c.args.game.now in
    let k = c.args.certificate.now in
    let weights = c.deref.ensures.value ∙ c.in_ok-weights.ensures ∙ point-weights g k c.args.j c.args.s _ c.requires.stands.fits c.requires.point (c.point.ensures ∙ ap (λ (m : CertificateData). get_or m.points c.args.j no_point) c.certificate.view_is) in
    c.draw_place.ensures.place ∙ ap (place_drawn c.args.draw.now) weights
