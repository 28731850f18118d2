use Rattle.std.proofs.Common.{rules, ◌≡◌, ap, ◌∙◌}
use Rattle.std.specs.Prelude.{FitsSigned}
use Rattle.std.specs.Int.{w128}
use Rattle.std.proofs.lemmas.Int.{to_z-of_z}
use Rattle.point_set.specs.Corners.{point_at}
use Rattle.point_set.specs.Points.{PointData}
use Rattle.closing.proofs.OneStarts.{not-most, start-point, value-times}
use Rattle.closing.proofs.restarts.better_point.Goals as goal

pub overflow_mul-point : goal.overflow_mul-point
overflow_mul-point c =
    let stands = rw (← c.certificate.view_is) at c.requires.stands in
    let value : c.point.result.now.value ≡ (point_at c.certificate.inside.points.members c.in_ok-number.number).value = ap (λ (x : PointData). x.value) c.point.ensures in
    let times = value-times c.args.game.now _ c.in_ok-number.number c.law_game.ensures.accepted stands.fits c.in_ok-number.ensures.0 (c.in_ok-number.ensures.1 ∙ c.first_of.ensures) in
    let first = times.first in
    let second = times.second in
    simp (value, to_z-of_z) times.product

pub returns : goal.returns
returns c =
    let stands = rw (← c.certificate.view_is) at c.requires.stands in
    let value : c.point.result.now.value ≡ (point_at c.certificate.inside.points.members c.in_ok-number.number).value = ap (λ (x : PointData). x.value) c.point.ensures in
    let times = value-times c.args.game.now _ c.in_ok-number.number c.law_game.ensures.accepted stands.fits c.in_ok-number.ensures.0 (c.in_ok-number.ensures.1 ∙ c.first_of.ensures) in
    let first = times.first in
    let second = times.second in
    let product = times.product in
    let num : FitsSigned w128 c.certificate.inside.upper.num = search rules in
    let told = simp (value, to_z-of_z) at c.if-certificate-point.false in
    rw (← c.certificate.view_is)
    (start-point c.args.game.now _ c.in_ok-number.number stands c.in_ok-number.ensures.0 (c.in_ok-number.ensures.1 ∙ c.first_of.ensures) (not-most _ _ told))
