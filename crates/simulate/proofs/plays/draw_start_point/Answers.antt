use Rattle.std.proofs.Common.{◌≡◌, ℕ, ◌*◌, List, map, length, Some, ap, arith, sym, subst, ◌∙◌}
use Rattle.std.specs.Prelude.{ℤ, unsigned_abs}
use Rattle.std.specs.List.{AllByRecursion, sum}
use Rattle.std.proofs.lemmas.List.{length-map}
use Rattle.std.proofs.lemmas.List.Sums.{sum-map}
use Rattle.hsvi_draw.specs.Draws.{after_draws}
use Rattle.hsvi_draw.proofs.Positions.{after_draws-zero}
use Rattle.point_set.specs.Points.{points_of}
use Rattle.controller.specs.Certificates.{CertificateData}
use Rattle.controller.specs.Sums.{ArePoints}
use Rattle.simulate.specs.Choices.{IsLight}
use Rattle.simulate.specs.Plays.{member_drawn, over_weights, point_draws, start_point}
use Rattle.simulate.specs.declared.parts.Rival.{Rival}
use Rattle.simulate.proofs.Begun.{over-small, over-some, starts-light}
use Rattle.simulate.proofs.plays.draw_start_point.Goals as goal

pub over_weights-requires-clause-points : goal.over_weights-requires-clause-points
over_weights-requires-clause-points c =
    let fits = c.requires.stands.fits in
    subst (λ (m : CertificateData). ArePoints c.args.game.now m.points) (sym c.certificate.view_is) (record { few = fits.most_points; each = fits.points })

pub over_weights-requires-clause-starts : goal.over_weights-requires-clause-starts
over_weights-requires-clause-starts c =
    subst (AllByRecursion (λ (start : ℕ × ℤ). IsLight (length c.certificate.inside.points.members) start.0 start.1)) (sym c.deref.ensures.value)
    (subst (λ (m : CertificateData). AllByRecursion (λ (start : ℕ × ℤ). IsLight (length m.points) start.0 start.1) m.start_points) (sym c.certificate.view_is)
    (starts-light c.args.game.now c.args.certificate.now c.requires.stands.fits))

-- what is drawn over
weights-are : (c : goal.After-deref-in-Points-2) → c.deref-in-Points-2.result.now ≡ over_weights c.args.certificate.now c.args.state
weights-are c =
    c.deref-in-Points-2.ensures.value ∙ c.in_ok-weights-in-Points.ensures
    ∙ ap (λ (starts : List (ℕ × ℤ)). map (λ (start : ℕ × ℤ). unsigned_abs start.1 * (points_of c.certificate.inside.points.members start.0).belief c.args.state) starts) c.deref.ensures.value
    ∙ ap (λ (m : CertificateData). over_weights m c.args.state) c.certificate.view_is

pub draw_member-requires-clause-same : goal.draw_member-requires-clause-same
draw_member-requires-clause-same c =
    ap length (c.deref-in-Points-2.ensures.value ∙ c.in_ok-weights-in-Points.ensures)
    ∙ length-map c.deref.result.now (λ (start : ℕ × ℤ). unsigned_abs start.1 * (points_of c.certificate.inside.points.members start.0).belief c.args.state)
    ∙ ap length (c.deref.ensures.value ∙ sym c.deref-in-Points.ensures.value)

pub draw_member-requires-clause-some : goal.draw_member-requires-clause-some
draw_member-requires-clause-some c =
    let k : CertificateData = c.args.certificate.now in
    let some = over-some c.args.game.now k c.args.state c.requires.stands c.requires.state c.requires.weight in
    omega (arith, some, ap sum (weights-are c), sum-map (λ (start : ℕ × ℤ). unsigned_abs start.1 * (points_of k.points start.0).belief c.args.state) k.start_points)

pub draw_member-requires-clause-most : goal.draw_member-requires-clause-most
draw_member-requires-clause-most c =
    let most = over-small c.args.game.now c.args.certificate.now c.args.state c.law_game.ensures.accepted c.requires.stands c.requires.state in
    omega (arith, most, ap sum (weights-are c))

pub returns-in-Uniform-clause-moved : goal.returns-in-Uniform-clause-moved
returns-in-Uniform-clause-moved c =
    sym (ap (λ (r : Rival). after_draws (point_draws c.args.certificate.now r) c.args.draw.now) c.in-Uniform.is ∙ after_draws-zero c.args.draw.now)

pub returns-in_ok-weights-in-Points-clause-point : goal.returns-in_ok-weights-in-Points-clause-point
returns-in_ok-weights-in-Points-clause-point c =
    let k : CertificateData = c.args.certificate.now in
    let weights = c.deref-in-Points-2.ensures.value ∙ c.in_ok-weights-in-Points.ensures
    ∙ ap (λ (starts : List (ℕ × ℤ)). map (λ (start : ℕ × ℤ). unsigned_abs start.1 * (points_of c.certificate.inside.points.members start.0).belief c.args.state) starts) c.deref.ensures.value
    ∙ ap (λ (m : CertificateData). over_weights m c.args.state) c.certificate.view_is in
    let starts = c.deref-in-Points.ensures.value ∙ ap (λ (m : CertificateData). m.start_points) c.certificate.view_is in
    ap Some (c.draw_member.ensures.member ∙ ap (λ (xs : List (ℕ × ℤ)). member_drawn xs c.deref-in-Points-2.result.now c.args.draw.now) starts
    ∙ ap (λ (ws : List ℕ). member_drawn k.start_points ws c.args.draw.now) weights)
    ∙ sym (ap (λ (r : Rival). start_point k r c.args.state c.args.draw.now) c.in-Points.is)
