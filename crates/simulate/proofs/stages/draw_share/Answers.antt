use Rattle.std.proofs.Common.{◌*◌, List, map, get_or, length, ap, arith, sym, subst, ◌∙◌}
use Rattle.std.specs.Prelude.{unsigned_abs}
use Rattle.std.specs.List.{AllByRecursion, sum}
use Rattle.game_model.specs.Game.{GameData}
use Rattle.game_model.specs.Branches.{branch_of}
use Rattle.game_model.specs.declared.branches.Branch.{Branch as BranchParts}
use Rattle.point_set.specs.Points.{PointData, no_point, points_of}
use Rattle.controller.specs.Certificates.{CertificateData}
use Rattle.controller.specs.Sums.{ArePoints}
use Rattle.simulate.specs.Choices.{IsLight}
use Rattle.simulate.proofs.Branches.{brought-small, shares-few, shares-light}
use Rattle.simulate.proofs.ShareDraws.{are-drawn, some-draws, some-point, zero-draws, zero-point}
use Rattle.simulate.proofs.stages.draw_share.Goals as goal

pub share_weights-requires-clause-points : goal.share_weights-requires-clause-points
share_weights-requires-clause-points c =
    let fits = c.requires.stands.fits in
    subst (λ (m : CertificateData). ArePoints c.args.game.now m.points) (sym c.certificate.view_is) (record { few = fits.most_points; each = fits.points })

pub share_weights-requires-clause-shares : goal.share_weights-requires-clause-shares
share_weights-requires-clause-shares c =
    subst (λ (m : CertificateData). AllByRecursion (λ (share : BranchParts). IsLight (length m.points) share.k share.weight) c.branches_after-shares.result.now) (sym c.certificate.view_is)
    (shares-light c.args.game.now c.args.certificate.now c.args.j c.args.played.now.own c.args.played.now.seen c.deref.result.now c.branches_after-shares.result.now c.requires.stands.fits c.requires.point
    (ap (map branch_of) c.deref.ensures.value ∙ ap (λ (p : PointData). p.splits) (c.point.ensures ∙ ap (λ (m : CertificateData). get_or m.points c.args.j no_point) c.certificate.view_is))
    c.branches_after-shares.ensures)

pub sum_of-requires : goal.sum_of-requires
sum_of-requires c =
    let g : GameData = c.args.game.now in
    let k : CertificateData = c.args.certificate.now in
    let shares : List BranchParts = c.branches_after-shares.result.now in
    let splits = ap (map branch_of) c.deref.ensures.value ∙ ap (λ (p : PointData). p.splits) (c.point.ensures ∙ ap (λ (m : CertificateData). get_or m.points c.args.j no_point) c.certificate.view_is) in
    let light = shares-light g k c.args.j c.args.played.now.own c.args.played.now.seen c.deref.result.now shares c.requires.stands.fits c.requires.point splits c.branches_after-shares.ensures in
    let few = shares-few g k c.args.j c.args.played.now.own c.args.played.now.seen c.deref.result.now shares c.requires.stands.fits c.requires.point splits c.branches_after-shares.ensures in
    let small = brought-small g k c.args.played.now.to shares c.requires.stands.fits c.requires.to few light in
    let is = ap sum (c.deref-2.ensures.value ∙ c.in_ok-weights.ensures
    ∙ ap (λ (m : CertificateData). map (λ (b : BranchParts). unsigned_abs b.weight * (points_of m.points b.k).belief c.args.played.now.to) shares) c.certificate.view_is) in
    omega (arith, is, small)

pub returns-then-sum_of-eq0-clause-point : goal.returns-then-sum_of-eq0-clause-point
returns-then-sum_of-eq0-clause-point c =
    let drawn = are-drawn c.args.certificate.now c.args.j c.args.played.now _ _ c.deref.result.now c.branches_after-shares.result.now c.deref-2.result.now
    (ap (λ (m : CertificateData). m.points) c.certificate.view_is) (ap (map branch_of) c.deref.ensures.value) c.point.ensures c.branches_after-shares.ensures (c.deref-2.ensures.value ∙ c.in_ok-weights.ensures) in
    let test = c.if-sum_of-eq0.true in
    let is = c.sum_of.ensures in
    zero-point c.args.certificate.now c.args.j c.args.played.now c.branches_after-shares.result.now c.deref-2.result.now c.args.draw.now drawn (omega (arith, test, is))

pub returns-then-sum_of-eq0-clause-moved : goal.returns-then-sum_of-eq0-clause-moved
returns-then-sum_of-eq0-clause-moved c =
    let drawn = are-drawn c.args.certificate.now c.args.j c.args.played.now _ _ c.deref.result.now c.branches_after-shares.result.now c.deref-2.result.now
    (ap (λ (m : CertificateData). m.points) c.certificate.view_is) (ap (map branch_of) c.deref.ensures.value) c.point.ensures c.branches_after-shares.ensures (c.deref-2.ensures.value ∙ c.in_ok-weights.ensures) in
    let test = c.if-sum_of-eq0.true in
    let is = c.sum_of.ensures in
    zero-draws c.args.certificate.now c.args.j c.args.played.now c.branches_after-shares.result.now c.deref-2.result.now c.args.draw.now drawn (omega (arith, test, is))

pub returns-clause-point : goal.returns-clause-point
returns-clause-point c =
    let weights = c.deref-3.ensures.value ∙ c.in_ok-weights.ensures in
    let drawn = are-drawn c.args.certificate.now c.args.j c.args.played.now _ _ c.deref.result.now c.branches_after-shares.result.now c.deref-3.result.now
    (ap (λ (m : CertificateData). m.points) c.certificate.view_is) (ap (map branch_of) c.deref.ensures.value) c.point.ensures c.branches_after-shares.ensures weights in
    let test = c.if-sum_of-eq0.false in
    let is = c.sum_of.ensures ∙ ap sum (c.deref-2.ensures.value ∙ sym c.deref-3.ensures.value) in
    some-point c.args.certificate.now c.args.j c.args.played.now c.branches_after-shares.result.now c.deref-3.result.now c.args.draw.now c.draw_place.result _ drawn
    (λ zero. absurd (omega (arith, test, is, zero))) c.draw_place.ensures.place c.draw_place.ensures.within

pub returns-clause-moved : goal.returns-clause-moved
returns-clause-moved c =
    let weights = c.deref-3.ensures.value ∙ c.in_ok-weights.ensures in
    let drawn = are-drawn c.args.certificate.now c.args.j c.args.played.now _ _ c.deref.result.now c.branches_after-shares.result.now c.deref-3.result.now
    (ap (λ (m : CertificateData). m.points) c.certificate.view_is) (ap (map branch_of) c.deref.ensures.value) c.point.ensures c.branches_after-shares.ensures weights in
    let test = c.if-sum_of-eq0.false in
    let is = c.sum_of.ensures ∙ ap sum (c.deref-2.ensures.value ∙ sym c.deref-3.ensures.value) in
    c.draw_place.ensures.moved
    ∙ some-draws c.args.certificate.now c.args.j c.args.played.now c.branches_after-shares.result.now c.deref-3.result.now c.args.draw.now drawn (λ zero. absurd (omega (arith, test, is, zero)))
