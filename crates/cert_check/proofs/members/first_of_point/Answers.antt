use Rattle.std.proofs.Common.{◌≡◌, ◌<◌, ◌++◌, ap, arith, refl, true}
use Rattle.std.specs.List.{AllByRecursion}
use Rattle.scaled_num.proofs.Sums.{each-append}
use Rattle.game_model.specs.Game.{GameData}
use Rattle.controller.specs.Certificates.{CertificateData, CornerAt, Holds, corner_places, split_places, value_places}
use Rattle.scaled_num.proofs.First.{first-left, first-right}
use Rattle.point_set.specs.declared.stands.PointFault.TheVariants.{Split, Value}
use Rattle.cert_check.proofs.Fits.{points-in-sets, shares-named}
use Rattle.cert_check.proofs.Order.{corner-fails, corner-none, point-fails, point-stands}
use Rattle.cert_check.proofs.members.first_of_point.Goals as goal
use Rattle.cert_check.proofs.members.first_of_point.Goals.{else-j-states-via-then-j-states+else-not-is_corner, else-j-states-via-else-j-states}

pub returns-then-not-is_corner-clause-first : goal.returns-then-not-is_corner-clause-first
returns-then-not-is_corner-clause-first c =
    let k : CertificateData = c.args.certificate.now in
    let g : GameData = c.args.game.now in
    let inside : c.args.j < g.shape.states = omega (arith, c.states.ensures) in
    first-left (Holds g k) (corner_places g c.args.j) (split_places g c.args.j ++ value_places g c.args.j) (CornerAt c.args.j)
    (corner-fails g k c.args.j inside (λ h. let yes : c.is_corner.result ≡ true = c.is_corner.ensures.1 h in cc))

pub stands-requires-clause-fits : goal.stands-requires-clause-fits
stands-requires-clause-fits c =
    let k : CertificateData = c.args.certificate.now in
    let same : c.certificate.inside.points.members ≡ k.points = ap (λ (k : CertificateData). k.points) c.certificate.view_is in
    rw same (points-in-sets c.args.game.now k c.requires.fits)

pub stands-requires-clause-named : goal.stands-requires-clause-named
stands-requires-clause-named c =
    let k : CertificateData = c.args.certificate.now in
    let same : c.certificate.inside.points.members ≡ k.points = ap (λ (k : CertificateData). k.points) c.certificate.view_is in
    rw same (shares-named c.args.game.now k c.requires.fits c.args.j c.requires.member)

pub returns-in-None-clause-none : goal.returns-in-None-clause-none
returns-in-None-clause-none c = λ none.
    let k : CertificateData = c.args.certificate.now in
    let g : GameData = c.args.game.now in
    let corner : AllByRecursion (Holds g k) (corner_places g c.args.j) =
    corner-none g k c.args.j (λ l. elim c.else-j-states.branch [
      | else-j-states-via-then-j-states+else-not-is_corner w ↦ w.is_corner.ensures.0 w.if-not-is_corner.false
      | else-j-states-via-else-j-states w ↦ absurd (omega (arith, w.if-j-states.false, c.states.ensures))
    ]) in
    let same : c.certificate.inside.points.members ≡ k.points = ap (λ (k : CertificateData). k.points) c.certificate.view_is in
    let stand = rw same at c.in-None.ensures.none in
    each-append (Holds g k) (corner_places g c.args.j) (split_places g c.args.j ++ value_places g c.args.j) corner (point-stands g k c.args.j (stand.0 refl))

pub returns-in-Some-Split-clause-first : goal.returns-in-Some-Split-clause-first
returns-in-Some-Split-clause-first c =
    let k : CertificateData = c.args.certificate.now in
    let g : GameData = c.args.game.now in
    let corner : AllByRecursion (Holds g k) (corner_places g c.args.j) =
    corner-none g k c.args.j (λ l. elim c.else-j-states.branch [
      | else-j-states-via-then-j-states+else-not-is_corner w ↦ w.is_corner.ensures.0 w.if-not-is_corner.false
      | else-j-states-via-else-j-states w ↦ absurd (omega (arith, w.if-j-states.false, c.states.ensures))
    ]) in
    let same : c.certificate.inside.points.members ≡ k.points = ap (λ (k : CertificateData). k.points) c.certificate.view_is in
    let h = rw (c.in-Some-Split.field-0-is, same) at c.in-Some-Split.ensures.first in
    first-right (Holds g k) (corner_places g c.args.j) (split_places g c.args.j ++ value_places g c.args.j) _ corner (point-fails g k c.args.j (Split c.in-Some-Split.a c.in-Some-Split.o c.in-Some-Split.s) h)

pub returns-in-Some-Value-clause-first : goal.returns-in-Some-Value-clause-first
returns-in-Some-Value-clause-first c =
    let k : CertificateData = c.args.certificate.now in
    let g : GameData = c.args.game.now in
    let corner : AllByRecursion (Holds g k) (corner_places g c.args.j) =
    corner-none g k c.args.j (λ l. elim c.else-j-states.branch [
      | else-j-states-via-then-j-states+else-not-is_corner w ↦ w.is_corner.ensures.0 w.if-not-is_corner.false
      | else-j-states-via-else-j-states w ↦ absurd (omega (arith, w.if-j-states.false, c.states.ensures))
    ]) in
    let same : c.certificate.inside.points.members ≡ k.points = ap (λ (k : CertificateData). k.points) c.certificate.view_is in
    let h = rw (c.in-Some-Value.field-0-is, same) at c.in-Some-Value.ensures.first in
    first-right (Holds g k) (corner_places g c.args.j) (split_places g c.args.j ++ value_places g c.args.j) _ corner (point-fails g k c.args.j (Value c.in-Some-Value.a) h)
