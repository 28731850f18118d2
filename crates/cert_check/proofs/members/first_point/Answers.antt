use Rattle.std.proofs.Common.{◌≡◌, ℕ, ◌<◌, ap, arith, below_more, length, refl}
use Rattle.std.specs.List.{AllByRecursion}
use Rattle.game_model.specs.Game.{GameData}
use Rattle.controller.specs.Certificates.{CertificateData, Holds, point_places}
use Rattle.cert_check.specs.Verdicts.{place_of}
use Rattle.scaled_num.proofs.First.{all-flat, first-flat}
use Rattle.cert_check.proofs.members.first_point.Goals as goal

pub returns-in-Some-clause-first : goal.returns-in-Some-clause-first
returns-in-Some-clause-first c =
    let k : CertificateData = c.args.certificate.now in
    let g : GameData = c.args.game.now in
    let same : c.certificate.inside.points.members ≡ k.points = ap (λ (k : CertificateData). k.points) c.certificate.view_is in
    let inside : c.loop-j.j < length k.points = omega (arith, ap length same, c.len-j-end.ensures.count) in
    first-flat (Holds g k) (point_places g) (length k.points) c.loop-j.j (place_of c.in-Some.reason) inside c.loop-j.invariant c.in-Some.ensures.first

pub loop-j-preserved : goal.loop-j-preserved
loop-j-preserved c =
    let k : CertificateData = c.args.certificate.now in
    let g : GameData = c.args.game.now in
    below_more (λ (m : ℕ). AllByRecursion (Holds g k) (point_places g m)) c.loop-j.j c.loop-j.invariant (c.in_default.ensures.none refl)

pub returns-clause-none : goal.returns-clause-none
returns-clause-none c = λ none.
    let k : CertificateData = c.args.certificate.now in
    let g : GameData = c.args.game.now in
    let same : c.certificate.inside.points.members ≡ k.points = ap (λ (k : CertificateData). k.points) c.certificate.view_is in
    all-flat (Holds g k) (point_places g) (length k.points) (λ m lm. c.loop-j.invariant m (omega (arith, ap length same, c.len-j-end.ensures.count)))
