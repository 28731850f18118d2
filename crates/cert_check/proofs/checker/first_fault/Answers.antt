use Rattle.std.proofs.Common.{List, [], ◌∷◌, ◌++◌, flat_map, length, refl}
use Rattle.scaled_num.specs.Sums.{below}
use Rattle.game_model.specs.Game.{GameData}
use Rattle.controller.specs.Certificates.{BoundAt, CertificateData, Holds, OutcomeAt, Place, StartAt, node_places, point_places, places}
use Rattle.scaled_num.specs.First.{FirstIn}
use Rattle.cert_check.specs.Verdicts.{place_of}
use Rattle.cert_check.specs.declared.verdicts.Reason.{Reason}
use Rattle.scaled_num.proofs.First.{first-left, first-right, if-some}
use Rattle.cert_check.proofs.checker.first_fault.Goals as goal

abbrev ends : List Place
ends = StartAt ∷ BoundAt ∷ OutcomeAt ∷ []

abbrev points : GameData → CertificateData → List Place
points g k = flat_map (point_places g) (below (length k.points))

pub returns-in-Some-first_point-clause-first : goal.returns-in-Some-first_point-clause-first
returns-in-Some-first_point-clause-first c =
    let g : GameData = c.args.game.now in
    let k : CertificateData = c.args.certificate.now in
    first-right (Holds g k) (node_places g k) (points g k ++ ends) (place_of c.in-Some-first_point.reason) (c.in_default.ensures.none refl)
    (first-left (Holds g k) (points g k) ends (place_of c.in-Some-first_point.reason) c.in-Some-first_point.ensures.first)

pub returns-clause-first : goal.returns-clause-first
returns-clause-first c =
    let g : GameData = c.args.game.now in
    let k : CertificateData = c.args.certificate.now in
    if-some (λ (reason : Reason). FirstIn (Holds g k) ends (place_of reason)) (λ (reason : Reason). FirstIn (Holds g k) (places g k) (place_of reason)) c.first_end.result
    (λ reason f. first-right (Holds g k) (node_places g k) (points g k ++ ends) (place_of reason) (c.in_default.ensures.none refl)
    (first-right (Holds g k) (points g k) ends (place_of reason) (c.in_default-first_point.ensures.none refl) f)) c.first_end.ensures.first
