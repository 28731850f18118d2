use Rattle.std.proofs.Common.{ap, rules, subst, sym, List}
use Rattle.std.specs.Int.Signed.{lt_z}
use Rattle.std.specs.Prelude.{ℤ, FitsSigned, IsTrue, ◌↔◌}
use Rattle.point_set.specs.Points.{PointData}
use Rattle.hsvi_trial.specs.Due.{IsPointDue}
use Rattle.std.specs.Int.{w128}
use Rattle.std.proofs.lemmas.Int.{to_z-of_z}
use Rattle.point_set.specs.Members.{point_data}
use Rattle.point_set.specs.Sawtooth.{IsSawtooth}
use Rattle.hsvi_trial.proofs.DueTests.{point-due-alone, point-due-there}
use Rattle.hsvi_trial.proofs.keeping.is_point_due.Goals as goal

pub returns-in-Some : goal.returns-in-Some
returns-in-Some c =
    let value_fits : FitsSigned w128 c.args.point.now.value = search rules in
    let least_fits : FitsSigned w128 c.point.result.now.value = search rules in
    let due = point-due-there c.args.points.now.members c.args.belief.now (point_data c.args.point.now) c.in-Some.least c.in-Some.ensures in
    simp to_z-of_z (subst (λ (z : ℤ). IsTrue (lt_z c.args.point.now.value z) ↔ IsPointDue c.args.points.now.members c.args.belief.now (point_data c.args.point.now)) (sym (ap (λ (p : PointData). p.value) c.point.ensures)) due)

pub returns-in-None : goal.returns-in-None
returns-in-None c =
    let value_fits : FitsSigned w128 c.args.point.now.value = search rules in
    let high_fits : FitsSigned w128 c.sawtooth.result = search rules in
    simp to_z-of_z
    (point-due-alone c.args.points.now.members c.args.belief.now (point_data c.args.point.now) c.sawtooth.result c.in-None.ensures
    (subst (λ (b : List ℤ). IsSawtooth c.args.points.now.members b c.sawtooth.result) c.parts.ensures.parts c.sawtooth.ensures.sawtooth))
