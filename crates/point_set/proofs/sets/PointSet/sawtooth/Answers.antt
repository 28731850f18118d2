use Rattle.std.proofs.Common.{rules, FitsSigned, List, ℤ}
use Rattle.std.specs.Int.{w128}
use Rattle.std.proofs.lemmas.Int.{to_z-of_z}
use Rattle.game_model.specs.Spans.{IsWithinSpan}
use Rattle.point_set.specs.Points.{PointData}
use Rattle.point_set.specs.Sawtooth.{AreMeasured, IsSawtooth}
use Rattle.point_set.proofs.Spanned.{sawtooth-spanned}
use Rattle.point_set.proofs.sets.PointSet.sawtooth.Goals as goal

pub returns-clause-bounded : goal.returns-clause-bounded
returns-clause-bounded c =
    let points : List PointData = c.args.self.now.members in
    let mass : List ℤ = c.args.mass.now in
    let value : ℤ = c.least_bound.result.value in
    let fits : FitsSigned w128 value = search rules in
    let h : IsSawtooth points mass value = search rules in
    let bounded : (m : AreMeasured points mass) → IsWithinSpan m.game mass value = λ m. sawtooth-spanned points mass value h m in
    simp to_z-of_z bounded
