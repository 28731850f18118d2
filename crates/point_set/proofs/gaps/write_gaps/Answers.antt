use Rattle.std.proofs.Common.{rules, arith, FitsSigned, ◌<◌, ◌≤◌, ℕ, ℤ, subst, sym, length, ◌∙◌}
use Rattle.std.specs.Int.{w128}
use Rattle.std.proofs.lemmas.Int.{to_z-of_z}
use Rattle.std.proofs.lemmas.List.{length-set}
use Rattle.point_set.specs.Corners.{point_at}
use Rattle.point_set.specs.Kept.{IsGap}
use Rattle.point_set.specs.Members.{data_of, point_data}
use Rattle.point_set.specs.Points.{PointData}
use Rattle.point_set.specs.declared.points.Point.{Point as PointParts}
use Rattle.point_set.proofs.KeptGaps.{next-gap, old-gap}
use Rattle.point_set.proofs.Named.{data-at}
use Rattle.point_set.proofs.gaps.write_gaps.Goals as goal

pub loop-i-preserved : goal.loop-i-preserved
loop-i-preserved c =
    let i : ℕ = c.loop-i.i in
    let gap : ℤ = c.gap_of.result in
    let gap_fits : FitsSigned w128 gap = search rules in
    let inside : i < length c.args.points.now = search (rules, arith) in
    let from : c.args.first ≤ i = search (rules, arith) in
    let place : i < length c.loop-i.gaps = omega (arith, inside, c.loop-i.invariant.places, c.requires.count) in
    let point : PointParts = c.index-points-i.result in
    let here : IsGap c.args.values.now (point_data point) gap = c.gap_of.ensures in
    let new : IsGap c.args.values.now (point_at (data_of c.args.points.now) i) gap = subst (λ (p : PointData). IsGap c.args.values.now p gap) (sym (data-at c.args.points.now i point inside c.index-points-i.is)) here in
    simp to_z-of_z (record {
      places = length-set c.loop-i.gaps i gap ∙ c.loop-i.invariant.places;
      before = λ j l. old-gap c.loop-i.gaps c.args.first i gap j l from ∙ c.loop-i.invariant.before j l;
      each = next-gap (data_of c.args.points.now) c.args.values.now c.loop-i.gaps c.args.first i gap c.loop-i.invariant.each place new;
    })
