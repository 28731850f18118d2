use Rattle.std.proofs.Common.{rules, arith, length, ◌<◌, FitsSigned, ap, ℕ, to_z}
use Rattle.std.specs.Int.{w128}
use Rattle.std.proofs.lemmas.Int.{to_z-of_z}
use Rattle.scaled_num.specs.Share.{IsFloor, at}
use Rattle.point_set.proofs.MostTimes.{first-times, next-times, no-times}
use Rattle.point_set.proofs.times.most_times.Goals as goal

pub loop-s-init : goal.loop-s-init
loop-s-init c =
    let first : ℕ = c.first_weight-first.result in
    let fits : FitsSigned w128 c.quotient-times.result = search rules in
    let part_fits : FitsSigned w128 (at c.args.mass.now first) = search rules in
    let weight_fits : FitsSigned w128 (at c.args.belief.now first) = search rules in
    let inside : first < length c.args.mass.now = omega (arith, c.requires.belief.long, c.first_weight-first.ensures.inside) in
    let e = c.first_weight-first.ensures in
    let floor : IsFloor c.quotient-times.result (at c.args.mass.now first) (at c.args.belief.now first) = simp to_z-of_z at c.quotient-times.ensures in
    simp to_z-of_z (first-times c.args.mass.now c.args.belief.now first c.quotient-times.result c.requires.mass c.requires.small inside e.weight e.before floor)

pub returns-then-times-eq0 : goal.returns-then-times-eq0
returns-then-times-eq0 c =
    no-times c.args.mass.now c.args.belief.now c.loop-s.s _ c.requires.mass (ap (to_z w128) c.if-times-eq0.true) c.loop-s.invariant

pub loop-s-preserved : goal.loop-s-preserved
loop-s-preserved c =
    let s : ℕ = c.loop-s.s in
    let fits : FitsSigned w128 c.lowered-times.result = search rules in
    let part_fits : FitsSigned w128 (at c.args.mass.now s) = search rules in
    let weight_fits : FitsSigned w128 (at c.args.belief.now s) = search rules in
    let inside : s < length c.args.mass.now = search (rules, arith) in
    let e = simp to_z-of_z at c.lowered-times.ensures in
    simp to_z-of_z (next-times c.args.mass.now c.args.belief.now s _ c.lowered-times.result c.requires.belief.each inside c.requires.belief.long c.loop-s.invariant e.low e.high e.fits e.most)
