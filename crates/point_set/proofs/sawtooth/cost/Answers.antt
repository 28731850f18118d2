use Rattle.std.proofs.Common.{rules, FitsSigned}
use Rattle.std.specs.Int.{w128}
use Rattle.std.proofs.lemmas.Int.{to_z-of_z}
use Rattle.scaled_num.specs.Share.{at}
use Rattle.point_set.proofs.PointBounds.{next-cost}
use Rattle.point_set.proofs.sawtooth.cost.Goals as goal

pub overflow_mul-sum : goal.overflow_mul-sum
overflow_mul-sum c =
    let n = next-cost c.args.weights.now c.args.values.now c.loop-s.s _ c.loop-s-test.true c.requires.small c.loop-s.invariant in
    let weight_fits : FitsSigned w128 (at c.args.weights.now c.loop-s.s) = search rules in
    let value_fits : FitsSigned w128 (at c.args.values.now c.loop-s.s) = search rules in
    simp to_z-of_z n.product_fits

pub overflow_add-sum : goal.overflow_add-sum
overflow_add-sum c =
    let n = next-cost c.args.weights.now c.args.values.now c.loop-s.s _ c.loop-s-test.true c.requires.small c.loop-s.invariant in
    let weight_fits : FitsSigned w128 (at c.args.weights.now c.loop-s.s) = search rules in
    let value_fits : FitsSigned w128 (at c.args.values.now c.loop-s.s) = search rules in
    let product_fits = n.product_fits in
    simp to_z-of_z n.sum_fits

pub loop-s-preserved : goal.loop-s-preserved
loop-s-preserved c =
    let n = next-cost c.args.weights.now c.args.values.now c.loop-s.s _ c.loop-s-test.true c.requires.small c.loop-s.invariant in
    let weight_fits : FitsSigned w128 (at c.args.weights.now c.loop-s.s) = search rules in
    let value_fits : FitsSigned w128 (at c.args.values.now c.loop-s.s) = search rules in
    let product_fits = n.product_fits in
    let sum_fits = n.sum_fits in
    simp to_z-of_z n.next
