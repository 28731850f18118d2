use Rattle.std.proofs.Common.{rules, ◌+◌, ◌<◌, ◌^◌, FitsSigned, sym, subst, ℤ}
use Rattle.std.specs.Int.{w128}
use Rattle.scaled_num.specs.Share.{at}
use Rattle.point_set.proofs.KeptGaps.{wrap-next}
use Rattle.point_set.proofs.PointBounds.{CostSoFar, next-cost}
use Rattle.point_set.proofs.gaps.wrapping_cost.Goals as goal

pub loop-s-preserved : goal.loop-s-preserved
loop-s-preserved c small =
    let n = next-cost c.args.weights.now c.args.values.now c.loop-s.s _ c.loop-s-test.true small (c.loop-s.invariant small) in
    let weight_fits : FitsSigned w128 (at c.args.weights.now c.loop-s.s) = search rules in
    let value_fits : FitsSigned w128 (at c.args.values.now c.loop-s.s) = search rules in
    let bits_fit : c.loop-s.sum-bits < 2 ^ 128 = search rules in
    subst (λ (z : ℤ). CostSoFar c.args.weights.now c.args.values.now (c.loop-s.s + 1) z)
    (sym (wrap-next c.loop-s.sum-bits (at c.args.weights.now c.loop-s.s) (at c.args.values.now c.loop-s.s) bits_fit weight_fits value_fits n.product_fits n.sum_fits)) n.next
