use Rattle.std.specs.Prelude.{FitsSigned}
use Rattle.std.specs.Int.{w128}
use Rattle.std.proofs.lemmas.Int.{to_z-of_z}
use Rattle.belief.proofs.Landings.{next-added}
use Rattle.belief.proofs.masses.add_landings.Goals as goal

pub overflow_mul-out : goal.overflow_mul-out
overflow_mul-out c =
    let f : FitsSigned w128 c.args.factor = c.ranges.factor in
    let before = simp to_z-of_z at c.loop-landing.invariant in
    let n = next-added c.args.landings.now c.loop-landing.landing-index c.args.out.now c.loop-landing.out c.args.factor c.loop-landing-test.true c.loop-landing.auto.out c.requires.landings.inside c.requires.landings.positive c.requires.landings.light c.requires.factor c.requires.room before in
    let a = n.weight_fits in
    simp to_z-of_z n.product_fits

pub overflow_add-out : goal.overflow_add-out
overflow_add-out c =
    let f : FitsSigned w128 c.args.factor = c.ranges.factor in
    let before = simp to_z-of_z at c.loop-landing.invariant in
    let n = next-added c.args.landings.now c.loop-landing.landing-index c.args.out.now c.loop-landing.out c.args.factor c.loop-landing-test.true c.loop-landing.auto.out c.requires.landings.inside c.requires.landings.positive c.requires.landings.light c.requires.factor c.requires.room before in
    let a = n.weight_fits in
    let b = n.entry_fits in
    let p = n.product_fits in
    simp to_z-of_z n.sum_fits

pub loop-landing-preserved : goal.loop-landing-preserved
loop-landing-preserved c =
    let f : FitsSigned w128 c.args.factor = c.ranges.factor in
    let before = simp to_z-of_z at c.loop-landing.invariant in
    let n = next-added c.args.landings.now c.loop-landing.landing-index c.args.out.now c.loop-landing.out c.args.factor c.loop-landing-test.true c.loop-landing.auto.out c.requires.landings.inside c.requires.landings.positive c.requires.landings.light c.requires.factor c.requires.room before in
    let a = n.weight_fits in
    let b = n.entry_fits in
    let p = n.product_fits in
    let s = n.sum_fits in
    simp to_z-of_z n.added
