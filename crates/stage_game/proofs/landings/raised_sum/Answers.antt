use Rattle.std.proofs.lemmas.Int.{to_z-of_z}
use Rattle.std.specs.Prelude.{FitsSigned, ◌*ℤ◌}
use Rattle.std.specs.Int.{w128}
use Rattle.std.proofs.Common.{◌∙◌, ap, List, to_z}
use Rattle.std.proofs.lemmas.List.{take_all}
use Rattle.scaled_num.specs.Share.{at}
use Rattle.scaled_num.specs.Sums.{total}
use Rattle.game_model.proofs.Expected.{SoFar}
use Rattle.game_model.specs.declared.parts.Landing.{Landing}
use Rattle.stage_game.proofs.RaisedSums.{raised, raised-next, raised-total}
use Rattle.stage_game.proofs.landings.raised_sum.Goals as goal

pub overflow_add-sum : goal.overflow_add-sum
overflow_add-sum c =
    let f : FitsSigned w128 c.args.raise = c.ranges.raise in
    let before = simp to_z-of_z at c.loop-landing.invariant in
    let n = raised-next c.args.landings.now c.args.vector.now c.args.raise c.loop-landing.landing-index _ c.loop-landing-test.true c.requires.landings c.requires.entries c.requires.raise before in
    let entry_fits = n.entry_fits in
    simp to_z-of_z n.raised_fits

pub overflow_mul-sum : goal.overflow_mul-sum
overflow_mul-sum c =
    let f : FitsSigned w128 c.args.raise = c.ranges.raise in
    let before = simp to_z-of_z at c.loop-landing.invariant in
    let n = raised-next c.args.landings.now c.args.vector.now c.args.raise c.loop-landing.landing-index _ c.loop-landing-test.true c.requires.landings c.requires.entries c.requires.raise before in
    let weight_fits = n.weight_fits in
    let entry_fits = n.entry_fits in
    let raised_fits = n.raised_fits in
    simp to_z-of_z n.product_fits

pub overflow_add-sum-in-loop-landing : goal.overflow_add-sum-in-loop-landing
overflow_add-sum-in-loop-landing c =
    let f : FitsSigned w128 c.args.raise = c.ranges.raise in
    let before = simp to_z-of_z at c.loop-landing.invariant in
    let n = raised-next c.args.landings.now c.args.vector.now c.args.raise c.loop-landing.landing-index _ c.loop-landing-test.true c.requires.landings c.requires.entries c.requires.raise before in
    let weight_fits = n.weight_fits in
    let entry_fits = n.entry_fits in
    let raised_fits = n.raised_fits in
    let product_fits = n.product_fits in
    simp to_z-of_z n.sum_fits

pub loop-landing-preserved : goal.loop-landing-preserved
loop-landing-preserved c =
    let f : FitsSigned w128 c.args.raise = c.ranges.raise in
    let before = simp to_z-of_z at c.loop-landing.invariant in
    let n = raised-next c.args.landings.now c.args.vector.now c.args.raise c.loop-landing.landing-index _ c.loop-landing-test.true c.requires.landings c.requires.entries c.requires.raise before in
    let weight_fits = n.weight_fits in
    let entry_fits = n.entry_fits in
    let raised_fits = n.raised_fits in
    let product_fits = n.product_fits in
    let sum_fits = n.sum_fits in
    simp to_z-of_z n.so_far

pub returns : goal.returns
returns c =
    let f : FitsSigned w128 c.args.raise = c.ranges.raise in
    let before : SoFar c.args.landings.now (raised c.args.raise c.args.vector.now) c.loop-landing.landing-index (to_z w128 c.loop-landing.sum-bits) = simp to_z-of_z at c.loop-landing.invariant in
    before.is
    ∙ ap (λ (ls : List Landing). total (λ (l : Landing). l.weight *ℤ at (raised c.args.raise c.args.vector.now) l.to) ls) (take_all c.loop-landing.landing-index c.args.landings.now c.loop-landing-test.false)
    ∙ raised-total c.args.landings.now c.args.vector.now c.args.raise c.requires.landings.inside
