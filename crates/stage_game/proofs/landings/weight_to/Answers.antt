use Rattle.std.proofs.Common.{◌∙◌}
use Rattle.std.proofs.lemmas.Int.{to_z-of_z}
use Rattle.stage_game.proofs.WeightsTo.{weight-next}
use Rattle.stage_game.proofs.landings.weight_to.Goals.{then-landing-t, else-landing-t}
use Rattle.stage_game.proofs.landings.weight_to.Goals as goal

pub overflow_add-sum : goal.overflow_add-sum
overflow_add-sum c =
    let n = weight-next 16 c.args.landings.now c.loop-landing.landing-index c.args.t _ c.loop-landing-test.true c.requires c.loop-landing.invariant in
    let weight_fits = n.weight_fits in
    let so_far_fits = n.so_far_fits in
    simp to_z-of_z n.sum_fits

pub loop-landing-preserved : goal.loop-landing-preserved
loop-landing-preserved c =
    let n = weight-next 16 c.args.landings.now c.loop-landing.landing-index c.args.t _ c.loop-landing-test.true c.requires c.loop-landing.invariant in
    let weight_fits = n.weight_fits in
    let so_far_fits = n.so_far_fits in
    let sum_fits = n.sum_fits in
    elim c.if-landing-t.branch [
      | then-landing-t w ↦ simp to_z-of_z at w.sum-is ∙ n.added w.if-landing-t.true
      | else-landing-t w ↦ w.sum-is ∙ n.skipped w.if-landing-t.false
    ]
