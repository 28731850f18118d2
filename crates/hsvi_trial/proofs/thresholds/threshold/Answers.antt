use Rattle.std.proofs.Common.{ap, arith, rules, ◌*◌, ◌^◌, ◌≤◌, ◌≡◌, ◌∙◌, ℕ, pos}
use Rattle.std.specs.Prelude.{ℤ, FitsSigned, unsigned_abs}
use Rattle.std.specs.Int.{w128}
use Rattle.std.proofs.lemmas.Int.{to_z-of_z, to_z_pos}
use Rattle.game_model.specs.Game.{numbers, span}
use Rattle.controller.specs.Data.{fraction_data}
use Rattle.hsvi_trial.specs.Thresholds.{threshold}
use Rattle.hsvi_trial.proofs.ThresholdSteps.{product-small, threshold-next, under-small}
use Rattle.hsvi_trial.proofs.thresholds.threshold.Goals as goal

pub overflow_mul-distance : goal.overflow_mul-distance
overflow_mul-distance c =
    let under_fits : FitsSigned w128 c.discount-over.result.1 = search rules in
    let value = simp to_z-of_z at c.unsigned_abs-under.ensures.value in
    let under_is : c.unsigned_abs-under.result ≡ (numbers c.args.game.now).discount_under = value ∙ ap (λ (d : ℤ × ℤ). unsigned_abs d.1) c.discount-over.ensures in
    let small : c.unsigned_abs-under.result ≤ 2 ^ 20 = omega (arith, under_is, under-small c.args.game.now c.law_game.ensures.accepted) in
    let far : c.loop.distance ≤ 2 ^ 67 = omega (arith, c.loop.invariant.most, c.law_game.ensures.small_span) in
    let product = product-small c.loop.distance c.unsigned_abs-under.result far small in
    omega (arith, product)

pub loop-preserved : goal.loop-preserved
loop-preserved c =
    let under_fits : FitsSigned w128 c.discount-over.result.1 = search rules in
    let over_fits : FitsSigned w128 c.discount-over.result.0 = search rules in
    let span_fits : FitsSigned w128 c.span.result = search rules in
    let under = simp to_z-of_z at c.unsigned_abs-under.ensures.value in
    let over = simp to_z-of_z at c.unsigned_abs-over.ensures.value in
    let most = simp to_z-of_z at c.unsigned_abs-most.ensures.value in
    let most_is : 2 * c.unsigned_abs-most.result ≡ 2 * span c.args.game.now = ap (λ (n : ℕ). 2 * n) (most ∙ ap unsigned_abs c.span.ensures) in
    record {
      so_far = c.min-distance-in-loop.ensures
          ∙ threshold-next c.args.game.now (fraction_data c.args.gap.now) c.loop.counter (2 * c.unsigned_abs-most.result) c.loop.distance c.unsigned_abs-under.result c.unsigned_abs-over.result most_is c.loop.invariant.so_far
          (under ∙ ap (λ (d : ℤ × ℤ). unsigned_abs d.1) c.discount-over.ensures) (over ∙ ap (λ (d : ℤ × ℤ). unsigned_abs d.0) c.discount-over.ensures);
      most = omega (arith, c.min-distance-in-loop.ensures, most_is);
    }

pub returns-clause-threshold : goal.returns-clause-threshold
returns-clause-threshold c =
    let small : c.loop.distance ≤ 2 ^ 67 = omega (arith, c.loop.invariant.most, c.law_game.ensures.small_span) in
    let end : c.loop.counter ≡ c.args.depth = omega arith in
    to_z_pos w128 c.loop.distance (omega arith) ∙ ap pos (c.loop.invariant.so_far ∙ ap (threshold c.args.game.now (fraction_data c.args.gap.now)) end)
