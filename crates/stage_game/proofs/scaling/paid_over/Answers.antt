use Rattle.std.proofs.Common.{◌∙◌, ◌≡◌, ◌*◌, ◌^◌, ◌≤◌, ap, arith}
use Rattle.std.specs.Prelude.{ℤ, pos, FitsSigned, ◌*ℤ◌}
use Rattle.std.specs.Int.{w128}
use Rattle.std.proofs.lemmas.Int.{to_z-of_z}
use Rattle.std.proofs.lemmas.Nat.{mul-le}
use Rattle.game_model.specs.Game.{GameData}
use Rattle.stage_game.proofs.Sizes.{limits, number-fits, product-fits, product-is, under, wideness}
use Rattle.stage_game.proofs.scaling.paid_over.Goals as goal

pub overflow_mul-result : goal.overflow_mul-result
overflow_mul-result c =
    let g : GameData = c.args.game.now in
    let n = limits g c.law_game.ensures.accepted in
    let q : c.discount-under.result.1 ≡ pos (under g) = ap (λ (p : ℤ × ℤ). p.1) c.discount-under.ensures ∙ n.denominator in
    let size : under g * wideness g ≤ 2 ^ 20 * 2 ^ 68 = mul-le (under g) (wideness g) (2 ^ 20) (2 ^ 68) n.under_small (omega (arith, n.span_small)) in
    let q_fits : FitsSigned w128 c.discount-under.result.1 = number-fits c.discount-under.result.1 (under g) q (omega (arith, n.under_small)) in
    let w_fits : FitsSigned w128 c.width_of.result = number-fits c.width_of.result (wideness g) c.width_of.ensures (omega (arith, n.span_small)) in
    simp to_z-of_z (product-fits c.discount-under.result.1 c.width_of.result (under g) (wideness g) q c.width_of.ensures (omega arith))

pub returns : goal.returns
returns c =
    let g : GameData = c.args.game.now in
    let n = limits g c.law_game.ensures.accepted in
    let q : c.discount-under.result.1 ≡ pos (under g) = ap (λ (p : ℤ × ℤ). p.1) c.discount-under.ensures ∙ n.denominator in
    let size : under g * wideness g ≤ 2 ^ 20 * 2 ^ 68 = mul-le (under g) (wideness g) (2 ^ 20) (2 ^ 68) n.under_small (omega (arith, n.span_small)) in
    let q_fits : FitsSigned w128 c.discount-under.result.1 = number-fits c.discount-under.result.1 (under g) q (omega (arith, n.under_small)) in
    let w_fits : FitsSigned w128 c.width_of.result = number-fits c.width_of.result (wideness g) c.width_of.ensures (omega (arith, n.span_small)) in
    let all : FitsSigned w128 (c.discount-under.result.1 *ℤ c.width_of.result) = product-fits c.discount-under.result.1 c.width_of.result (under g) (wideness g) q c.width_of.ensures (omega arith) in
    simp to_z-of_z (product-is c.discount-under.result.1 c.width_of.result (under g) (wideness g) q c.width_of.ensures)
