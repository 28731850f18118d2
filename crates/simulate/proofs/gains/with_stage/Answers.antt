use Rattle.std.proofs.Common.{ℕ, ◌≤◌, max, arith, ap, ◌∙◌}
use Rattle.std.specs.Prelude.{ℤ, pos, ◌+ℤ◌, ◌*ℤ◌, unsigned_abs}
use Rattle.std.proofs.lemmas.Int.{to_z-of_z, to_z_pos}
use Rattle.std.proofs.lemmas.Nat.{mul-le}
use Rattle.scaled_num.proofs.Products.{magnitude-is}
use Rattle.game_model.specs.Game.{GameData, greatest_reward, numbers}
use Rattle.game_model.proofs.Games.{reward-bound}
use Rattle.simulate.proofs.GainLimit.{IsSum, is-sum}
use Rattle.simulate.proofs.Lengths.{has-limits}
use Rattle.simulate.proofs.gains.with_stage.Goals as goal

sums : (c : goal.After-reward) → IsSum c.reward.result c.args.power c.discount-over.result.0 c.args.later
sums c =
    let g : GameData = c.args.game.now in
    let R : ℕ = max 1 (greatest_reward g) in
    let limits = has-limits g c.law_game.ensures.accepted in
    let reward = limits.reward in
    let under = limits.under in
    let over = limits.over in
    let step = c.requires.step in
    let power = c.requires.power in
    let later = c.requires.later in
    let size = ap unsigned_abs c.reward.ensures in
    let bound = reward-bound g c.law_game.ensures.accepted c.args.step.now.state c.args.step.now.own c.args.step.now.informed step.0 step.1 step.2 in
    let small : unsigned_abs c.reward.result ≤ R = omega (arith, size, bound) in
    let numerator = ap (λ (d : ℤ × ℤ). unsigned_abs d.0) c.discount-over.ensures in
    let less : unsigned_abs c.discount-over.result.0 ≤ (numbers g).discount_under = omega (arith, numerator, over) in
    let first = mul-le (unsigned_abs c.reward.result) c.args.power R c.args.power small (omega arith) in
    let whole = mul-le 1 c.args.power R c.args.power (omega arith) (omega arith) in
    let some = limits.some in
    let once = mul-le 1 (unsigned_abs c.args.later) (numbers g).discount_under (unsigned_abs c.args.later) some (omega arith) in
    let second = mul-le (unsigned_abs c.discount-over.result.0) (unsigned_abs c.args.later) (numbers g).discount_under (unsigned_abs c.args.later) less (omega arith) in
    is-sum c.reward.result c.args.power c.discount-over.result.0 c.args.later (omega (arith, small, reward)) (omega (arith, whole, power)) (omega (arith, first, power)) (omega (arith, less, under)) (omega (arith, once, later)) (omega (arith, second, later))

pub overflow_mul-result : goal.overflow_mul-result
overflow_mul-result c =
    let s = sums c in
    let r_fits = s.r_fits in
    let p_fits = s.p_fits in
    simp (to_z-of_z, to_z_pos) s.first_fits

pub overflow_mul-result-2 : goal.overflow_mul-result-2
overflow_mul-result-2 c =
    let s = sums c in
    let o_fits = s.o_fits in
    let l_fits = s.l_fits in
    simp to_z-of_z s.second_fits

pub overflow_add-result : goal.overflow_add-result
overflow_add-result c =
    let s = sums c in
    let r_fits = s.r_fits in
    let p_fits = s.p_fits in
    let o_fits = s.o_fits in
    let l_fits = s.l_fits in
    let first_fits = s.first_fits in
    let second_fits = s.second_fits in
    simp (to_z-of_z, to_z_pos) s.sum_fits

pub returns : goal.returns
returns c =
    let s = sums c in
    let r_fits = s.r_fits in
    let p_fits = s.p_fits in
    let o_fits = s.o_fits in
    let l_fits = s.l_fits in
    let first_fits = s.first_fits in
    let second_fits = s.second_fits in
    let sum_fits = s.sum_fits in
    let g : GameData = c.args.game.now in
    let p : ℕ = c.args.power in
    let l : ℤ = c.args.later in
    let over = magnitude-is g.shape.discount.0 c.law_game.ensures.accepted.shape.discount.0 in
    let is = ap (λ (z : ℤ). z *ℤ pos p +ℤ c.discount-over.result.0 *ℤ l) c.reward.ensures
    ∙ ap (λ (d : ℤ × ℤ). (numbers g).reward c.args.step.now.state c.args.step.now.own c.args.step.now.informed *ℤ pos p +ℤ d.0 *ℤ l) c.discount-over.ensures
    ∙ ap (λ (z : ℤ). (numbers g).reward c.args.step.now.state c.args.step.now.own c.args.step.now.informed *ℤ pos p +ℤ z *ℤ l) over in
    simp (to_z-of_z, to_z_pos) is
