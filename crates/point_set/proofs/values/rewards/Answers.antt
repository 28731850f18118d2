use Rattle.std.proofs.Common.{rules, ◌≡◌, ◌<◌, ◌≤◌, ◌^◌, ◌∙◌, List, ap, length, get_or, sym, subst, arith, ℕ}
use Rattle.std.specs.Prelude.{ℤ, pos, ◌*ℤ◌, unsigned_abs}
use Rattle.std.proofs.lemmas.Int.{to_z-of_z}
use Rattle.std.proofs.lemmas.Nat.{mul-le}
use Rattle.scaled_num.proofs.Sums.{each-at}
use Rattle.game_model.specs.Game.{IsWithin}
use Rattle.belief.specs.Beliefs.{weight_at}
use Rattle.belief.proofs.Sums.{magnitude-small}
use Rattle.point_set.specs.Members.{row_rewards}
use Rattle.point_set.proofs.Running.{next-product}
use Rattle.point_set.proofs.values.rewards.Goals as goal
use Rattle.scaled_num.proofs.Products.{magnitude-is}

pub overflow_mul-sum : goal.overflow_mul-sum
overflow_mul-sum c =
    let f : ℕ → ℤ = λ s. pos (weight_at c.args.belief.now s) *ℤ row_rewards c.args.game.now c.args.mixes.now c.args.a s in
    let s : ℕ = c.loop-s.s in
    let in_range : s < length c.args.belief.now = search (rules, arith) in
    let x : ℤ = get_or c.parts.result.now s (pos 0) in
    let x_is : x ≡ get_or c.args.belief.now s (pos 0) = ap (λ (ps : List ℤ). get_or ps s (pos 0)) c.parts.ensures.parts in
    let within : IsWithin (pos 0) (pos (2 ^ 20)) x = subst (IsWithin (pos 0) (pos (2 ^ 20))) (sym x_is) (each-at (IsWithin (pos 0) (pos (2 ^ 20))) (pos 0) c.args.belief.now s c.requires.fits.each in_range) in
    let light : unsigned_abs x ≤ 2 ^ 20 = magnitude-small x (2 ^ 20) within in
    let few = c.law_game.ensures.accepted.shape.states.1 in
    let below_states : s < c.args.game.now.shape.states = search (rules, arith) in
    let n = next-product f s (2 ^ 69) x c.mixed_reward.result _
    (sym (ap (λ (z : ℤ). z *ℤ c.mixed_reward.result) (magnitude-is x within.0 ∙ ap (λ (z : ℤ). pos (unsigned_abs z)) x_is) ∙ ap (λ (z : ℤ). pos (weight_at c.args.belief.now s) *ℤ z) c.mixed_reward.ensures.exact))
    (omega arith) (omega (arith, c.mixed_reward.ensures.small)) (mul-le (unsigned_abs x) (unsigned_abs c.mixed_reward.result) (2 ^ 20) (2 ^ 49) light c.mixed_reward.ensures.small) (omega arith) c.loop-s.invariant.is c.loop-s.invariant.small in
    let fact_0 = n.x_fits in
    let fact_1 = n.y_fits in
    simp to_z-of_z n.product_fits

pub overflow_add-sum : goal.overflow_add-sum
overflow_add-sum c =
    let f : ℕ → ℤ = λ s. pos (weight_at c.args.belief.now s) *ℤ row_rewards c.args.game.now c.args.mixes.now c.args.a s in
    let s : ℕ = c.loop-s.s in
    let in_range : s < length c.args.belief.now = search (rules, arith) in
    let x : ℤ = get_or c.parts.result.now s (pos 0) in
    let x_is : x ≡ get_or c.args.belief.now s (pos 0) = ap (λ (ps : List ℤ). get_or ps s (pos 0)) c.parts.ensures.parts in
    let within : IsWithin (pos 0) (pos (2 ^ 20)) x = subst (IsWithin (pos 0) (pos (2 ^ 20))) (sym x_is) (each-at (IsWithin (pos 0) (pos (2 ^ 20))) (pos 0) c.args.belief.now s c.requires.fits.each in_range) in
    let light : unsigned_abs x ≤ 2 ^ 20 = magnitude-small x (2 ^ 20) within in
    let few = c.law_game.ensures.accepted.shape.states.1 in
    let below_states : s < c.args.game.now.shape.states = search (rules, arith) in
    let n = next-product f s (2 ^ 69) x c.mixed_reward.result _
    (sym (ap (λ (z : ℤ). z *ℤ c.mixed_reward.result) (magnitude-is x within.0 ∙ ap (λ (z : ℤ). pos (unsigned_abs z)) x_is) ∙ ap (λ (z : ℤ). pos (weight_at c.args.belief.now s) *ℤ z) c.mixed_reward.ensures.exact))
    (omega arith) (omega (arith, c.mixed_reward.ensures.small)) (mul-le (unsigned_abs x) (unsigned_abs c.mixed_reward.result) (2 ^ 20) (2 ^ 49) light c.mixed_reward.ensures.small) (omega arith) c.loop-s.invariant.is c.loop-s.invariant.small in
    let fact_0 = n.x_fits in
    let fact_1 = n.y_fits in
    let fact_2 = n.product_fits in
    simp to_z-of_z n.sum_fits

pub loop-s-preserved : goal.loop-s-preserved
loop-s-preserved c =
    let f : ℕ → ℤ = λ s. pos (weight_at c.args.belief.now s) *ℤ row_rewards c.args.game.now c.args.mixes.now c.args.a s in
    let s : ℕ = c.loop-s.s in
    let in_range : s < length c.args.belief.now = search (rules, arith) in
    let x : ℤ = get_or c.parts.result.now s (pos 0) in
    let x_is : x ≡ get_or c.args.belief.now s (pos 0) = ap (λ (ps : List ℤ). get_or ps s (pos 0)) c.parts.ensures.parts in
    let within : IsWithin (pos 0) (pos (2 ^ 20)) x = subst (IsWithin (pos 0) (pos (2 ^ 20))) (sym x_is) (each-at (IsWithin (pos 0) (pos (2 ^ 20))) (pos 0) c.args.belief.now s c.requires.fits.each in_range) in
    let light : unsigned_abs x ≤ 2 ^ 20 = magnitude-small x (2 ^ 20) within in
    let few = c.law_game.ensures.accepted.shape.states.1 in
    let below_states : s < c.args.game.now.shape.states = search (rules, arith) in
    let n = next-product f s (2 ^ 69) x c.mixed_reward.result _
    (sym (ap (λ (z : ℤ). z *ℤ c.mixed_reward.result) (magnitude-is x within.0 ∙ ap (λ (z : ℤ). pos (unsigned_abs z)) x_is) ∙ ap (λ (z : ℤ). pos (weight_at c.args.belief.now s) *ℤ z) c.mixed_reward.ensures.exact))
    (omega arith) (omega (arith, c.mixed_reward.ensures.small)) (mul-le (unsigned_abs x) (unsigned_abs c.mixed_reward.result) (2 ^ 20) (2 ^ 49) light c.mixed_reward.ensures.small) (omega arith) c.loop-s.invariant.is c.loop-s.invariant.small in
    let fact_0 = n.x_fits in
    let fact_1 = n.y_fits in
    let fact_2 = n.product_fits in
    let fact_3 = n.sum_fits in
    simp to_z-of_z (record { is = n.is; small = n.small })
