use Rattle.std.proofs.Common.{rules, ◌<◌, ◌≤◌, ◌^◌, ◌∙◌, ap, sym, arith, ℕ}
use Rattle.std.specs.Prelude.{ℤ, pos, ◌*ℤ◌, unsigned_abs}
use Rattle.std.proofs.lemmas.Int.{to_z-of_z}
use Rattle.std.proofs.lemmas.Nat.{mul-le}
use Rattle.game_model.specs.Game.{reward_at}
use Rattle.game_model.proofs.Games.{reward-in}
use Rattle.game_model.proofs.Width.{reward_small}
use Rattle.belief.specs.Beliefs.{mix_weight}
use Rattle.belief.proofs.Sums.{magnitude-small}
use Rattle.point_set.proofs.Running.{next-product}
use Rattle.point_set.proofs.values.mixed_reward.Goals as goal
use Rattle.scaled_num.proofs.Products.{magnitude-is}

pub overflow_mul-sum : goal.overflow_mul-sum
overflow_mul-sum c =
    let f : ℕ → ℤ = λ k. pos (mix_weight c.args.mixes.now c.args.s k) *ℤ reward_at c.args.game.now c.args.s c.args.a k in
    let in_range : c.loop-c.c < c.args.game.now.shape.informed_actions = search (rules, arith) in
    let small : unsigned_abs c.reward.result ≤ 2 ^ 30 = rw c.reward.ensures (reward_small _ (reward-in c.args.game.now c.law_game.ensures.accepted c.args.s c.args.a c.loop-c.c c.requires.state c.requires.own in_range).0) in
    let light : unsigned_abs c.get.result ≤ 65536 = magnitude-small c.get.result 65536 c.get.ensures.small in
    let few = c.law_game.ensures.accepted.shape.informed_actions.1 in
    let n = next-product f c.loop-c.c (2 ^ 46) c.get.result c.reward.result _
    (sym (ap (λ (z : ℤ). z *ℤ c.reward.result) (magnitude-is c.get.result c.get.ensures.small.0 ∙ ap (λ (z : ℤ). pos (unsigned_abs z)) c.get.ensures.weight) ∙ ap (λ (z : ℤ). pos (mix_weight c.args.mixes.now c.args.s c.loop-c.c) *ℤ z) c.reward.ensures))
    (omega arith) (omega arith) (mul-le (unsigned_abs c.get.result) (unsigned_abs c.reward.result) 65536 (2 ^ 30) light small) (omega arith) c.loop-c.invariant.is c.loop-c.invariant.small in
    let fact_0 = n.x_fits in
    let fact_1 = n.y_fits in
    simp to_z-of_z n.product_fits

pub overflow_add-sum : goal.overflow_add-sum
overflow_add-sum c =
    let f : ℕ → ℤ = λ k. pos (mix_weight c.args.mixes.now c.args.s k) *ℤ reward_at c.args.game.now c.args.s c.args.a k in
    let in_range : c.loop-c.c < c.args.game.now.shape.informed_actions = search (rules, arith) in
    let small : unsigned_abs c.reward.result ≤ 2 ^ 30 = rw c.reward.ensures (reward_small _ (reward-in c.args.game.now c.law_game.ensures.accepted c.args.s c.args.a c.loop-c.c c.requires.state c.requires.own in_range).0) in
    let light : unsigned_abs c.get.result ≤ 65536 = magnitude-small c.get.result 65536 c.get.ensures.small in
    let few = c.law_game.ensures.accepted.shape.informed_actions.1 in
    let n = next-product f c.loop-c.c (2 ^ 46) c.get.result c.reward.result _
    (sym (ap (λ (z : ℤ). z *ℤ c.reward.result) (magnitude-is c.get.result c.get.ensures.small.0 ∙ ap (λ (z : ℤ). pos (unsigned_abs z)) c.get.ensures.weight) ∙ ap (λ (z : ℤ). pos (mix_weight c.args.mixes.now c.args.s c.loop-c.c) *ℤ z) c.reward.ensures))
    (omega arith) (omega arith) (mul-le (unsigned_abs c.get.result) (unsigned_abs c.reward.result) 65536 (2 ^ 30) light small) (omega arith) c.loop-c.invariant.is c.loop-c.invariant.small in
    let fact_0 = n.x_fits in
    let fact_1 = n.y_fits in
    let fact_2 = n.product_fits in
    simp to_z-of_z n.sum_fits

pub loop-c-preserved : goal.loop-c-preserved
loop-c-preserved c =
    let f : ℕ → ℤ = λ k. pos (mix_weight c.args.mixes.now c.args.s k) *ℤ reward_at c.args.game.now c.args.s c.args.a k in
    let in_range : c.loop-c.c < c.args.game.now.shape.informed_actions = search (rules, arith) in
    let small : unsigned_abs c.reward.result ≤ 2 ^ 30 = rw c.reward.ensures (reward_small _ (reward-in c.args.game.now c.law_game.ensures.accepted c.args.s c.args.a c.loop-c.c c.requires.state c.requires.own in_range).0) in
    let light : unsigned_abs c.get.result ≤ 65536 = magnitude-small c.get.result 65536 c.get.ensures.small in
    let few = c.law_game.ensures.accepted.shape.informed_actions.1 in
    let n = next-product f c.loop-c.c (2 ^ 46) c.get.result c.reward.result _
    (sym (ap (λ (z : ℤ). z *ℤ c.reward.result) (magnitude-is c.get.result c.get.ensures.small.0 ∙ ap (λ (z : ℤ). pos (unsigned_abs z)) c.get.ensures.weight) ∙ ap (λ (z : ℤ). pos (mix_weight c.args.mixes.now c.args.s c.loop-c.c) *ℤ z) c.reward.ensures))
    (omega arith) (omega arith) (mul-le (unsigned_abs c.get.result) (unsigned_abs c.reward.result) 65536 (2 ^ 30) light small) (omega arith) c.loop-c.invariant.is c.loop-c.invariant.small in
    let fact_0 = n.x_fits in
    let fact_1 = n.y_fits in
    let fact_2 = n.product_fits in
    let fact_3 = n.sum_fits in
    simp to_z-of_z (record { is = n.is; small = n.small })
