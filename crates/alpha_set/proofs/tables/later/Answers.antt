use Rattle.std.proofs.Common.{◌≤◌, ◌*◌, ◌^◌, to_z, arith, subst}
use Rattle.std.specs.Prelude.{ℤ, unsigned_abs}
use Rattle.std.specs.Int.{w128}
use Rattle.std.proofs.lemmas.Int.{to_z-of_z}
use Rattle.std.proofs.lemmas.Nat.{mul-le}
use Rattle.game_model.specs.Game.{GameData, numbers}
use Rattle.game_model.specs.Numbers.{over_row}
use Rattle.alpha_set.specs.Members.{entry_at}
use Rattle.alpha_set.proofs.Rows.{most, most-small}
use Rattle.alpha_set.proofs.Totals.{Next, abs-within, next}
use Rattle.alpha_set.proofs.tables.later.Goals as goal

after : (c : goal.After-later_after-sum) →
    Next (λ a. over_row (numbers c.args.game.now) c.args.s a c.args.c (λ o t. entry_at c.args.table.now a o t)) (unsigned_abs c.args.game.now.shape.row_total * most c.args.game.now) c.loop-a.a (to_z w128 c.loop-a.sum-bits)
after c =
    let g : GameData = c.args.game.now in
    let right = c.law_game.ensures.accepted in
    let few = right.shape.own_actions.1 in
    let high : unsigned_abs g.shape.row_total * most g ≤ 2 ^ 112 = mul-le (unsigned_abs g.shape.row_total) (most g) (2 ^ 30) (2 ^ 82) (abs-within g.shape.row_total (2 ^ 30) right.shape.row_total) (most-small g right) in
    next (λ a. over_row (numbers g) c.args.s a c.args.c (λ o t. entry_at c.args.table.now a o t)) (unsigned_abs g.shape.row_total * most g) c.loop-a.a (to_z w128 c.loop-a.sum-bits)
    (subst (λ (z : ℤ). unsigned_abs z ≤ unsigned_abs g.shape.row_total * most g) c.later_after-sum.ensures.exact c.later_after-sum.ensures.small)
    (omega arith) (omega (arith, high)) c.loop-a.invariant

pub overflow_add-sum : goal.overflow_add-sum
overflow_add-sum c =
    let n = after c in
    let term_fits = n.term_fits in
    simp (c.later_after-sum.ensures.exact, to_z-of_z) n.sum_fits

pub loop-a-preserved : goal.loop-a-preserved
loop-a-preserved c =
    let n = after c in
    let term_fits = n.term_fits in
    let sum_fits = n.sum_fits in
    simp (c.later_after-sum.ensures.exact, to_z-of_z) n.so_far
