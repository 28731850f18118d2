use Rattle.std.proofs.Common.{rules, arith, ◌*◌, ℕ, subst}
use Rattle.std.specs.Prelude.{ℤ, pos, ◌*ℤ◌, ◌+ℤ◌, ◌≤ℤ◌, ◌<ℤ◌, unsigned_abs, FitsSigned}
use Rattle.std.specs.Int.{w128}
use Rattle.std.proofs.lemmas.Int.{to_z-of_z}
use Rattle.scaled_num.proofs.Products.{sums}
use Rattle.game_model.specs.Branches.{mix_total}
use Rattle.game_model.specs.Game.{GameData, numbers}
use Rattle.point_set.specs.Members.{point_data}
use Rattle.point_set.specs.Points.{point_of, points_of}
use Rattle.point_set.proofs.Worth.{scale-fits}
use Rattle.backup.proofs.Evaluations.{evaluation-is, scale-is, scale-positive}
use Rattle.backup.proofs.Replies.{ceil-is}
use Rattle.backup.proofs.points.evaluation.Goals as goal

pub overflow_mul-row_total : goal.overflow_mul-row_total
overflow_mul-row_total c =
    let f = scale-fits c.args.game.now c.law_game.ensures.accepted in
    let whole = f.whole in
    let under = f.under in
    simp (c.discount-under.ensures, c.row_total.ensures, to_z-of_z) f.divisor

pub overflow_mul-row_total-2 : goal.overflow_mul-row_total-2
overflow_mul-row_total-2 c =
    let f = scale-fits c.args.game.now c.law_game.ensures.accepted in
    let whole = f.whole in
    let under = f.under in
    let divisor = f.divisor in
    simp (c.discount-under.ensures, c.row_total.ensures, to_z-of_z) f.scale

pub ceil_div-requires : goal.ceil_div-requires
ceil_div-requires c =
    let f = scale-fits c.args.game.now c.law_game.ensures.accepted in
    let whole = f.whole in
    let under = f.under in
    let divisor = f.divisor in
    let scale = f.scale in
    simp (c.discount-under.ensures, c.row_total.ensures, to_z-of_z) (scale-positive c.args.game.now c.law_game.ensures.accepted)

pub returns : goal.returns
returns c =
    let g : GameData = c.args.game.now in
    let f = scale-fits g c.law_game.ensures.accepted in
    let whole = f.whole in
    let under = f.under in
    let divisor = f.divisor in
    let scale = f.scale in
    let q : ℤ = c.ceil_div.result in
    let w : ℤ = c.greatest_worth-worth.result in
    let q_fits : FitsSigned w128 q = search rules in
    let w_fits : FitsSigned w128 w = search rules in
    let b : ℤ = pos 65536 *ℤ (g.shape.row_total *ℤ g.shape.discount.1) in
    let n : ℕ = mix_total * unsigned_abs g.shape.row_total * unsigned_abs g.shape.discount.1 in
    let upper = simp (c.row_total.ensures, c.discount-under.ensures, to_z-of_z) at c.ceil_div.ensures.high in
    let lower = simp (c.row_total.ensures, c.discount-under.ensures, to_z-of_z) at c.ceil_div.ensures.low in
    let high : w ≤ℤ (q *ℤ b) = omega (arith, sums, upper) in
    let low : (q *ℤ b) <ℤ (w +ℤ b) = omega (arith, sums, lower) in
    let is = scale-is g c.law_game.ensures.accepted in
    simp to_z-of_z (evaluation-is (numbers g) (points_of c.args.points.now.members) (point_of (point_data c.args.point.now)) w q c.greatest_worth-worth.ensures
    (ceil-is w q n (subst (λ (z : ℤ). w ≤ℤ (q *ℤ z)) is high) (subst (λ (z : ℤ). (q *ℤ z) <ℤ (w +ℤ z)) is low)))
