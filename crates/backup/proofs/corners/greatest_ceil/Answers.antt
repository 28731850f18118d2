use Rattle.std.proofs.Common.{rules, arith, ℕ, ◌*◌, ◌≤◌, subst}
use Rattle.std.specs.Prelude.{ℤ, ◌*ℤ◌, ◌+ℤ◌, ◌≤ℤ◌, ◌<ℤ◌, unsigned_abs, FitsSigned}
use Rattle.std.specs.Int.{w128}
use Rattle.std.proofs.lemmas.Int.{to_z-of_z}
use Rattle.scaled_num.proofs.Products.{sums}
use Rattle.scaled_num.specs.Share.{at}
use Rattle.game_model.specs.Game.{GameData, numbers, span}
use Rattle.game_model.proofs.Worth.{divisor-fits, divisor-is, divisor-positive}
use Rattle.backup.proofs.FallingCorners.{ceil-greatest, divisor-some}
use Rattle.backup.proofs.Replies.{ceil-is, ceil-within}
use Rattle.backup.proofs.corners.greatest_ceil.Goals as goal

pub returns-clause-ceil : goal.returns-clause-ceil
returns-clause-ceil c =
    let g : GameData = c.args.game.now in
    let f = divisor-fits g c.law_game.ensures.accepted in
    let q : ℤ = c.ceil_div.result in
    let w : ℤ = c.greatest_worth-worth.result in
    let whole = f.whole in
    let under = f.under in
    let divisor = f.divisor in
    let q_fits : FitsSigned w128 q = search rules in
    let w_fits : FitsSigned w128 w = search rules in
    let b : ℤ = g.shape.row_total *ℤ g.shape.discount.1 in
    let n : ℕ = unsigned_abs g.shape.row_total * unsigned_abs g.shape.discount.1 in
    let upper = simp (c.row_total.ensures, c.discount-under.ensures, to_z-of_z) at c.ceil_div.ensures.high in
    let lower = simp (c.row_total.ensures, c.discount-under.ensures, to_z-of_z) at c.ceil_div.ensures.low in
    let high : w ≤ℤ (q *ℤ b) = omega (arith, sums, upper) in
    let low : (q *ℤ b) <ℤ (w +ℤ b) = omega (arith, sums, lower) in
    simp to_z-of_z (ceil-greatest (numbers g) (at c.args.old.now) c.args.s c.args.c w q c.greatest_worth-worth.ensures.greatest
    (ceil-is w q n
    (subst (λ (z : ℤ). w ≤ℤ (q *ℤ z)) (divisor-is g c.law_game.ensures.accepted) high)
    (subst (λ (z : ℤ). (q *ℤ z) <ℤ (w +ℤ z)) (divisor-is g c.law_game.ensures.accepted) low)))

pub returns-clause-bounded : goal.returns-clause-bounded
returns-clause-bounded c =
    let g : GameData = c.args.game.now in
    let f = divisor-fits g c.law_game.ensures.accepted in
    let q : ℤ = c.ceil_div.result in
    let w : ℤ = c.greatest_worth-worth.result in
    let whole = f.whole in
    let under = f.under in
    let divisor = f.divisor in
    let q_fits : FitsSigned w128 q = search rules in
    let w_fits : FitsSigned w128 w = search rules in
    let b : ℤ = g.shape.row_total *ℤ g.shape.discount.1 in
    let n : ℕ = unsigned_abs g.shape.row_total * unsigned_abs g.shape.discount.1 in
    let upper = simp (c.row_total.ensures, c.discount-under.ensures, to_z-of_z) at c.ceil_div.ensures.high in
    let lower = simp (c.row_total.ensures, c.discount-under.ensures, to_z-of_z) at c.ceil_div.ensures.low in
    let high : w ≤ℤ (q *ℤ b) = omega (arith, sums, upper) in
    let low : (q *ℤ b) <ℤ (w +ℤ b) = omega (arith, sums, lower) in
    let size : unsigned_abs w ≤ span g * n = omega (arith, c.greatest_worth-worth.ensures.bounded) in
    simp to_z-of_z (ceil-within w q n (span g) (divisor-some (numbers g) (span g) c.law_game.ensures.keeps_span) size
    (ceil-is w q n
    (subst (λ (z : ℤ). w ≤ℤ (q *ℤ z)) (divisor-is g c.law_game.ensures.accepted) high)
    (subst (λ (z : ℤ). (q *ℤ z) <ℤ (w +ℤ z)) (divisor-is g c.law_game.ensures.accepted) low)))

pub ceil_div-requires : goal.ceil_div-requires
ceil_div-requires c =
    let g : GameData = c.args.game.now in
    let f = divisor-fits g c.law_game.ensures.accepted in
    let whole = f.whole in
    let under = f.under in
    let divisor = f.divisor in
    simp (c.row_total.ensures, c.discount-under.ensures, to_z-of_z) (divisor-positive g c.law_game.ensures.accepted)
