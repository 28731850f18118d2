use Rattle.std.proofs.Common.{rules, arith, ℕ, ◌*◌, ◌≤◌, subst}
use Rattle.std.specs.Prelude.{ℤ, ◌*ℤ◌, ◌+ℤ◌, ◌≤ℤ◌, ◌<ℤ◌, unsigned_abs, FitsSigned}
use Rattle.std.specs.Int.{w128}
use Rattle.std.proofs.lemmas.Int.{to_z-of_z}
use Rattle.game_model.specs.Game.{GameData, span}
use Rattle.game_model.proofs.Least.{floor-least, quotient-within}
use Rattle.game_model.proofs.Worth.{divisor-fits, divisor-is, divisor-positive}
use Rattle.game_model.proofs.seeds.least.Goals as goal

pub returns-clause-floor : goal.returns-clause-floor
returns-clause-floor c =
    let g : GameData = c.args.game.now in
    let f = divisor-fits g c.law_game.ensures.accepted in
    let q : ℤ = c.floor_div.result in
    let w : ℤ = c.least_worth-worth.result in
    let whole = f.whole in
    let under = f.under in
    let divisor = f.divisor in
    let q_fits : FitsSigned w128 q = search rules in
    let w_fits : FitsSigned w128 w = search rules in
    let b : ℤ = g.shape.row_total *ℤ g.shape.discount.1 in
    let below = simp (c.row_total.ensures, c.discount-under.ensures, to_z-of_z) at c.floor_div.ensures.low in
    let low : (q *ℤ b) ≤ℤ w = search rules in
    let above = simp (c.row_total.ensures, c.discount-under.ensures, to_z-of_z) at c.floor_div.ensures.high in
    let high : w <ℤ (q *ℤ b +ℤ b) = search rules in
    simp to_z-of_z (floor-least g c.args.a c.args.s _ w q c.least_worth-worth.ensures.least
    (subst (λ (z : ℤ). (q *ℤ z) ≤ℤ w) (divisor-is g c.law_game.ensures.accepted) low)
    (subst (λ (z : ℤ). w <ℤ (q *ℤ z +ℤ z)) (divisor-is g c.law_game.ensures.accepted) high))

pub returns-clause-bounded : goal.returns-clause-bounded
returns-clause-bounded c =
    let g : GameData = c.args.game.now in
    let f = divisor-fits g c.law_game.ensures.accepted in
    let q : ℤ = c.floor_div.result in
    let w : ℤ = c.least_worth-worth.result in
    let whole = f.whole in
    let under = f.under in
    let divisor = f.divisor in
    let q_fits : FitsSigned w128 q = search rules in
    let w_fits : FitsSigned w128 w = search rules in
    let b : ℤ = g.shape.row_total *ℤ g.shape.discount.1 in
    let n : ℕ = unsigned_abs g.shape.row_total * unsigned_abs g.shape.discount.1 in
    let below = simp (c.row_total.ensures, c.discount-under.ensures, to_z-of_z) at c.floor_div.ensures.low in
    let low : (q *ℤ b) ≤ℤ w = search rules in
    let above = simp (c.row_total.ensures, c.discount-under.ensures, to_z-of_z) at c.floor_div.ensures.high in
    let high : w <ℤ (q *ℤ b +ℤ b) = search rules in
    let size : unsigned_abs w ≤ span g * n = omega (arith, c.least_worth-worth.ensures.bounded) in
    simp to_z-of_z (quotient-within (span g) n w q size
    (subst (λ (z : ℤ). (q *ℤ z) ≤ℤ w) (divisor-is g c.law_game.ensures.accepted) low)
    (subst (λ (z : ℤ). w <ℤ (q *ℤ z +ℤ z)) (divisor-is g c.law_game.ensures.accepted) high))

pub floor_div-requires : goal.floor_div-requires
floor_div-requires c =
    let g : GameData = c.args.game.now in
    let f = divisor-fits g c.law_game.ensures.accepted in
    let whole = f.whole in
    let under = f.under in
    let divisor = f.divisor in
    simp (c.row_total.ensures, c.discount-under.ensures, to_z-of_z) (divisor-positive g c.law_game.ensures.accepted)
