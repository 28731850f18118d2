use Rattle.std.specs.Prelude.{ℤ, ◌^◌, ◌≤◌, unsigned_abs}
use Rattle.std.specs.Int.{w128}
use Rattle.std.proofs.Common.{FitsSigned, arith}
use Rattle.std.proofs.lemmas.Int.{fits_signed_from_abs, to_z-of_z}
use Rattle.point_set.proofs.Worth.{limit-fits, limit-is, order-is}
use Rattle.point_set.proofs.values.holds.Goals as goal

worth-fits : (x : ℤ) → unsigned_abs x ≤ 2 ^ 125 → FitsSigned w128 x
worth-fits x l = fits_signed_from_abs w128 x (omega arith)

pub overflow_mul-scale : goal.overflow_mul-scale
overflow_mul-scale c =
    let f = limit-fits c.args.game.now c.law_game.ensures.accepted c.args.point.now c.requires.member.fits in
    let fact_0 = f.whole in
    let fact_1 = f.under in
    let fact_2 = f.divisor in
    simp (c.discount-under.ensures, c.row_total.ensures, to_z-of_z) f.divisor

pub overflow_mul-result : goal.overflow_mul-result
overflow_mul-result c =
    let f = limit-fits c.args.game.now c.law_game.ensures.accepted c.args.point.now c.requires.member.fits in
    let fact_0 = f.whole in
    let fact_1 = f.under in
    let fact_2 = f.divisor in
    simp (c.discount-under.ensures, c.row_total.ensures, to_z-of_z) f.scale

pub overflow_mul-result-2 : goal.overflow_mul-result-2
overflow_mul-result-2 c =
    let f = limit-fits c.args.game.now c.law_game.ensures.accepted c.args.point.now c.requires.member.fits in
    let fact_0 = f.whole in
    let fact_1 = f.under in
    let fact_2 = f.divisor in
    let fact_3 = f.scale in
    let fact_4 = f.value_fits in
    simp (c.discount-under.ensures, c.row_total.ensures, to_z-of_z) f.right

pub returns : goal.returns
returns c =
    let f = limit-fits c.args.game.now c.law_game.ensures.accepted c.args.point.now c.requires.member.fits in
    let fact_0 = f.whole in
    let fact_1 = f.under in
    let fact_2 = f.divisor in
    let fact_3 = f.scale in
    let fact_4 = f.value_fits in
    let fact_5 = f.right in
    let fact_6 = worth-fits c.worth_after-worth.result c.worth_after-worth.ensures.small in
    simp (c.discount-under.ensures, c.row_total.ensures, to_z-of_z)
    (order-is c.worth_after-worth.result _ _ _ c.worth_after-worth.ensures.exact (limit-is c.args.game.now c.law_game.ensures.accepted c.args.point.now))
