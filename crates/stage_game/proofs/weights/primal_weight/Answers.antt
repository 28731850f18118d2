use Rattle.std.proofs.Common.{◌^◌, ◌<◌, ℤ, pos, ◌*ℤ◌, ◌≤ℤ◌, ◌<ℤ◌, ◌+ℤ◌, FitsSigned, to_z-of_z, rules, arith, unsigned_abs}
use Rattle.std.specs.Int.{w128}
use Rattle.std.proofs.lemmas.Int.{ints}
use Rattle.scaled_num.proofs.Floors.{product_none_negative, small_fits}
use Rattle.simplex.specs.Reading.{IsPrimal}
use Rattle.stage_game.specs.Reading.{last_of}
use Rattle.stage_game.proofs.Last.{IsRead, at-last, value-read, weight-within}
use Rattle.stage_game.proofs.weights.primal_weight.Goals as goal

product-fits : (num den : ℤ) → IsRead num den → FitsSigned w128 (num *ℤ pos 1073741824)
product-fits num den read =
    let small : unsigned_abs num < 2 ^ 62 = read.small in
    let low : pos 0 ≤ℤ num = read.not_negative in
    small_fits (num *ℤ pos 1073741824) (product_none_negative num (pos 1073741824) low (omega (arith, ints))) (omega (arith, ints))

pub overflow_mul-num : goal.overflow_mul-num
overflow_mul-num c =
    let num : ℤ = c.primal-num.result.0 in
    let den : ℤ = c.primal-num.result.1 in
    let d = last_of c.args.solver.now in
    let read : IsRead num den =
    value-read d c.args.variable num den c.requires.last.readable c.requires.variable (at-last c.args.solver.now.last (λ d. IsPrimal d c.args.variable num den) c.requires.last.some c.primal-num.ensures) in
    let fits_num : FitsSigned w128 num = search rules in
    simp to_z-of_z (product-fits num den read)

pub returns-clause-weight : goal.returns-clause-weight
returns-clause-weight c =
    let num : ℤ = c.primal-num.result.0 in
    let den : ℤ = c.primal-num.result.1 in
    let weight : ℤ = c.floor_div.result in
    let d = last_of c.args.solver.now in
    let value : IsPrimal d c.args.variable num den = at-last c.args.solver.now.last (λ d. IsPrimal d c.args.variable num den) c.requires.last.some c.primal-num.ensures in
    let read : IsRead num den = value-read d c.args.variable num den c.requires.last.readable c.requires.variable value in
    let fits_num : FitsSigned w128 num = search rules in
    let fits_den : FitsSigned w128 den = search rules in
    let fits_product : FitsSigned w128 (num *ℤ pos 1073741824) = product-fits num den read in
    let fits_weight : FitsSigned w128 weight = search rules in
    let low : (weight *ℤ den) ≤ℤ (num *ℤ pos 1073741824) = simp to_z-of_z at c.floor_div.ensures.low in
    let high : (num *ℤ pos 1073741824) <ℤ (weight *ℤ den +ℤ den) = simp to_z-of_z at c.floor_div.ensures.high in
    simp to_z-of_z (record { num = num; den = den; value = value; floor = record { low = low; high = high } })

pub returns-clause-positive : goal.returns-clause-positive
returns-clause-positive c =
    let num : ℤ = c.primal-num.result.0 in
    let den : ℤ = c.primal-num.result.1 in
    let weight : ℤ = c.floor_div.result in
    let d = last_of c.args.solver.now in
    let value : IsPrimal d c.args.variable num den = at-last c.args.solver.now.last (λ d. IsPrimal d c.args.variable num den) c.requires.last.some c.primal-num.ensures in
    let read : IsRead num den = value-read d c.args.variable num den c.requires.last.readable c.requires.variable value in
    let fits_num : FitsSigned w128 num = search rules in
    let fits_den : FitsSigned w128 den = search rules in
    let fits_product : FitsSigned w128 (num *ℤ pos 1073741824) = product-fits num den read in
    let fits_weight : FitsSigned w128 weight = search rules in
    let low : (weight *ℤ den) ≤ℤ (num *ℤ pos 1073741824) = simp to_z-of_z at c.floor_div.ensures.low in
    let high : (num *ℤ pos 1073741824) <ℤ (weight *ℤ den +ℤ den) = simp to_z-of_z at c.floor_div.ensures.high in
    simp to_z-of_z ((weight-within weight num den read (record { low = low; high = high })).0)

pub returns-clause-small : goal.returns-clause-small
returns-clause-small c =
    let num : ℤ = c.primal-num.result.0 in
    let den : ℤ = c.primal-num.result.1 in
    let weight : ℤ = c.floor_div.result in
    let d = last_of c.args.solver.now in
    let value : IsPrimal d c.args.variable num den = at-last c.args.solver.now.last (λ d. IsPrimal d c.args.variable num den) c.requires.last.some c.primal-num.ensures in
    let read : IsRead num den = value-read d c.args.variable num den c.requires.last.readable c.requires.variable value in
    let fits_num : FitsSigned w128 num = search rules in
    let fits_den : FitsSigned w128 den = search rules in
    let fits_product : FitsSigned w128 (num *ℤ pos 1073741824) = product-fits num den read in
    let fits_weight : FitsSigned w128 weight = search rules in
    let low : (weight *ℤ den) ≤ℤ (num *ℤ pos 1073741824) = simp to_z-of_z at c.floor_div.ensures.low in
    let high : (num *ℤ pos 1073741824) <ℤ (weight *ℤ den +ℤ den) = simp to_z-of_z at c.floor_div.ensures.high in
    simp to_z-of_z ((weight-within weight num den read (record { low = low; high = high })).1)
