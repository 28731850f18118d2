use Rattle.std.proofs.Common.{rules, arith, ◌*ℤ◌, ◌<ℤ◌, ◌≤ℤ◌, ◌^◌, FitsSigned, ℤ, pos}
use Rattle.std.specs.Int.{w128}
use Rattle.std.proofs.lemmas.Int.{ints, to_z-of_z}
use Rattle.scaled_num.specs.Share.{IsFloor}
use Rattle.game_model.specs.Game.{IsWithin}
use Rattle.scaled_num.proofs.OneShare.{floor-most}
use Rattle.point_set.proofs.MostTimes.{floor-below, times-fit}
use Rattle.point_set.proofs.times.lowered.Goals as goal

pub returns-else-times-weight-clause-high : goal.returns-else-times-weight-clause-high
returns-else-times-weight-clause-high c =
    let times : ℤ = c.args.times in
    let weight : ℤ = c.args.weight in
    let some : pos 1 ≤ℤ weight = search rules in
    let part_fits : FitsSigned w128 c.args.part = c.ranges.part in
    let weight_fits : FitsSigned w128 weight = c.ranges.weight in
    let high = c.requires.times.1 in
    let wide : IsWithin (pos 0) (pos (2 ^ 101)) times = (c.requires.times.0, omega (arith, ints, high)) in
    let fits : FitsSigned w128 (times *ℤ weight) = times-fit times weight wide c.requires.weight in
    let result_fits : FitsSigned w128 c.quotient.result = search rules in
    let over : c.args.part <ℤ (times *ℤ weight) = grind (arith, to_z-of_z, ints, c.if-times-weight.false) in
    let floor : IsFloor c.quotient.result c.args.part weight = simp to_z-of_z at c.quotient.ensures in
    simp to_z-of_z (floor-below c.quotient.result c.args.part weight times some floor over)

pub returns-else-times-weight-clause-most : goal.returns-else-times-weight-clause-most
returns-else-times-weight-clause-most c =
    let some : pos 1 ≤ℤ c.args.weight = search rules in
    let part_fits : FitsSigned w128 c.args.part = c.ranges.part in
    let weight_fits : FitsSigned w128 c.args.weight = c.ranges.weight in
    let result_fits : FitsSigned w128 c.quotient.result = search rules in
    let floor : IsFloor c.quotient.result c.args.part c.args.weight = simp to_z-of_z at c.quotient.ensures in
    simp to_z-of_z (λ (more : ℤ) (upto : more ≤ℤ c.args.times) (h : (more *ℤ c.args.weight) ≤ℤ c.args.part). floor-most c.quotient.result c.args.part c.args.weight more some floor h)
