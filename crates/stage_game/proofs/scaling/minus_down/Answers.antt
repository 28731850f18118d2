use Rattle.std.proofs.Common.{arith, ◌≡◌, ◌∙◌, ap, rules}
use Rattle.std.specs.Prelude.{pos, neg_ℤ, FitsSigned, ◌-ℤ◌, ◌≤ℤ◌}
use Rattle.std.specs.Int.{w128}
use Rattle.std.proofs.lemmas.Int.{ints, to_z-of_z}
use Rattle.scaled_num.proofs.Floors.{floor-none_negative}
use Rattle.stage_game.specs.Scaling.{floor_of}
use Rattle.stage_game.proofs.Quotients.{floor-is, floor-written}
use Rattle.stage_game.proofs.scaling.minus_down.Goals as goal

pub floor_div-requires : goal.floor_div-requires
floor_div-requires c =
    let fits : FitsSigned w128 c.args.whole = c.ranges.whole in
    simp to_z-of_z c.requires.divisor

pub overflow_sub-result : goal.overflow_sub-result
overflow_sub-result c =
    let fits : FitsSigned w128 c.floor_div.result = search rules in
    let part_fits : FitsSigned w128 c.args.part = c.ranges.part in
    let whole_fits : FitsSigned w128 c.args.whole = c.ranges.whole in
    let f = floor-written c.args.part c.args.whole c.requires.divisor in
    let low : pos 0 ≤ℤ floor_of c.args.part c.args.whole = floor-none_negative (floor_of c.args.part c.args.whole) c.args.part c.args.whole c.requires.part c.requires.divisor f in
    let is : c.floor_div.result ≡ floor_of c.args.part c.args.whole =
    floor-is c.args.part c.args.whole c.floor_div.result c.requires.divisor (simp to_z-of_z at c.floor_div.ensures.low) (simp to_z-of_z at c.floor_div.ensures.high) in
    simp to_z-of_z (omega (arith, ints))

pub returns : goal.returns
returns c =
    let fits : FitsSigned w128 c.floor_div.result = search rules in
    let part_fits : FitsSigned w128 c.args.part = c.ranges.part in
    let whole_fits : FitsSigned w128 c.args.whole = c.ranges.whole in
    let f = floor-written c.args.part c.args.whole c.requires.divisor in
    let low : pos 0 ≤ℤ floor_of c.args.part c.args.whole = floor-none_negative (floor_of c.args.part c.args.whole) c.args.part c.args.whole c.requires.part c.requires.divisor f in
    let is : c.floor_div.result ≡ floor_of c.args.part c.args.whole =
    floor-is c.args.part c.args.whole c.floor_div.result c.requires.divisor (simp to_z-of_z at c.floor_div.ensures.low) (simp to_z-of_z at c.floor_div.ensures.high) in
    let minus : pos 0 -ℤ c.floor_div.result ≡ neg_ℤ c.floor_div.result = omega (arith, ints) in
    let minus_fits : FitsSigned w128 (pos 0 -ℤ c.floor_div.result) = omega (arith, ints) in
    simp to_z-of_z (minus ∙ ap neg_ℤ is)
