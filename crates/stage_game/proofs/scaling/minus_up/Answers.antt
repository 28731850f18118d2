use Rattle.std.proofs.Common.{arith, ◌≡◌, ◌∙◌, ap, rules}
use Rattle.std.specs.Prelude.{ℤ, pos, neg_ℤ, FitsSigned, ◌-ℤ◌, ◌≤ℤ◌, ◌<ℤ◌, ◌*ℤ◌}
use Rattle.std.specs.Int.{w128}
use Rattle.std.proofs.lemmas.Int.{ints, to_z-of_z}
use Rattle.scaled_num.proofs.Floors.{cancel}
use Rattle.stage_game.specs.Scaling.{ceil_of}
use Rattle.stage_game.proofs.Quotients.{ceil-is, ceil-written}
use Rattle.stage_game.proofs.scaling.minus_up.Goals as goal

pub ceil_div-requires : goal.ceil_div-requires
ceil_div-requires c =
    let fits : FitsSigned w128 c.args.whole = c.ranges.whole in
    simp to_z-of_z c.requires.divisor

minus-low : (a b q : ℤ) → pos 0 <ℤ b → pos 0 ≤ℤ a → a ≤ℤ (q *ℤ b) → pos 0 ≤ℤ q
minus-low a b q l h m = cancel (pos 0) q b l (omega (arith, ints))

pub overflow_sub-result : goal.overflow_sub-result
overflow_sub-result c =
    let fits : FitsSigned w128 c.ceil_div.result = search rules in
    let part_fits : FitsSigned w128 c.args.part = c.ranges.part in
    let whole_fits : FitsSigned w128 c.args.whole = c.ranges.whole in
    let f = ceil-written c.args.part c.args.whole c.requires.divisor in
    let low : pos 0 ≤ℤ ceil_of c.args.part c.args.whole = minus-low c.args.part c.args.whole (ceil_of c.args.part c.args.whole) c.requires.divisor c.requires.part f.0 in
    let is : c.ceil_div.result ≡ ceil_of c.args.part c.args.whole =
    ceil-is c.args.part c.args.whole c.ceil_div.result c.requires.divisor (simp to_z-of_z at c.ceil_div.ensures.high) (simp to_z-of_z at c.ceil_div.ensures.low) in
    simp to_z-of_z (omega (arith, ints))

pub returns : goal.returns
returns c =
    let fits : FitsSigned w128 c.ceil_div.result = search rules in
    let part_fits : FitsSigned w128 c.args.part = c.ranges.part in
    let whole_fits : FitsSigned w128 c.args.whole = c.ranges.whole in
    let f = ceil-written c.args.part c.args.whole c.requires.divisor in
    let low : pos 0 ≤ℤ ceil_of c.args.part c.args.whole = minus-low c.args.part c.args.whole (ceil_of c.args.part c.args.whole) c.requires.divisor c.requires.part f.0 in
    let is : c.ceil_div.result ≡ ceil_of c.args.part c.args.whole =
    ceil-is c.args.part c.args.whole c.ceil_div.result c.requires.divisor (simp to_z-of_z at c.ceil_div.ensures.high) (simp to_z-of_z at c.ceil_div.ensures.low) in
    let minus : pos 0 -ℤ c.ceil_div.result ≡ neg_ℤ c.ceil_div.result = omega (arith, ints) in
    let minus_fits : FitsSigned w128 (pos 0 -ℤ c.ceil_div.result) = omega (arith, ints) in
    simp to_z-of_z (minus ∙ ap neg_ℤ is)
