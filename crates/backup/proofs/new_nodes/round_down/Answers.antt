use Rattle.std.proofs.Common.{rules, arith, get_or, length, ◌<◌}
use Rattle.std.specs.Prelude.{pos, FitsSigned}
use Rattle.std.specs.Int.{w128}
use Rattle.std.proofs.lemmas.Int.{to_z-of_z}
use Rattle.scaled_num.specs.Share.{IsFloor, at}
use Rattle.backup.proofs.NewNodes.{rounded-more}
use Rattle.backup.proofs.new_nodes.round_down.Goals as goal

pub loop-number-preserved : goal.loop-number-preserved
loop-number-preserved c =
    let divisor_fits : FitsSigned w128 c.args.divisor = c.ranges.divisor in
    let x_fits : FitsSigned w128 (get_or c.loop-number.numbers c.loop-number.number-index (pos 0)) = search rules in
    let q_fits : FitsSigned w128 c.floor_div.result = search rules in
    let within : c.loop-number.number-index < length c.args.numbers.now = omega arith in
    let low = simp to_z-of_z at c.floor_div.ensures.low in
    let high = simp to_z-of_z at c.floor_div.ensures.high in
    let floor : IsFloor c.floor_div.result (at c.loop-number.numbers c.loop-number.number-index) c.args.divisor = record { low = search rules; high = search rules } in
    let before = simp to_z-of_z at c.loop-number.invariant in
    simp to_z-of_z (rounded-more c.args.divisor c.args.numbers.now c.loop-number.numbers c.loop-number.number-index c.floor_div.result within floor before)
