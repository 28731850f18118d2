use Rattle.std.proofs.Common.{rules, arith}
use Rattle.std.specs.Prelude.{◌*ℤ◌, FitsSigned}
use Rattle.std.specs.Int.{w128}
use Rattle.std.proofs.lemmas.Int.{ints, to_z-of_z}
use Rattle.point_set.proofs.Taking.{lesser-all, lesser-floor, product-fits}
use Rattle.point_set.proofs.takes.allowed.Goals as goal

pub overflow_mul-times : goal.overflow_mul-times
overflow_mul-times c =
    let times_fits : FitsSigned w128 c.args.times = c.ranges.times in
    let total_fits : FitsSigned w128 c.args.total = c.ranges.total in
    simp to_z-of_z (product-fits c.args.times c.args.total c.requires.times c.requires.total)

pub returns-then-times-total : goal.returns-then-times-total
returns-then-times-total c =
    let times_fits : FitsSigned w128 c.args.times = c.ranges.times in
    let total_fits : FitsSigned w128 c.args.total = c.ranges.total in
    let share_fits : FitsSigned w128 c.args.share = c.ranges.share in
    let fits : FitsSigned w128 (c.args.times *ℤ c.args.total) = product-fits c.args.times c.args.total c.requires.times c.requires.total in
    let test = simp to_z-of_z at c.if-times-total.true in
    simp to_z-of_z (lesser-all c.args.times c.args.share c.args.total c.requires.times.0 (omega (arith, ints, test)))

pub returns-else-times-total : goal.returns-else-times-total
returns-else-times-total c =
    let times_fits : FitsSigned w128 c.args.times = c.ranges.times in
    let total_fits : FitsSigned w128 c.args.total = c.ranges.total in
    let share_fits : FitsSigned w128 c.args.share = c.ranges.share in
    let result_fits : FitsSigned w128 c.floor_div.result = search rules in
    let fits : FitsSigned w128 (c.args.times *ℤ c.args.total) = product-fits c.args.times c.args.total c.requires.times c.requires.total in
    let test = simp to_z-of_z at c.if-times-total.false in
    simp to_z-of_z (lesser-floor c.args.times c.args.share c.args.total c.floor_div.result c.requires.share.0 c.requires.low (omega (arith, ints, test)) (simp to_z-of_z at c.floor_div.ensures.low) (simp to_z-of_z at c.floor_div.ensures.high))
