use Rattle.std.proofs.Common.{◌^◌, arith}
use Rattle.std.proofs.lemmas.Int.{to_z-of_z}
use Rattle.controller.proofs.Gap.{times-fits, within-size}
use Rattle.cert_check.proofs.bounds.times.Goals as goal

pub overflow_mul-result : goal.overflow_mul-result
overflow_mul-result c =
    let f = times-fits c.args.multiple c.args.weight (2 ^ 20) (2 ^ 20) (within-size c.args.multiple 0 (2 ^ 20) c.requires.multiple) (within-size c.args.weight 0 (2 ^ 20) c.requires.weight) (omega arith) (omega arith) (omega arith) in
    let first = f.first in
    let second = f.second in
    simp to_z-of_z f.product

pub returns : goal.returns
returns c =
    let f = times-fits c.args.multiple c.args.weight (2 ^ 20) (2 ^ 20) (within-size c.args.multiple 0 (2 ^ 20) c.requires.multiple) (within-size c.args.weight 0 (2 ^ 20) c.requires.weight) (omega arith) (omega arith) (omega arith) in
    let first = f.first in
    let second = f.second in
    let product = f.product in
    simp to_z-of_z
