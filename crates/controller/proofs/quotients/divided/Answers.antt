use Rattle.std.proofs.Common.{refl, rules}
use Rattle.std.specs.Prelude.{FitsSigned}
use Rattle.std.specs.Int.{w128}
use Rattle.std.proofs.lemmas.Int.{to_z-of_z}
use Rattle.controller.proofs.Remainders.{divided-fits}
use Rattle.controller.proofs.quotients.divided.Goals as goal

pub returns : goal.returns
returns c =
    let over_sized : FitsSigned w128 c.args.over = search rules in
    let under_sized : FitsSigned w128 c.args.under = search rules in
    let low = simp to_z-of_z at c.floor_div-whole.ensures.low in
    let high = simp to_z-of_z at c.floor_div-whole.ensures.high in
    let f = divided-fits c.args.over c.args.under c.floor_div-whole.result c.requires.over c.requires.under low high in
    let whole = f.whole_fits in
    let product = f.product in
    let rest = f.rest in
    simp to_z-of_z (record { over_is = f.back; under_is = refl; narrow = record { under = c.requires.under; rest = f.rest_in; whole = f.small } })
