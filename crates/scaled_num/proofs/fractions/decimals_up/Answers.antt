use Rattle.std.proofs.Common.{ℤ, pos, ◌*ℤ◌, FitsSigned, to_z-of_z, rules, arith}
use Rattle.std.specs.Int.{w128}
use Rattle.std.proofs.lemmas.Int.{fits_signed_mul}
use Rattle.scaled_num.proofs.Places.{IfOk-then}
use Rattle.scaled_num.proofs.fractions.decimals_up.Goals as goal

pub returns : goal.returns
returns c =
    let num : ℤ = c.args.value.now.num in
    let den : ℤ = c.args.value.now.den in
    let fits_num : FitsSigned w128 num = search rules in
    let fits_den : FitsSigned w128 den = search rules in
    let fits_product : FitsSigned w128 (num *ℤ pos 1000000) = fits_signed_mul w128 num (pos 1000000) 20282409603651670423947251286016 1000000 c.requires (omega arith) (omega arith) in
    let fits_count : FitsSigned w128 c.ceil_div.result = search rules in
    let low = simp to_z-of_z at c.ceil_div.ensures.low in
    let high = simp to_z-of_z at c.ceil_div.ensures.high in
    let text = simp to_z-of_z at c.print_millionths.ensures in
    IfOk-then c.print_millionths.result text (λ text same. record { x = c.ceil_div.result; least = high; before = low; same = same })
