use Rattle.std.proofs.Common.{◌≡◌, ◌+ℤ◌, ◌-ℤ◌, ◌*ℤ◌, ◌<ℤ◌, ◌≤ℤ◌, ◌<◌, ℤ, pos, FitsSigned, int_div, int_rem, unsigned_abs, to_z-of_z, arith}
use Rattle.std.specs.Int.{w128}
use Rattle.std.proofs.lemmas.Int.{ints, quot-rem, rem_below, quot_fits, fits_signed_from_abs}
use Rattle.scaled_num.proofs.Quotient.{down_then, down_else, less_fits}
use Rattle.scaled_num.proofs.floor_div.Goals as goal

pub returns-then-rest-lt0-clause-low : goal.returns-then-rest-lt0-clause-low
returns-then-rest-lt0-clause-low c =
    let a : ℤ = c.args.a in
    let b : ℤ = c.args.b in
    let fa : FitsSigned w128 a = c.ranges.a in
    let fb : FitsSigned w128 b = c.ranges.b in
    let fq : FitsSigned w128 (int_div a b) = quot_fits w128 a b fa c.requires in
    let below : unsigned_abs (int_rem a b) < unsigned_abs b = rem_below a b (omega (arith, ints)) in
    let sum : int_div a b *ℤ b +ℤ int_rem a b ≡ a = quot-rem a b in
    let fr : FitsSigned w128 (int_rem a b) = fits_signed_from_abs w128 (int_rem a b) (omega (arith, ints)) in
    let sign : (int_rem a b) <ℤ pos 0 = grind (arith, to_z-of_z, ints, c.if-rest-lt0.true) in
    let fs : FitsSigned w128 (int_div a b -ℤ pos 1) = less_fits a b (int_div a b) (int_rem a b) sum below c.requires sign fa fq in
    simp to_z-of_z ((down_then a b (int_div a b) (int_rem a b) sum below c.requires sign).0)

pub returns-then-rest-lt0-clause-high : goal.returns-then-rest-lt0-clause-high
returns-then-rest-lt0-clause-high c =
    let a : ℤ = c.args.a in
    let b : ℤ = c.args.b in
    let fa : FitsSigned w128 a = c.ranges.a in
    let fb : FitsSigned w128 b = c.ranges.b in
    let fq : FitsSigned w128 (int_div a b) = quot_fits w128 a b fa c.requires in
    let below : unsigned_abs (int_rem a b) < unsigned_abs b = rem_below a b (omega (arith, ints)) in
    let sum : int_div a b *ℤ b +ℤ int_rem a b ≡ a = quot-rem a b in
    let fr : FitsSigned w128 (int_rem a b) = fits_signed_from_abs w128 (int_rem a b) (omega (arith, ints)) in
    let sign : (int_rem a b) <ℤ pos 0 = grind (arith, to_z-of_z, ints, c.if-rest-lt0.true) in
    let fs : FitsSigned w128 (int_div a b -ℤ pos 1) = less_fits a b (int_div a b) (int_rem a b) sum below c.requires sign fa fq in
    simp to_z-of_z ((down_then a b (int_div a b) (int_rem a b) sum below c.requires sign).1)

pub returns-else-rest-lt0-clause-low : goal.returns-else-rest-lt0-clause-low
returns-else-rest-lt0-clause-low c =
    let a : ℤ = c.args.a in
    let b : ℤ = c.args.b in
    let fa : FitsSigned w128 a = c.ranges.a in
    let fb : FitsSigned w128 b = c.ranges.b in
    let fq : FitsSigned w128 (int_div a b) = quot_fits w128 a b fa c.requires in
    let below : unsigned_abs (int_rem a b) < unsigned_abs b = rem_below a b (omega (arith, ints)) in
    let sum : int_div a b *ℤ b +ℤ int_rem a b ≡ a = quot-rem a b in
    let fr : FitsSigned w128 (int_rem a b) = fits_signed_from_abs w128 (int_rem a b) (omega (arith, ints)) in
    let sign : pos 0 ≤ℤ (int_rem a b) = grind (arith, to_z-of_z, ints, c.if-rest-lt0.false) in
    simp to_z-of_z ((down_else a b (int_div a b *ℤ b) (int_rem a b) sum below c.requires sign).0)
