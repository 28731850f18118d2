use Rattle.std.proofs.Common.{rules, arith, ◌<◌, ◌^◌, below_more, FitsSigned, ℕ, ℤ, pos}
use Rattle.std.specs.Prelude.{◌*ℤ◌, ◌≤ℤ◌}
use Rattle.std.specs.Int.{w128}
use Rattle.std.proofs.lemmas.Int.{ints, to_z-of_z}
use Rattle.scaled_num.specs.Share.{at}
use Rattle.scaled_num.proofs.Sums.{each-at}
use Rattle.game_model.specs.Game.{IsWithin}
use Rattle.point_set.proofs.MostTimes.{times-fit}
use Rattle.point_set.proofs.times.fits_times.Goals as goal

pub loop-s-preserved : goal.loop-s-preserved
loop-s-preserved c =
    let s : ℕ = c.loop-s.s in
    let times : ℤ = c.args.times in
    let weight : ℤ = at c.args.belief.now s in
    let times_fits : FitsSigned w128 times = c.ranges.times in
    let within : IsWithin (pos 0) (pos (2 ^ 20)) weight = each-at (IsWithin (pos 0) (pos (2 ^ 20))) (pos 0) c.args.belief.now s c.requires.belief.each c.loop-s-test.true in
    let weight_fits : FitsSigned w128 weight = search rules in
    let part_fits : FitsSigned w128 (at c.args.mass.now s) = search rules in
    let product_fits : FitsSigned w128 (times *ℤ weight) = times-fit times weight c.requires.times within in
    let test = simp to_z-of_z at c.if-times-weight.false in
    let here : (times *ℤ weight) ≤ℤ at c.args.mass.now s = omega (arith, ints, test) in
    let so : (t : ℕ) → t < s → (times *ℤ at c.args.belief.now t) ≤ℤ at c.args.mass.now t = simp to_z-of_z at c.loop-s.invariant in
    simp to_z-of_z (below_more (λ t. (times *ℤ at c.args.belief.now t) ≤ℤ at c.args.mass.now t) s so here)
