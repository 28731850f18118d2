use Rattle.std.proofs.Common.{rules, arith, ◌<◌, length, FitsSigned}
use Rattle.std.specs.Prelude.{ℤ, ◌<ℤ◌, ◌≤ℤ◌}
use Rattle.std.specs.Int.{w128}
use Rattle.std.proofs.lemmas.Int.{ints, to_z-of_z}
use Rattle.scaled_num.specs.Share.{at}
use Rattle.alpha_set.specs.Changes.{IsRaised}
use Rattle.alpha_set.proofs.Lifting.{raised-kept, raised-more}
use Rattle.alpha_set.proofs.lifts.raise.Goals as goal
use Rattle.alpha_set.proofs.lifts.raise.Goals.{then-entries-s, else-entries-s}

pub loop-s-preserved : goal.loop-s-preserved
loop-s-preserved c =
    let x : ℤ = c.raised-raised.result in
    let old : ℤ = at c.loop-s.entries c.loop-s.s in
    let worth : ℤ = at c.args.worths.now c.loop-s.s in
    let x_fits : FitsSigned w128 x = search rules in
    let old_fits : FitsSigned w128 old = search rules in
    let worth_fits : FitsSigned w128 worth = search rules in
    let divisor_fits : FitsSigned w128 c.args.divisor = c.ranges.divisor in
    let raised : IsRaised worth c.args.divisor old x = simp to_z-of_z at c.raised-raised.ensures in
    let inside : c.loop-s.s < length c.loop-s.entries = search (rules, arith) in
    let so_far = simp to_z-of_z at c.loop-s.invariant in
    elim c.if-entries-s.branch [
      | then-entries-s w ↦
          let told = simp to_z-of_z at w.if-entries-s.true in
          let higher : old <ℤ x = omega (arith, ints, told) in
          simp (w.entries-is, w.risen-is, to_z-of_z) (raised-more c.args.worths.now c.args.divisor c.args.entries.now c.loop-s.entries c.loop-s.s c.loop-s.risen x inside so_far raised higher)
      | else-entries-s w ↦
          let told = simp to_z-of_z at w.if-entries-s.false in
          let low : x ≤ℤ old = omega (arith, ints, told) in
          simp (w.entries-is, w.risen-is, to_z-of_z) (raised-kept c.args.worths.now c.args.divisor c.args.entries.now c.loop-s.entries c.loop-s.s c.loop-s.risen x so_far raised low)
    ]
