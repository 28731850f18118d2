use Rattle.std.proofs.Common.{◌≡◌, ◌<◌, ◌^◌, ◌+◌, List, length, rules, arith, sym, subst}
use Rattle.std.specs.Prelude.{ℤ, pos, FitsSigned, ◌≤ℤ◌}
use Rattle.std.specs.Int.{w128}
use Rattle.std.proofs.lemmas.Int.{ints, to_z-of_z}
use Rattle.scaled_num.specs.Share.{at}
use Rattle.scaled_num.proofs.Sums.{each-at}
use Rattle.game_model.specs.Game.{IsWithin}
use Rattle.point_set.specs.Split.{less_times}
use Rattle.point_set.proofs.Taking.{LessSoFar, less-all, less-next, less-none, less-skip, less-start, place-fits}
use Rattle.point_set.proofs.takes.lessen.Goals as goal
use Rattle.point_set.proofs.takes.lessen.Goals.{then-part-gt0, else-part-gt0}

pub returns-then-times-eq0 : goal.returns-then-times-eq0
returns-then-times-eq0 c =
    let none : c.args.times ≡ pos 0 = search rules in
    subst (λ (t : ℤ). c.args.rest.now ≡ less_times c.args.rest.now c.args.belief.now t) (sym none) (less-none c.args.rest.now c.args.belief.now)

pub loop-s-init : goal.loop-s-init
loop-s-init c =
    let times_fits : FitsSigned w128 c.args.times = c.ranges.times in
    simp to_z-of_z (less-start c.args.rest.now c.args.belief.now c.args.times)

pub overflow_mul-rest : goal.overflow_mul-rest
overflow_mul-rest c =
    let times_fits : FitsSigned w128 c.args.times = c.ranges.times in
    let so : LessSoFar c.args.rest.now c.args.belief.now c.args.times c.loop-s.s c.loop-s.rest = simp to_z-of_z at c.loop-s.invariant in
    let f = place-fits c.args.rest.now c.args.belief.now c.args.times c.loop-s.s c.loop-s.rest c.requires.belief c.requires.mass c.requires.sum c.requires.times c.requires.fits so c.loop-s-test.true in
    let part_fits = f.part_fits in
    simp to_z-of_z f.product_fits

pub overflow_sub-rest : goal.overflow_sub-rest
overflow_sub-rest c =
    let times_fits : FitsSigned w128 c.args.times = c.ranges.times in
    let so : LessSoFar c.args.rest.now c.args.belief.now c.args.times c.loop-s.s c.loop-s.rest = simp to_z-of_z at c.loop-s.invariant in
    let f = place-fits c.args.rest.now c.args.belief.now c.args.times c.loop-s.s c.loop-s.rest c.requires.belief c.requires.mass c.requires.sum c.requires.times c.requires.fits so c.loop-s-test.true in
    let part_fits = f.part_fits in
    let rest_fits = f.rest_fits in
    let product_fits = f.product_fits in
    simp to_z-of_z f.less_fits

pub loop-s-preserved : goal.loop-s-preserved
loop-s-preserved c =
    let times_fits : FitsSigned w128 c.args.times = c.ranges.times in
    let so : LessSoFar c.args.rest.now c.args.belief.now c.args.times c.loop-s.s c.loop-s.rest = simp to_z-of_z at c.loop-s.invariant in
    let f = place-fits c.args.rest.now c.args.belief.now c.args.times c.loop-s.s c.loop-s.rest c.requires.belief c.requires.mass c.requires.sum c.requires.times c.requires.fits so c.loop-s-test.true in
    let part_fits = f.part_fits in
    let rest_fits = f.rest_fits in
    let product_fits = f.product_fits in
    let less_fits = f.less_fits in
    let part = each-at (IsWithin (pos 0) (pos (2 ^ 20))) (pos 0) c.args.belief.now c.loop-s.s c.requires.belief.each c.loop-s-test.true in
    let inside : c.loop-s.s < length c.loop-s.rest = omega (arith, so.long, c.requires.belief.long, c.loop-s-test.true) in
    elim c.if-part-gt0.branch [
      | then-part-gt0 w ↦
          let is = simp to_z-of_z at w.rest-is in
          simp to_z-of_z (subst (λ (r : List ℤ). LessSoFar c.args.rest.now c.args.belief.now c.args.times (c.loop-s.s + 1) r) (sym is)
          (less-next c.args.rest.now c.args.belief.now c.args.times c.loop-s.s c.loop-s.rest so inside))
      | else-part-gt0 w ↦
          let test = simp to_z-of_z at w.if-part-gt0.false in
          let high : at c.args.belief.now c.loop-s.s ≤ℤ pos 0 = omega (arith, ints, test) in
          simp to_z-of_z (subst (λ (r : List ℤ). LessSoFar c.args.rest.now c.args.belief.now c.args.times (c.loop-s.s + 1) r) (sym w.rest-is)
          (less-skip c.args.rest.now c.args.belief.now c.args.times c.loop-s.s c.loop-s.rest so part.0 high))
    ]

pub returns : goal.returns
returns c =
    let times_fits : FitsSigned w128 c.args.times = c.ranges.times in
    let so : LessSoFar c.args.rest.now c.args.belief.now c.args.times c.loop-s.s c.loop-s.rest = simp to_z-of_z at c.loop-s.invariant in
    less-all c.args.rest.now c.args.belief.now c.args.times c.loop-s.s c.loop-s.rest so (omega (arith, c.requires.belief.long))
