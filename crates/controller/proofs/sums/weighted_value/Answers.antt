use Rattle.std.proofs.Common.{ℕ, to_z}
use Rattle.std.specs.Prelude.{ℤ, ◌*ℤ◌}
use Rattle.std.specs.Int.{w128}
use Rattle.std.proofs.lemmas.Int.{to_z-of_z}
use Rattle.point_set.specs.Points.{points_of}
use Rattle.controller.specs.Sums.{IsSmallValue}
use Rattle.scaled_num.proofs.Sums.{each-at}
use Rattle.controller.proofs.StartTests.{no_start}
use Rattle.controller.proofs.Totals.{SumNext, sum-next}
use Rattle.controller.proofs.sums.weighted_value.Goals as goal

after : (c : goal.After-value_part-sum) → SumNext (λ (start : ℕ × ℤ). start.1 *ℤ (points_of c.args.points.now.members start.0).value) c.args.starts.now no_start c.loop-start.start-index (to_z w128 c.loop-start.sum-bits)
after c =
    sum-next (λ (start : ℕ × ℤ). start.1 *ℤ (points_of c.args.points.now.members start.0).value) c.args.starts.now no_start c.loop-start.start-index (to_z w128 c.loop-start.sum-bits) c.loop-start-test.true c.requires.starts.few
    (each-at (IsSmallValue c.args.points.now.members) no_start c.args.starts.now c.loop-start.start-index c.requires.small c.loop-start-test.true)
    c.loop-start.invariant

pub loop-start-preserved : goal.loop-start-preserved
loop-start-preserved c =
    let n = after c in
    let term_fits = n.term_fits in
    let sum_fits = n.sum_fits in
    simp (c.value_part-sum.ensures, to_z-of_z) n.so_far
