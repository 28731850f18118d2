use Rattle.std.specs.Prelude.{ℕ, ℤ, ◌*ℤ◌}
use Rattle.point_set.specs.Points.{points_of}
use Rattle.controller.proofs.Totals.{SumTo}
use Rattle.controller.proofs.sums.weighted_value.Given as goal

abbrev pub invariant-loop-start : goal.invariant-loop-start
invariant-loop-start l = SumTo (λ (start : ℕ × ℤ). start.1 *ℤ (points_of l.points.members start.0).value) l.starts l.start-index l.sum
