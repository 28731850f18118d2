use Rattle.std.specs.Prelude.{ℕ, ℤ, ◌*ℤ◌}
use Rattle.scaled_num.specs.Share.{at}
use Rattle.point_set.specs.Corners.{point_at}
use Rattle.controller.proofs.Totals.{SumTo}
use Rattle.controller.proofs.sums.weighted_belief.Given as goal

abbrev pub invariant-loop-start : goal.invariant-loop-start
invariant-loop-start l = SumTo (λ (start : ℕ × ℤ). start.1 *ℤ at (point_at l.points.members start.0).belief l.s) l.starts l.start-index l.sum
