use Rattle.std.proofs.Common.{◌≤◌, ◌^◌}
use Rattle.point_set.specs.Bounds.{cost_size}
use Rattle.point_set.proofs.PointBounds.{CostSoFar}
use Rattle.point_set.proofs.gaps.wrapping_cost.Given as goal

abbrev pub invariant-loop-s : goal.invariant-loop-s
invariant-loop-s l = cost_size l.weights l.values ≤ 2 ^ 124 → CostSoFar l.weights l.values l.s l.sum
