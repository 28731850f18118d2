use Rattle.std.specs.Prelude.{ℕ, ◌<◌}
use Rattle.point_set.specs.Corners.{HasCorner}
use Rattle.sets_bench.proofs.limits.has_corners.Given as goal

abbrev pub invariant-loop-s : goal.invariant-loop-s
invariant-loop-s l = (k : ℕ) → k < l.s → HasCorner l.points.members k
