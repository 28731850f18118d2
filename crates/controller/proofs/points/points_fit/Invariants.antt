use Rattle.std.specs.Prelude.{ℕ, length, slice_index_or, ◌<◌}
use Rattle.point_set.specs.Points.{PointFits, no_point}
use Rattle.controller.proofs.points.points_fit.Given as goal

abbrev pub invariant-loop-j : goal.invariant-loop-j
invariant-loop-j l = (k : ℕ) → k < l.j → PointFits l.game (length l.points.members) (slice_index_or l.points.members k no_point)
