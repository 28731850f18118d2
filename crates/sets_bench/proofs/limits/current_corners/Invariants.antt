use Rattle.std.specs.Prelude.{ℕ, length, slice_index_or, ◌<◌, ◌≡◌}
use Rattle.point_set.specs.Corners.{IsCurrentCorner}
use Rattle.sets_bench.proofs.limits.current_corners.Given as goal

abbrev pub invariant-loop-s : goal.invariant-loop-s
invariant-loop-s l = record {
  places : length l.corners ≡ 16;
  each : (k : ℕ) → k < l.s → IsCurrentCorner l.points.members k (slice_index_or l.corners k 0);
}
