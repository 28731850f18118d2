use Rattle.std.proofs.Common.{◌≡◌, ℕ, ◌<◌, get_or, length}
use Rattle.scaled_num.specs.Share.{at}
use Rattle.point_set.specs.Corners.{point_at}
use Rattle.point_set.specs.Members.{data_of}
use Rattle.point_set.proofs.gaps.corner_values.Given as goal

abbrev pub invariant-loop-s : goal.invariant-loop-s
invariant-loop-s l = record {
  places : length l.values ≡ 16;
  each : (t : ℕ) → t < l.s → at l.values t ≡ (point_at (data_of l.points) (get_or l.corners t 0)).value;
}
