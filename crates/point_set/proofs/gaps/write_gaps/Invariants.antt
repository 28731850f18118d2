use Rattle.std.proofs.Common.{◌≡◌, ℕ, ◌<◌, ◌≤◌, length}
use Rattle.scaled_num.specs.Share.{at}
use Rattle.point_set.specs.Corners.{point_at}
use Rattle.point_set.specs.Kept.{IsGap}
use Rattle.point_set.specs.Members.{data_of}
use Rattle.point_set.proofs.gaps.write_gaps.Given as goal

abbrev pub invariant-loop-i : goal.invariant-loop-i
invariant-loop-i l = record {
  places : length l.gaps ≡ length l.fn.gaps;
  before : (j : ℕ) → j < l.fn.first → at l.gaps j ≡ at l.fn.gaps j;
  each : (j : ℕ) → l.fn.first ≤ j → j < l.i → IsGap l.values (point_at (data_of l.points) j) (at l.gaps j);
}
