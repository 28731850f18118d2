use Rattle.std.proofs.Common.{◌≡◌, ◌≤◌, take}
use Rattle.std.specs.Prelude.{unsigned_abs}
use Rattle.scaled_num.specs.Sums.{total}
use Rattle.point_set.specs.Members.{counted, counted_size, data_of}
use Rattle.point_set.specs.Points.{points_of}
use Rattle.point_set.proofs.values.counted_shares.Given as goal

abbrev pub invariant-loop-share : goal.invariant-loop-share
invariant-loop-share l = record {
  is : l.sum ≡ total (counted (points_of (data_of l.fn.points))) (take l.share-index l.fn.shares);
  small : unsigned_abs l.sum ≤ counted_size (points_of (data_of l.fn.points)) (take l.share-index l.fn.shares);
}
