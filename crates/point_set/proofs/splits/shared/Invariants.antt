use Rattle.std.proofs.Common.{◌≡◌, ◌≤◌, ◌*◌, ◌^◌, take}
use Rattle.std.specs.Prelude.{pos, sum_by}
use Rattle.point_set.specs.Members.{brought, data_of}
use Rattle.point_set.specs.Points.{points_of}
use Rattle.point_set.proofs.splits.shared.Given as goal

abbrev pub invariant-loop-share : goal.invariant-loop-share
invariant-loop-share l = record {
  is : l.sum ≡ pos (sum_by (brought (points_of (data_of l.points)) l.s) (take l.share-index l.shares));
  small : sum_by (brought (points_of (data_of l.points)) l.s) (take l.share-index l.shares) ≤ l.share-index * 2 ^ 86;
}
