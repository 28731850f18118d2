use Rattle.std.proofs.Common.{◌≡◌, ◌≤◌}
use Rattle.std.specs.Prelude.{filter, sum_by, unsigned_abs}
use Rattle.scaled_num.specs.Sums.{below}
use Rattle.point_set.specs.Members.{IsAfter, counted_after, counted_size, data_of}
use Rattle.point_set.specs.Points.{points_of}
use Rattle.point_set.proofs.values.counted.Given as goal

abbrev pub invariant-loop-o : goal.invariant-loop-o
invariant-loop-o l = record {
  is : l.sum ≡ counted_after (points_of (data_of l.fn.points)) l.fn.splits l.o l.fn.a;
  small : unsigned_abs l.sum ≤ sum_by (λ o. counted_size (points_of (data_of l.fn.points)) (filter (IsAfter l.fn.a o) l.fn.splits)) (below l.o);
}
