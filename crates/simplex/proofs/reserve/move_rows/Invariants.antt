use Rattle.std.proofs.Common.{ℕ, ◌≡◌, ◌≤◌, ◌+◌, ◌-◌, length, vec_capacity}
use Rattle.simplex.specs.Tableau.{RowsHold}
use Rattle.simplex.proofs.reserve.move_rows.Given as goal

abbrev pub invariant-loop-from : goal.invariant-loop-from
invariant-loop-from l = record {
  enough : l.left ≤ length l.from.items;
  both : length l.from.items + length l.to.items ≡ length l.initial.from.items + length l.initial.to.items;
  from_room : vec_capacity l.from ≡ vec_capacity l.initial.from;
  to_room : vec_capacity l.to ≡ vec_capacity l.initial.to;
  hold : (width : ℕ) → RowsHold width l.initial.from.items → RowsHold width l.initial.to.items → RowsHold width l.from.items × RowsHold width l.to.items;
}

abbrev pub decreases-loop-from : goal.decreases-loop-from
decreases-loop-from l = length l.from.items - l.left
