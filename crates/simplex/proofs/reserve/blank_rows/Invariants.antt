use Rattle.std.proofs.Common.{◌≤◌, ◌-◌, length, vec_capacity}
use Rattle.simplex.specs.Tableau.{RowsHold}
use Rattle.simplex.proofs.reserve.blank_rows.Given as goal

abbrev pub invariant-loop-alloc : goal.invariant-loop-alloc
invariant-loop-alloc l = record {
  count : length l.rows.items ≤ l.count;
  room : l.count ≤ vec_capacity l.rows;
  hold : RowsHold l.width l.rows.items;
}

abbrev pub decreases-loop-alloc : goal.decreases-loop-alloc
decreases-loop-alloc l = l.count - length l.rows.items
