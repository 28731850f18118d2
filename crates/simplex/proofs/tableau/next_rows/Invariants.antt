use Rattle.std.proofs.Common.{ℕ, ◌<◌, ◌≡◌, length}
use Rattle.simplex.specs.Tableau.{lists_of, list_at, AreMade, RowsHold}
use Rattle.simplex.proofs.tableau.next_rows.Given as goal

abbrev pub invariant-loop-row : goal.invariant-loop-row
invariant-loop-row l = record {
  made : AreMade (lists_of l.rows) l.leave l.place l.row (lists_of l.next);
  wide : (k : ℕ) → k < length l.next → length (list_at l.next k) ≡ length (list_at l.rows l.leave);
  room : (width : ℕ) → RowsHold width l.initial.next → RowsHold width l.next;
}
