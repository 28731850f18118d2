use Rattle.std.proofs.Common.{ℕ, ◌≡◌, ◌<◌, length}
use Rattle.simplex.specs.Tableau.{RowsHold, list_at}
use Rattle.simplex.proofs.reserve.set_widths.Given as goal

abbrev pub invariant-loop-place : goal.invariant-loop-place
invariant-loop-place l = record {
  wide : (k : ℕ) → k < l.place → length (list_at l.rows k) ≡ l.width;
  hold : (most : ℕ) → RowsHold most l.initial.rows → RowsHold most l.rows;
}
