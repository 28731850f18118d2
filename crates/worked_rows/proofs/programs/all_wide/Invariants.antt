use Rattle.std.proofs.Common.{ℕ, ◌<◌, ◌≡◌, length}
use Rattle.simplex.specs.Tableau.{list_at}
use Rattle.worked_rows.proofs.programs.all_wide.Given as goal

abbrev pub invariant-loop-place : goal.invariant-loop-place
invariant-loop-place l = (k : ℕ) → k < l.place → length (list_at l.rows k) ≡ l.width
