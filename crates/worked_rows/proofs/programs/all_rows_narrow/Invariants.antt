use Rattle.std.proofs.Common.{ℕ, ◌<◌}
use Rattle.simplex.specs.Program.{AllNarrow}
use Rattle.simplex.specs.Tableau.{list_at}
use Rattle.worked_rows.proofs.programs.all_rows_narrow.Given as goal

abbrev pub invariant-loop-place : goal.invariant-loop-place
invariant-loop-place l = (k : ℕ) → k < l.place → AllNarrow (list_at l.rows k)
