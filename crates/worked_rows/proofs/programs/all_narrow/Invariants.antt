use Rattle.std.proofs.Common.{ℕ, ◌<◌}
use Rattle.simplex.specs.Program.{at, IsNarrow}
use Rattle.worked_rows.proofs.programs.all_narrow.Given as goal

abbrev pub invariant-loop-place : goal.invariant-loop-place
invariant-loop-place l = (k : ℕ) → k < l.place → IsNarrow (at l.row k)
