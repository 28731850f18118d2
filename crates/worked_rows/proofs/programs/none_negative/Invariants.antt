use Rattle.std.proofs.Common.{ℕ, ◌<◌, ◌≤ℤ◌, pos}
use Rattle.simplex.specs.Program.{at}
use Rattle.worked_rows.proofs.programs.none_negative.Given as goal

abbrev pub invariant-loop-place : goal.invariant-loop-place
invariant-loop-place l = (k : ℕ) → k < l.place → pos 0 ≤ℤ (at l.row k)
