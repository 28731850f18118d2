use Rattle.std.proofs.Common.{◌≡◌, ℕ, ◌+◌, ◌<◌, ◌-ℤ◌, ◌*ℤ◌}
use Rattle.simplex.specs.Program.{at}
use Rattle.simplex.proofs.row.combine.Given as goal

abbrev pub invariant-loop-column : goal.invariant-loop-column
invariant-loop-column l = (k : ℕ) → k < l.column → at l.new k ≡ at l.pivot (l.place + 2) *ℤ at l.row k -ℤ at l.row (l.place + 2) *ℤ at l.pivot k
