use Rattle.std.proofs.Common.{◌≡◌, ℕ, ◌<◌}
use Rattle.simplex.specs.Program.{at}
use Rattle.simplex.proofs.quotients.fill_words.Given as goal

abbrev pub invariant-loop-column : goal.invariant-loop-column
invariant-loop-column l = (k : ℕ) → k < l.column → at l.words k ≡ at l.pivot k
