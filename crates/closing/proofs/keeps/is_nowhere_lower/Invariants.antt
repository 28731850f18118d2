use Rattle.std.specs.Prelude.{ℕ, ◌<◌, ◌≤ℤ◌}
use Rattle.scaled_num.specs.Share.{at}
use Rattle.closing.proofs.keeps.is_nowhere_lower.Given as goal

abbrev pub invariant-loop-s : goal.invariant-loop-s
invariant-loop-s l = (t : ℕ) → t < l.s → at l.old t ≤ℤ at l.new t
