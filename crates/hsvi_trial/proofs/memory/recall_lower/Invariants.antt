use Rattle.std.proofs.Common.{◌≡◌}
use Rattle.hsvi_trial.proofs.memory.recall_lower.Given as goal

abbrev pub invariant-loop-i : goal.invariant-loop-i
invariant-loop-i l = l.sides.items ≡ l.fn.sides.items
