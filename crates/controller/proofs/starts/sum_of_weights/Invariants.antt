use Rattle.std.specs.Prelude.{ℕ, ℤ}
use Rattle.controller.proofs.Lists.{SoFar}
use Rattle.controller.proofs.starts.sum_of_weights.Given as goal

abbrev pub invariant-loop-start : goal.invariant-loop-start
invariant-loop-start l = SoFar (λ (start : ℕ × ℤ). start.1) l.starts l.start-index l.sum
