use Rattle.std.specs.Prelude.{length, ◌≡◌}
use Rattle.closing.proofs.bases.Basis.take.Given as goal

abbrev pub invariant-loop-member : goal.invariant-loop-member
invariant-loop-member l = length l.weights ≡ length l.fn.weights
