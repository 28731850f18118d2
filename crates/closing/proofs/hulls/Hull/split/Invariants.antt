use Rattle.std.specs.Prelude.{length, ◌≡◌}
use Rattle.closing.proofs.hulls.Hull.split.Given as goal

abbrev pub invariant-loop : goal.invariant-loop
invariant-loop l = length l.weights ≡ length l.fn.weights

abbrev pub invariant-loop-s : goal.invariant-loop-s
invariant-loop-s l = length l.weights ≡ length l.fn.weights
