use Rattle.std.proofs.Common.{◌≡◌, ℕ, length, map, take}
use Rattle.std.specs.Prelude.{ℤ}
use Rattle.point_set.proofs.takes.copy_weights.Given as goal

abbrev pub invariant-loop-index : goal.invariant-loop-index
invariant-loop-index l = record {
  same_length : length l.weights ≡ length l.wanted;
  written : take l.index l.weights ≡ map (λ (want : ℕ × ℤ). want.1) (take l.index l.wanted);
}
