use Rattle.std.proofs.Common.{◌≡◌, map}
use Rattle.std.specs.Prelude.{pos, slice_index_or, unsigned_abs}
use Rattle.scaled_num.specs.Sums.{below}
use Rattle.simulate.proofs.weights.mix_weights.Given as goal

abbrev pub invariant-loop-a : goal.invariant-loop-a
invariant-loop-a l = l.weights.items ≡ map (λ a. unsigned_abs (slice_index_or l.mix a (pos 0))) (below l.a)
