use Rattle.std.proofs.Common.{◌≡◌, map}
use Rattle.std.specs.Prelude.{unsigned_abs}
use Rattle.scaled_num.specs.Sums.{below}
use Rattle.belief.specs.Mixes.{mix_at}
use Rattle.simulate.proofs.weights.state_weights.Given as goal

abbrev pub invariant-loop-c : goal.invariant-loop-c
invariant-loop-c l = l.weights.items ≡ map (λ c. unsigned_abs (mix_at l.mixes l.s c)) (below l.c)
