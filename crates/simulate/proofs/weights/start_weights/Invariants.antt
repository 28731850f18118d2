use Rattle.std.proofs.Common.{◌≡◌, map, take}
use Rattle.std.specs.Prelude.{unsigned_abs}
use Rattle.simulate.proofs.weights.start_weights.Given as goal

abbrev pub invariant-loop-start : goal.invariant-loop-start
invariant-loop-start l = l.weights.items ≡ map (λ start. unsigned_abs start.1) (take l.start-index l.starts)
