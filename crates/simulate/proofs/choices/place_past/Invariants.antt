use Rattle.std.proofs.Common.{◌≡◌, ◌+◌, ◌<◌, drop}
use Rattle.std.specs.List.{sum}
use Rattle.simulate.specs.Choices.{place_past}
use Rattle.simulate.proofs.choices.place_past.Given as goal

abbrev pub invariant-loop-place : goal.invariant-loop-place
invariant-loop-place l = record {
  left : l.left < sum (drop l.place l.weights);
  passed : place_past l.fn.number l.weights ≡ l.place + place_past l.left (drop l.place l.weights);
}
