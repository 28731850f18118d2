use Rattle.std.proofs.Common.{◌≡◌, map}
use Rattle.scaled_num.specs.Sums.{below}
use Rattle.game_model.specs.Game.{first_at}
use Rattle.simulate.proofs.weights.first_weights.Given as goal

abbrev pub invariant-loop-s : goal.invariant-loop-s
invariant-loop-s l = l.weights.items ≡ map (first_at l.game) (below l.s)
