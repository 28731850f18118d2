use Rattle.std.proofs.Common.{ℕ, ◌<◌, ◌+◌}
use Rattle.scaled_num.specs.Share.{at}
use Rattle.stage_game.proofs.Weighed.{IsWeighed}
use Rattle.stage_game.specs.Reading.{last_of}
use Rattle.stage_game.proofs.weights.read_primal_weights.Given as goal

abbrev pub invariant-loop-place : goal.invariant-loop-place
invariant-loop-place l = (k : ℕ) → k < l.place → IsWeighed (last_of l.fn.solver) (l.fn.first + k) (at l.weights k)
