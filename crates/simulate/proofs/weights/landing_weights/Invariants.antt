use Rattle.std.proofs.Common.{◌≡◌, take}
use Rattle.simulate.specs.Plays.{row_weights}
use Rattle.simulate.proofs.weights.landing_weights.Given as goal

abbrev pub invariant-loop-landing : goal.invariant-loop-landing
invariant-loop-landing l = l.weights.items ≡ row_weights (take l.landing-index l.row)
