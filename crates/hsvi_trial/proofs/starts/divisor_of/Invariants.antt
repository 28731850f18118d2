use Rattle.scaled_num.proofs.Divisors.{DivisorSoFar}
use Rattle.hsvi_trial.proofs.Weights.{weights}
use Rattle.hsvi_trial.proofs.starts.divisor_of.Given as goal

abbrev pub invariant-loop-i : goal.invariant-loop-i
invariant-loop-i l = DivisorSoFar (weights l.split) l.i l.divisor
