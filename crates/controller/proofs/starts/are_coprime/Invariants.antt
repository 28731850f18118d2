use Rattle.scaled_num.proofs.Divisors.{DivisorSoFar}
use Rattle.controller.proofs.StartTests.{weights_of}
use Rattle.controller.proofs.starts.are_coprime.Given as goal

abbrev pub invariant-loop-start : goal.invariant-loop-start
invariant-loop-start l = DivisorSoFar (weights_of l.starts) l.start-index l.divisor
