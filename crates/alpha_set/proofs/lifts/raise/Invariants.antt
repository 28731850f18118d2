use Rattle.alpha_set.proofs.Lifting.{RaisedFirst}
use Rattle.alpha_set.proofs.lifts.raise.Given as goal

abbrev pub invariant-loop-s : goal.invariant-loop-s
invariant-loop-s l = RaisedFirst l.worths l.divisor l.fn.entries l.s l.entries l.risen
