use Rattle.point_set.proofs.Taking.{LessSoFar}
use Rattle.point_set.proofs.takes.lessen.Given as goal

abbrev pub invariant-loop-s : goal.invariant-loop-s
invariant-loop-s l = LessSoFar l.fn.rest l.fn.belief l.times l.s l.rest
