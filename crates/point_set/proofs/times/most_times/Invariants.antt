use Rattle.point_set.proofs.MostTimes.{TimesSoFar}
use Rattle.point_set.proofs.times.most_times.Given as goal

abbrev pub invariant-loop-s : goal.invariant-loop-s
invariant-loop-s l = TimesSoFar l.mass l.belief l.s l.times
