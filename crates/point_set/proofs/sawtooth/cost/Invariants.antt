use Rattle.point_set.proofs.PointBounds.{CostSoFar}
use Rattle.point_set.proofs.sawtooth.cost.Given as goal

abbrev pub invariant-loop-s : goal.invariant-loop-s
invariant-loop-s l = CostSoFar l.weights l.values l.s l.sum
