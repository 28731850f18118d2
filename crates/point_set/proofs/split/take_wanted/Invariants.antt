use Rattle.point_set.specs.Members.{data_of}
use Rattle.point_set.proofs.Wanted.{WantedSoFar}
use Rattle.point_set.proofs.split.take_wanted.Given as goal

abbrev pub invariant-loop-index : goal.invariant-loop-index
invariant-loop-index l = WantedSoFar (data_of l.fn.points) l.fn.rest l.fn.wanted l.fn.shares l.index l.rest l.out
