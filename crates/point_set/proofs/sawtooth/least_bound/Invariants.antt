use Rattle.std.proofs.Common.{get_or}
use Rattle.point_set.specs.Members.{data_of}
use Rattle.point_set.proofs.FirstBest.{LeadSoFar}
use Rattle.point_set.proofs.sawtooth.least_bound.Given as goal

abbrev pub invariant-loop-k : goal.invariant-loop-k
invariant-loop-k l = LeadSoFar (data_of l.fn.points) (λ s. get_or l.fn.corners s 0) l.fn.mass l.k l.least l.best
