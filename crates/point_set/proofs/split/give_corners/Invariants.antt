use Rattle.std.proofs.Common.{◌≡◌, get_or}
use Rattle.point_set.specs.Takes.{with_rests}
use Rattle.point_set.proofs.split.give_corners.Given as goal

abbrev pub invariant-loop-s : goal.invariant-loop-s
invariant-loop-s l = l.out ≡ with_rests (λ s. get_or l.fn.corners s 0) l.fn.rest l.fn.out l.s
