use Rattle.std.proofs.Common.{take}
use Rattle.point_set.specs.Kept.{AreKept}
use Rattle.point_set.specs.Members.{data_of}
use Rattle.point_set.proofs.renewing.corners_of.Given as goal

abbrev pub invariant-loop-i : goal.invariant-loop-i
invariant-loop-i l = AreKept (data_of (take l.i l.points)) l.corners
