use Rattle.std.specs.Prelude.{slice_index}
use Rattle.point_set.specs.Sawtooth.{AreCorners}
use Rattle.closing.proofs.wishes.write_corners.Given as goal

abbrev pub invariant-loop-s : goal.invariant-loop-s
invariant-loop-s l = AreCorners l.fn.points.members l.s (λ s. slice_index l.corners s)
