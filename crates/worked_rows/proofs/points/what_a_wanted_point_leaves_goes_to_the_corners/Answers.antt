use Rattle.std.proofs.Common.{arith, ◌∷◌, [], pos}
use Rattle.point_set.specs.Sawtooth.{AreMeasured}
use Rattle.worked_rows.proofs.ThreePoints.{third-wanted}
use Rattle.worked_rows.proofs.points.what_a_wanted_point_leaves_goes_to_the_corners.Goals as goal

pub corner-requires : goal.corner-requires
corner-requires g c =
    let m : AreMeasured c.in-Ok-three_points.set.members (pos 2 ∷ pos 3 ∷ []) = c.in-Ok-three_points.ensures 2 3 (omega arith) in
    m.corners 0 (omega (arith, m.right.long))

pub split_into-requires-clause-wanted : goal.split_into-requires-clause-wanted
split_into-requires-clause-wanted g c = third-wanted c.in-Ok-three_points.set.members c.corner.result c.corner-2.result (omega arith) c.corner.ensures c.corner-2.ensures
