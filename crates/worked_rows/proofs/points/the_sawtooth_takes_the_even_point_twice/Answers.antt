use Rattle.std.proofs.Common.{arith, ◌∙◌, ◌∷◌, [], List, pos, subst, sym}
use Rattle.game_model.specs.Game.{AreCoprime}
use Rattle.belief.proofs.Parts.{corner-parts}
use Rattle.point_set.specs.Corners.{HasCorner}
use Rattle.point_set.specs.Members.{point_data}
use Rattle.point_set.specs.Points.{PointData}
use Rattle.point_set.specs.Sawtooth.{AreMeasured}
use Rattle.worked_rows.proofs.ThreePoints.{corner-added, two-corner}
use Rattle.worked_rows.proofs.points.the_sawtooth_takes_the_even_point_twice.Goals as goal

pub corner-requires : goal.corner-requires
corner-requires g c =
    let m : AreMeasured c.in-Ok-three_points.set.members (pos 2 ∷ pos 3 ∷ []) = c.in-Ok-three_points.ensures 2 3 (omega arith) in
    m.corners 0 (omega (arith, m.right.long))

pub plain_point-requires-clause-coprime : goal.plain_point-requires-clause-coprime
plain_point-requires-clause-coprime g c = subst AreCoprime (sym c.corner-3.ensures) (corner-parts 2 1 (omega arith) (omega arith)).coprime

pub corner-requires-4 : goal.corner-requires-4
corner-requires-4 g c =
    let lower : PointData = point_data c.in-Ok-plain_point.lower in
    subst (λ (ps : List PointData). HasCorner ps 1) (sym c.in-Ok-push.ensures.added) (corner-added _ lower 1 (two-corner lower 1 (omega arith) (c.in-Ok-plain_point.ensures.belief ∙ c.corner-3.ensures)))
