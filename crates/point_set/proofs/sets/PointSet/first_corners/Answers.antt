use Rattle.std.proofs.Common.{subst, sym}
use Rattle.std.proofs.lemmas.List.{get_or-take}
use Rattle.point_set.specs.Corners.{IsCurrentCorner}
use Rattle.point_set.specs.Kept.{AreKept}
use Rattle.game_model.specs.Sets.{SetData}
use Rattle.point_set.specs.Points.{PointData}
use Rattle.point_set.proofs.CornerNumbers.{current-corner}
use Rattle.point_set.proofs.sets.PointSet.first_corners.Goals as goal

pub returns-clause-current : goal.returns-clause-current
returns-clause-current c =
    let kept : AreKept c.args.self.now.members c.self.inside.corners = subst (λ (set : SetData PointData). AreKept set.members c.self.inside.corners) c.self.view_is c.self.invariant.0.corners_kept in
    λ s l. subst (IsCurrentCorner c.args.self.now.members s) (sym (get_or-take c.args.states c.self.inside.corners s 0 l)) (current-corner c.args.self.now.members c.self.inside.corners s kept (c.requires.corners s l))
