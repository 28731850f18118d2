use Rattle.std.proofs.Common.{◌∙◌, List, [], ◌∷◌, subst, sym}
use Rattle.std.specs.List.{AllByRecursion}
use Rattle.scaled_num.proofs.Sums.{each-append}
use Rattle.point_set.specs.Corners.{HasCorner}
use Rattle.point_set.specs.Members.{most_points, point_data}
use Rattle.point_set.specs.Points.{PointData, PointFits}
use Rattle.worked_rows.proofs.SeedsServe.{corner-kept}
use Rattle.worked_rows.proofs.ThreePoints.{corner-added, two-corner}
use Rattle.worked_rows.proofs.stages.push_point.Goals as goal

pub returns-clause-fit : goal.returns-clause-fit
returns-clause-fit c =
    let point : PointData = point_data c.in_ok-point.point in
    subst (AllByRecursion (PointFits c.args.game.now most_points)) (sym c.in-Ok.ensures.added)
    (each-append (PointFits c.args.game.now most_points) c.args.set.now.members (point ∷ []) c.requires.fit (c.in_ok-point.ensures.fits, tt))

pub returns-clause-keeps : goal.returns-clause-keeps
returns-clause-keeps c = λ s h.
    subst (λ (ps : List PointData). HasCorner ps s) (sym c.in-Ok.ensures.added) (corner-kept c.args.set.now.members (point_data c.in_ok-point.point) s h)

pub returns-clause-adds : goal.returns-clause-adds
returns-clause-adds c = λ s l e.
    let point : PointData = point_data c.in_ok-point.point in
    subst (λ (ps : List PointData). HasCorner ps s) (sym c.in-Ok.ensures.added) (corner-added c.args.set.now.members point s (two-corner point s l (c.in_ok-point.ensures.belief ∙ e)))
