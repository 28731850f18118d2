use Rattle.std.proofs.Common.{rules, FitsSigned, ◌≡◌, ◌∙◌, List, length, ap, subst, sym}
use Rattle.std.specs.Int.{w128}
use Rattle.std.proofs.lemmas.Int.{to_z-of_z}
use Rattle.scaled_num.proofs.Sums.{each-at}
use Rattle.game_model.specs.Game.{GameData, numbers}
use Rattle.point_set.specs.Changes.{IsLoweredValue}
use Rattle.point_set.specs.Corners.{point_at}
use Rattle.point_set.specs.Faults.{SplitsHold}
use Rattle.point_set.specs.Members.{data_of, point_data}
use Rattle.point_set.specs.Points.{PointData, PointFits, no_point, point_of, points_of}
use Rattle.point_set.specs.declared.points.Point.{Point}
use Rattle.point_set.proofs.Settling.{data-here, fitting-member, inside-data}
use Rattle.point_set.proofs.settles.value_at.Goals as goal

pub lowered-requires-clause-member : goal.lowered-requires-clause-member
lowered-requires-clause-member c =
    let g : GameData = c.args.game.now in
    let points : List Point = c.args.points.now in
    let here : point_data c.index-points-number.result ≡ point_at (data_of points) c.args.number = ap point_data c.index-points-number.is ∙ data-here points c.args.number c.index-points-number.result c.requires.member in
    fitting-member g points c.index-points-number.result c.requires.few c.requires.fits
    (subst (PointFits g (length points)) (sym here) (each-at (PointFits g (length points)) no_point (data_of points) c.args.number c.requires.fits (inside-data points c.args.number c.requires.member)))

pub lowered-requires-clause-splits : goal.lowered-requires-clause-splits
lowered-requires-clause-splits c =
    let g : GameData = c.args.game.now in
    let points : List Point = c.args.points.now in
    let here : point_data c.index-points-number.result ≡ point_at (data_of points) c.args.number = ap point_data c.index-points-number.is ∙ data-here points c.args.number c.index-points-number.result c.requires.member in
    subst (λ (x : PointData). SplitsHold (numbers g) (points_of (data_of points)) (point_of x)) (sym here) c.requires.splits

pub returns : goal.returns
returns c =
    let g : GameData = c.args.game.now in
    let points : List Point = c.args.points.now in
    let here : point_data c.index-points-number.result ≡ point_at (data_of points) c.args.number = ap point_data c.index-points-number.is ∙ data-here points c.args.number c.index-points-number.result c.requires.member in
    let fits : FitsSigned w128 c.lowered.result = search rules in
    simp to_z-of_z (subst (λ (x : PointData). IsLoweredValue g (data_of points) x c.lowered.result) here c.lowered.ensures)
