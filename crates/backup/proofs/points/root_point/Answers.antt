use Rattle.std.proofs.Common.{rules, ◌∙◌, List, ap}
use Rattle.std.specs.Prelude.{ℤ, pos, FitsSigned}
use Rattle.std.specs.Int.{w128}
use Rattle.std.proofs.lemmas.Int.{to_z-of_z}
use Rattle.belief.specs.Mixes.{pure_mixes}
use Rattle.game_model.specs.Game.{GameData}
use Rattle.point_set.specs.Members.{point_data}
use Rattle.backup.specs.Seeds.{corner_split}
use Rattle.backup.proofs.SeedPoints.{root-among, root-is}
use Rattle.backup.proofs.points.root_point.Goals as goal

pub evaluation-requires : goal.evaluation-requires
evaluation-requires c =
    let g : GameData = c.args.game.now in
    root-among g c.args.replies.now c.args.corners.now.members (point_data c.in_ok-point.point) c.requires
    (c.in_ok-point.ensures ∙ ap (λ (parts : List ℤ). corner_split g parts (pos 0) (pure_mixes g c.args.replies.now)) c.first_of.ensures)

pub returns : goal.returns
returns c =
    let g : GameData = c.args.game.now in
    let fits : FitsSigned w128 c.evaluation.result = search rules in
    simp to_z-of_z (root-is g c.args.replies.now c.args.corners.now.members (point_data c.in_ok-point.point) c.evaluation.result
    (c.in_ok-point.ensures ∙ ap (λ (parts : List ℤ). corner_split g parts (pos 0) (pure_mixes g c.args.replies.now)) c.first_of.ensures)
    c.evaluation.ensures)
