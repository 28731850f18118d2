use Rattle.std.proofs.Common.{rules}
use Rattle.std.specs.Prelude.{FitsSigned}
use Rattle.std.specs.Int.{w128}
use Rattle.std.proofs.lemmas.Int.{to_z-of_z}
use Rattle.point_set.specs.Members.{point_data}
use Rattle.stage_game.specs.Data.{upper_data}
use Rattle.backup.proofs.NewPoints.{new-among, new-right}
use Rattle.backup.proofs.new_points.new_point.Goals as goal

pub evaluation-requires : goal.evaluation-requires
evaluation-requires c =
    new-among c.args.game.now c.args.belief.now (upper_data c.args.advice.now) c.args.points.now.members (point_data c.in_ok-point.point) c.requires.belief c.requires.points c.requires.advice
    c.len.ensures.few c.in_ok-point.ensures

pub returns-clause-point : goal.returns-clause-point
returns-clause-point c =
    let fits : FitsSigned w128 c.evaluation.result = search rules in
    simp to_z-of_z ((new-right c.args.game.now c.law_game.ensures.accepted c.args.belief.now (upper_data c.args.advice.now) c.args.points.now.members (point_data c.in_ok-point.point) c.evaluation.result
    c.requires.belief c.requires.points c.requires.advice c.in_ok-point.ensures c.evaluation.ensures).point_is)

pub returns-clause-fits : goal.returns-clause-fits
returns-clause-fits c =
    let fits : FitsSigned w128 c.evaluation.result = search rules in
    simp to_z-of_z ((new-right c.args.game.now c.law_game.ensures.accepted c.args.belief.now (upper_data c.args.advice.now) c.args.points.now.members (point_data c.in_ok-point.point) c.evaluation.result
    c.requires.belief c.requires.points c.requires.advice c.in_ok-point.ensures c.evaluation.ensures).fits)

pub returns-clause-stands : goal.returns-clause-stands
returns-clause-stands c =
    let fits : FitsSigned w128 c.evaluation.result = search rules in
    simp to_z-of_z ((new-right c.args.game.now c.law_game.ensures.accepted c.args.belief.now (upper_data c.args.advice.now) c.args.points.now.members (point_data c.in_ok-point.point) c.evaluation.result
    c.requires.belief c.requires.points c.requires.advice c.in_ok-point.ensures c.evaluation.ensures).stands)

pub returns-clause-stays : goal.returns-clause-stays
returns-clause-stays c =
    let fits : FitsSigned w128 c.evaluation.result = search rules in
    simp to_z-of_z ((new-right c.args.game.now c.law_game.ensures.accepted c.args.belief.now (upper_data c.args.advice.now) c.args.points.now.members (point_data c.in_ok-point.point) c.evaluation.result
    c.requires.belief c.requires.points c.requires.advice c.in_ok-point.ensures c.evaluation.ensures).stays)
