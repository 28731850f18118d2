use Rattle.std.proofs.Common.{[], List, filter_map}
use Rattle.scaled_num.proofs.Places.{IfOk-then}
use Rattle.game_model.specs.Game.{GameData}
use Rattle.point_set.specs.Points.{PointData}
use Rattle.stage_game.specs.Masses.{masses}
use Rattle.stage_game.specs.Preferred.{GoesOnBest}
use Rattle.stage_game.proofs.MadeCandidates.{priced-points-serve}
use Rattle.stage_game.proofs.candidates.priced_upper.Goals as goal

pub returns-clause-candidates : goal.returns-clause-candidates
returns-clause-candidates c =
    let h : GoesOnBest c.args.points.now.members (masses c.args.game.now c.args.belief.now c.args.mixes.now) c.in_ok-others.others.items c.prefer_best.new.others.items = c.in_ok-prefer_best.ensures in
    IfOk-then c.corners_and.result (c.corners_and.ensures (filter_map (λ answer. answer) h.answers) (h.goes_on [] c.in_ok-others.ensures.items))
    (λ found are. record { answers = h.answers; at_masses = h.best; are = are })

pub returns-clause-serve : goal.returns-clause-serve
returns-clause-serve c =
    let g : GameData = c.args.game.now in
    let points : List PointData = c.args.points.now.members in
    IfOk-then c.corners_and.result (returns-clause-candidates c)
    (λ found p. priced-points-serve g c.law_game.ensures.accepted c.args.belief.now c.requires.belief.right c.args.mixes.now c.requires.mixes points c.requires.points found.items p)
