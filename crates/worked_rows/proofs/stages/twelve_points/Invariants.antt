use Rattle.stage_game.specs.Asked.{PointsServe}
use Rattle.worked_rows.proofs.stages.twelve_points.Given as goal

abbrev pub invariant-loop : goal.invariant-loop
invariant-loop l = PointsServe l.game l.set.members
