use Rattle.closing.specs.Better.{NodesGoOn, PointsGoOn}
use Rattle.closing.proofs.rounds.visit_all.Given as goal

abbrev pub invariant-loop-s : goal.invariant-loop-s
invariant-loop-s l = NodesGoOn l.game l.fn.nodes.members l.nodes.members × PointsGoOn l.game l.fn.points.members l.points.members
