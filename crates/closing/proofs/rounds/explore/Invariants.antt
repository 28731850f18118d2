use Rattle.closing.specs.Better.{NodesGoOn, PointsGoOn}
use Rattle.closing.proofs.rounds.explore.Given as goal

abbrev pub invariant-loop : goal.invariant-loop
invariant-loop l = NodesGoOn l.game l.fn.nodes.members l.nodes.members × PointsGoOn l.game l.fn.points.members l.points.members
