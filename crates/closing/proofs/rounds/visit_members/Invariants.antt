use Rattle.closing.specs.Better.{PointsGoOn}
use Rattle.closing.proofs.rounds.visit_members.Given as goal

abbrev pub invariant-loop-i : goal.invariant-loop-i
invariant-loop-i l = PointsGoOn l.game l.fn.points.members l.points.members
