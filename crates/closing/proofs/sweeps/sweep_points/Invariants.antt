use Rattle.closing.specs.Better.{PointsGoOn}
use Rattle.closing.proofs.sweeps.sweep_points.Given as goal

abbrev pub invariant-loop : goal.invariant-loop
invariant-loop l = PointsGoOn l.game l.fn.points.members l.points.members
