use Rattle.hsvi_trial.specs.Least.{IsLeastOrNone}
use Rattle.hsvi_trial.proofs.least.least_at.Given as goal

abbrev pub invariant-loop-j : goal.invariant-loop-j
invariant-loop-j l = IsLeastOrNone l.points.members l.belief l.j l.least
