use Rattle.std.specs.Prelude.{◌<◌}
use Rattle.closing.proofs.branches.Frontier.take.Given as goal

abbrev pub invariant-loop-i : goal.invariant-loop-i
invariant-loop-i l = l.best < l.i
