use Rattle.std.proofs.Common.{◌≤◌, length}
use Rattle.closing.proofs.starts.least_at.Given as goal

abbrev pub invariant-loop-k : goal.invariant-loop-k
invariant-loop-k l = l.best ≤ length l.fn.points.members
