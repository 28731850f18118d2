use Rattle.std.specs.Prelude.{ℕ, ◌<◌}
use Rattle.point_set.specs.Members.{ValueHoldsAmong}
use Rattle.point_set.proofs.values.first_value.Given as goal

abbrev pub invariant-loop-a : goal.invariant-loop-a
invariant-loop-a l = (b : ℕ) → b < l.a → ValueHoldsAmong l.fn.game l.fn.points l.fn.point b
