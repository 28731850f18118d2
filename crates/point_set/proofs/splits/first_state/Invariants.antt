use Rattle.std.specs.Prelude.{ℕ, ◌<◌}
use Rattle.point_set.specs.Faults.{split_place}
use Rattle.point_set.proofs.Failing.{HoldsHere}
use Rattle.point_set.proofs.splits.first_state.Given as goal

abbrev pub invariant-loop-s : goal.invariant-loop-s
invariant-loop-s l = (t : ℕ) → t < l.s → HoldsHere l.fn.game l.fn.points l.fn.point (split_place (l.fn.a, l.fn.o, t))
