use Rattle.std.specs.Prelude.{ℕ, pos, slice_index_or, ◌<◌}
use Rattle.controller.specs.Starts.{IsStart}
use Rattle.controller.proofs.starts.are_in_range.Given as goal

abbrev pub invariant-loop-start : goal.invariant-loop-start
invariant-loop-start l = (k : ℕ) → k < l.start-index → IsStart l.fn.count l.fn.most (slice_index_or l.starts k (0, pos 0))
