use Rattle.std.specs.Prelude.{ℕ, suc, pos, slice_index_or, ◌<◌}
use Rattle.controller.proofs.starts.are_rising.Given as goal

abbrev pub invariant-loop-i : goal.invariant-loop-i
invariant-loop-i l = (k : ℕ) → suc k < l.i → (slice_index_or l.starts k (0, pos 0)).0 < (slice_index_or l.starts (suc k) (0, pos 0)).0
