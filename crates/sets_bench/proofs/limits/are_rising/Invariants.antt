use Rattle.std.specs.Prelude.{ℕ, suc, pos, slice_index_or, ◌<◌}
use Rattle.sets_bench.proofs.limits.are_rising.Given as goal

abbrev pub invariant-loop-place : goal.invariant-loop-place
invariant-loop-place l = (k : ℕ) → suc k < l.place → (slice_index_or l.wanted k (0, pos 0)).0 < (slice_index_or l.wanted (suc k) (0, pos 0)).0
