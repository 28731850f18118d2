use Rattle.std.specs.Prelude.{ℕ, suc, pos, slice_index_or, ◌<◌}
use Rattle.game_model.specs.Branches.{IsBranchBefore, branch_of}
use Rattle.controller.proofs.branches.are_rising.Given as goal

abbrev pub invariant-loop-i : goal.invariant-loop-i
invariant-loop-i l = (k : ℕ) → suc k < l.i → IsBranchBefore (branch_of (slice_index_or l.branches k (record { a = 0; o = 0; k = 0; weight = pos 0 }))) (branch_of (slice_index_or l.branches (suc k) (record { a = 0; o = 0; k = 0; weight = pos 0 })))
