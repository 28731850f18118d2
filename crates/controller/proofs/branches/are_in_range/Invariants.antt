use Rattle.std.specs.Prelude.{ℕ, pos, slice_index_or, ◌<◌}
use Rattle.game_model.specs.Game.{numbers}
use Rattle.game_model.specs.Branches.{IsBranch, branch_of}
use Rattle.controller.proofs.branches.are_in_range.Given as goal

abbrev pub invariant-loop-branch : goal.invariant-loop-branch
invariant-loop-branch l = (k : ℕ) → k < l.branch-index → IsBranch (numbers l.fn.game) l.fn.members l.fn.most (branch_of (slice_index_or l.branches k (record { a = 0; o = 0; k = 0; weight = pos 0 })))
