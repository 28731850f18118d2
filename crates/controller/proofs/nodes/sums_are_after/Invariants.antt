use Rattle.std.specs.Prelude.{ℕ, map, ◌<◌, ◌≡◌}
use Rattle.scaled_num.specs.Sums.{total}
use Rattle.game_model.specs.Branches.{branch_of, branches_at}
use Rattle.controller.proofs.nodes.sums_are_after.Given as goal

abbrev pub invariant-loop-o : goal.invariant-loop-o
invariant-loop-o l = (k : ℕ) → k < l.o → total (λ b. b.weight) (branches_at (map branch_of l.fn.next) l.fn.a k) ≡ l.fn.weight
