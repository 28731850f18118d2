use Rattle.std.specs.Prelude.{ℕ, map, pos, slice_index_or, ◌<◌, ◌≡◌}
use Rattle.scaled_num.specs.Sums.{total}
use Rattle.game_model.specs.Branches.{branch_of, branches_at}
use Rattle.controller.proofs.nodes.sums_are.Given as goal

abbrev pub invariant-loop-a : goal.invariant-loop-a
invariant-loop-a l =
    (k o : ℕ) → k < l.a → o < l.fn.game.shape.observations →
    total (λ b. b.weight) (branches_at (map branch_of l.fn.node.next.items) k o) ≡ slice_index_or l.fn.node.mix.items k (pos 0)
