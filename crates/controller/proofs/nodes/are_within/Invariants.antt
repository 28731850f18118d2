use Rattle.std.specs.Prelude.{ℕ, pos, slice_index_or, ◌<◌}
use Rattle.game_model.specs.Game.{IsWithin}
use Rattle.controller.proofs.nodes.are_within.Given as goal

abbrev pub invariant-loop-x : goal.invariant-loop-x
invariant-loop-x l = (k : ℕ) → k < l.x-index → IsWithin l.fn.low l.fn.high (slice_index_or l.numbers k (pos 0))
