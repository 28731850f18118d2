use Rattle.std.specs.Prelude.{ℕ, length, slice_index_or, ◌<◌}
use Rattle.alpha_set.specs.Nodes.{NodeFits, no_node}
use Rattle.controller.proofs.nodes.nodes_fit.Given as goal

abbrev pub invariant-loop-i : goal.invariant-loop-i
invariant-loop-i l = (k : ℕ) → k < l.i → NodeFits l.game (length l.nodes.members) (slice_index_or l.nodes.members k no_node)
