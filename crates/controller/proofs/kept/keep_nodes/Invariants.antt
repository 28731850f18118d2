use Rattle.std.proofs.Common.{map, ◌≡◌}
use Rattle.std.specs.Prelude.{slice_index_or}
use Rattle.alpha_set.specs.Nodes.{no_node}
use Rattle.controller.specs.Export.{kept_below, renumbered_node}
use Rattle.controller.specs.Reached.{flag_at}
use Rattle.controller.proofs.kept.keep_nodes.Given as goal

abbrev pub invariant-loop-i : goal.invariant-loop-i
invariant-loop-i l = l.kept.members ≡ map (λ i. renumbered_node (flag_at l.numbering) (slice_index_or l.nodes.members i no_node)) (kept_below (flag_at l.numbering) l.i)
