use Rattle.std.proofs.Common.{◌≡◌, ◌++◌, flat_map, slice_index_or}
use Rattle.std.specs.String.{string_bytes}
use Rattle.scaled_num.specs.Sums.{below}
use Rattle.alpha_set.specs.Nodes.{no_node}
use Rattle.cert_text.specs.Text.{node_text}
use Rattle.cert_text.proofs.printing.nodes_lines.Given as goal

abbrev pub invariant-loop-i : goal.invariant-loop-i
invariant-loop-i l = string_bytes l.text ≡ string_bytes l.initial.text ++ flat_map (λ i. node_text i (slice_index_or l.nodes.members i no_node)) (below l.i)
