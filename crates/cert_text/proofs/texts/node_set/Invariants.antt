use Rattle.std.proofs.Common.{◌≡◌, ◌++◌, map}
use Rattle.alpha_set.specs.Members.{node_data}
use Rattle.cert_text.proofs.texts.node_set.Given as goal

abbrev pub invariant-loop-node : goal.invariant-loop-node
invariant-loop-node l = l.set.members ++ map node_data l.node-iterator.rest.items ≡ map node_data l.fn.nodes.items
