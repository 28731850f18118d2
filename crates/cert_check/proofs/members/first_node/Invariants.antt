use Rattle.std.specs.Prelude.{ℕ, ◌<◌}
use Rattle.std.specs.List.{AllByRecursion}
use Rattle.controller.specs.Certificates.{Holds}
use Rattle.cert_check.proofs.Order.{places_of_node}
use Rattle.cert_check.proofs.members.first_node.Given as goal

abbrev pub invariant-loop-i : goal.invariant-loop-i
invariant-loop-i l = (m : ℕ) → m < l.i → AllByRecursion (Holds l.game l.certificate) (places_of_node l.game m)
