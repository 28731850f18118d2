use Rattle.std.specs.Prelude.{ℕ, ℤ, ◌*ℤ◌}
use Rattle.controller.specs.Certificates.{node_product}
use Rattle.controller.proofs.Totals.{SumTo}
use Rattle.controller.proofs.sums.weighted_product.Given as goal

abbrev pub invariant-loop-start : goal.invariant-loop-start
invariant-loop-start l = SumTo (λ (start : ℕ × ℤ). start.1 *ℤ node_product l.game l.nodes.members start.0) l.starts l.start-index l.sum
