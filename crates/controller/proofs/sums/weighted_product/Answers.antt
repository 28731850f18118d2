use Rattle.std.proofs.Common.{ℕ, ◌^◌, ◌≤◌, subst, to_z}
use Rattle.std.specs.Prelude.{ℤ, ◌*ℤ◌, unsigned_abs}
use Rattle.std.specs.Int.{w128}
use Rattle.std.proofs.lemmas.Int.{to_z-of_z}
use Rattle.controller.specs.Certificates.{node_product}
use Rattle.controller.proofs.StartTests.{no_start}
use Rattle.controller.proofs.Totals.{SumNext, sum-next}
use Rattle.controller.proofs.sums.weighted_product.Goals as goal

after : (c : goal.After-product_part-sum) → SumNext (λ (start : ℕ × ℤ). start.1 *ℤ node_product c.args.game.now c.args.nodes.now.members start.0) c.args.starts.now no_start c.loop-start.start-index (to_z w128 c.loop-start.sum-bits)
after c =
    sum-next (λ (start : ℕ × ℤ). start.1 *ℤ node_product c.args.game.now c.args.nodes.now.members start.0) c.args.starts.now no_start c.loop-start.start-index (to_z w128 c.loop-start.sum-bits) c.loop-start-test.true c.requires.starts.few
    (subst (λ (z : ℤ). unsigned_abs z ≤ 2 ^ 110) c.product_part-sum.ensures.exact c.product_part-sum.ensures.small)
    c.loop-start.invariant

pub loop-start-preserved : goal.loop-start-preserved
loop-start-preserved c =
    let n = after c in
    let term_fits = n.term_fits in
    let sum_fits = n.sum_fits in
    simp (c.product_part-sum.ensures.exact, to_z-of_z) n.so_far
