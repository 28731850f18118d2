use Rattle.std.proofs.Common.{◌∙◌, ap, arith, to_z}
use Rattle.std.specs.Prelude.{ℕ, ℤ}
use Rattle.std.specs.Int.{w128}
use Rattle.std.proofs.lemmas.Int.{to_z-of_z}
use Rattle.std.proofs.lemmas.List.{take_all}
use Rattle.scaled_num.specs.Sums.{total}
use Rattle.controller.proofs.Lists.{Next, next}
use Rattle.controller.proofs.StartTests.{no_start, starts-within}
use Rattle.controller.proofs.starts.sum_of_weights.Goals as goal

after : (c : goal.After-sum-1) → Next (λ (start : ℕ × ℤ). start.1) c.args.starts.now no_start c.loop-start.start-index (to_z w128 c.loop-start.sum-bits)
after c =
    next (λ (start : ℕ × ℤ). start.1) c.args.starts.now no_start c.loop-start.start-index (to_z w128 c.loop-start.sum-bits) c.loop-start-test.true (omega (arith, c.loop-start.auto.start-index-end))
    (starts-within c.args.starts.now c.requires) c.loop-start.invariant

pub overflow_add-sum : goal.overflow_add-sum
overflow_add-sum c =
    let n = after c in
    let term_fits = n.term_fits in
    simp to_z-of_z n.sum_fits

pub loop-start-preserved : goal.loop-start-preserved
loop-start-preserved c =
    let n = after c in
    let term_fits = n.term_fits in
    let sum_fits = n.sum_fits in
    simp to_z-of_z n.so_far

pub returns : goal.returns
returns c =
    c.loop-start.invariant.is
    ∙ ap (total (λ (start : ℕ × ℤ). start.1)) (take_all c.loop-start.start-index c.args.starts.now c.loop-start-test.false)
