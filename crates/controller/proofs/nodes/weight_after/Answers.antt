use Rattle.std.proofs.Common.{◌∙◌, ap, arith, to_z}
use Rattle.std.specs.Prelude.{pos}
use Rattle.std.specs.Int.{w128}
use Rattle.std.proofs.lemmas.Int.{to_z-of_z}
use Rattle.std.proofs.lemmas.List.{take_all}
use Rattle.scaled_num.specs.Sums.{total}
use Rattle.game_model.specs.Branches.{branch_of}
use Rattle.game_model.specs.declared.branches.Branch.{Branch as Step}
use Rattle.controller.proofs.Lists.{Next, next, weight_at, weights-at, weights-within}
use Rattle.controller.proofs.nodes.weight_after.Goals as goal

abbrev none : Step
none = record { a = 0; o = 0; k = 0; weight = pos 0 }

after : (c : goal.After-weight_of-sum) → Next (weight_at branch_of c.args.a c.args.o) c.args.next.now none c.loop-step.step-index (to_z w128 c.loop-step.sum-bits)
after c =
    next (weight_at branch_of c.args.a c.args.o) c.args.next.now none c.loop-step.step-index (to_z w128 c.loop-step.sum-bits) c.loop-step-test.true (omega (arith, c.loop-step.auto.step-index-end))
    (weights-within branch_of c.args.a c.args.o c.args.next.now c.requires) c.loop-step.invariant

pub overflow_add-sum : goal.overflow_add-sum
overflow_add-sum c =
    let n = after c in
    let term_fits = n.term_fits in
    simp (c.weight_of-sum.ensures, to_z-of_z) n.sum_fits

pub loop-step-preserved : goal.loop-step-preserved
loop-step-preserved c =
    let n = after c in
    let term_fits = n.term_fits in
    let sum_fits = n.sum_fits in
    simp (c.weight_of-sum.ensures, to_z-of_z) n.so_far

pub returns : goal.returns
returns c =
    c.loop-step.invariant.is
    ∙ ap (total (weight_at branch_of c.args.a c.args.o)) (take_all c.loop-step.step-index c.args.next.now c.loop-step-test.false)
    ∙ weights-at branch_of c.args.a c.args.o c.args.next.now
