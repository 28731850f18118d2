use Rattle.std.proofs.Common.{◌≡◌, ℕ, List, [], length, map, subst, arith}
use Rattle.scaled_num.specs.Share.{at}
use Rattle.game_model.specs.Branches.{Branch, branch_of}
use Rattle.stage_game.proofs.Families.{Adds, adds-more, adds-none}
use Rattle.closing.specs.Plans.{AreStepsFor}
use Rattle.closing.proofs.ForPairs.{for-each}
use Rattle.closing.proofs.steps.push_steps_of.Goals as goal

pub loop-o-init : goal.loop-o-init
loop-o-init c = record {
  weights = omega arith;
  shares = c.requires.shares;
  adds = adds-none {X = List Branch} {Y = Branch} (λ o steps. AreStepsFor (length c.args.weights.now) c.args.a o (at c.args.own.now c.args.a) steps) (λ steps. steps) (map branch_of c.args.next.now.items) [];
}

pub loop-o-preserved : goal.loop-o-preserved
loop-o-preserved c =
    let count : ℕ = length c.args.weights.now in
    let same : length c.loop-o.weights ≡ count = c.loop-o.invariant.weights in
    let added = c.in_ok-push_steps_after.ensures.steps in
    record {
      weights = omega arith;
      shares = omega arith;
      adds = adds-more {X = List Branch} {Y = Branch} (λ o steps. AreStepsFor count c.args.a o (at c.args.own.now c.args.a) steps) (λ steps. steps) c.loop-o.o
          (map branch_of c.args.next.now.items) (map branch_of c.loop-o.next.items) (map branch_of c.push_steps_after.new.next.items) added.added c.loop-o.invariant.adds
          (subst (λ (n : ℕ). AreStepsFor n c.args.a c.loop-o.o (at c.args.own.now c.args.a) added.added) same added.right) added.same;
    }

pub returns-clause-steps : goal.returns-clause-steps
returns-clause-steps c =
    let R : ℕ → List Branch → Type 0 = λ o. AreStepsFor (length c.args.weights.now) c.args.a o (at c.args.own.now c.args.a) in
    let done : c.loop-o.o ≡ c.args.game.now.shape.observations = omega arith in
    for-each R c.args.game.now.shape.observations (map branch_of c.args.next.now.items) (map branch_of c.loop-o.next.items)
    (subst (λ (n : ℕ). Adds {X = List Branch} {Y = Branch} R (λ steps. steps) n (map branch_of c.args.next.now.items) (map branch_of c.loop-o.next.items)) done c.loop-o.invariant.adds)
