use Rattle.std.proofs.Common.{◌≡◌, ◌<◌, ℕ, List, [], length, map, ap, sym, subst, arith}
use Rattle.std.specs.Prelude.{flat_map}
use Rattle.scaled_num.specs.Share.{at}
use Rattle.scaled_num.specs.Sums.{below}
use Rattle.game_model.specs.Branches.{Branch, branch_of}
use Rattle.stage_game.proofs.Families.{Adds, adds-more, adds-none}
use Rattle.stage_game.proofs.Vectors.{written-long}
use Rattle.closing.specs.Plans.{AreStepsFor}
use Rattle.closing.proofs.ForPairs.{for-pairs}
use Rattle.closing.proofs.steps.steps_of.Goals as goal

pub loop-a-init : goal.loop-a-init
loop-a-init c = record {
  weights = omega (arith, c.in_ok-weights.ensures.len);
  shares = omega (arith, c.in_ok-shares.ensures.len);
  adds = subst
      (Adds {X = ℕ → List Branch} {Y = Branch} (λ a after. (o : ℕ) → o < c.args.game.now.shape.observations → AreStepsFor c.args.nodes a o (at c.args.own.now a) (after o))
      (λ after. flat_map after (below c.args.game.now.shape.observations)) 0 [])
      (sym (ap (map branch_of) c.new-next.ensures.items))
      (adds-none {X = ℕ → List Branch} {Y = Branch} (λ a after. (o : ℕ) → o < c.args.game.now.shape.observations → AreStepsFor c.args.nodes a o (at c.args.own.now a) (after o))
      (λ after. flat_map after (below c.args.game.now.shape.observations)) [] (λ o. []));
}

pub loop-a-preserved : goal.loop-a-preserved
loop-a-preserved c =
    let same : length c.deref_mut.result.now ≡ c.args.nodes = omega (arith, ap length c.deref_mut.ensures.value, c.loop-a.invariant.weights) in
    let added = c.in_ok-push_steps_of.ensures.steps in
    record {
      weights = written-long c.push_steps_of.new.weights c.loop-a.weights.items c.loop-a.weights.len c.args.nodes (omega arith) (omega arith);
      shares = written-long c.push_steps_of.new.shares c.loop-a.shares.items c.loop-a.shares.len c.args.nodes (omega arith) (omega arith);
      adds = adds-more {X = ℕ → List Branch} {Y = Branch} (λ a after. (o : ℕ) → o < c.args.game.now.shape.observations → AreStepsFor c.args.nodes a o (at c.args.own.now a) (after o))
          (λ after. flat_map after (below c.args.game.now.shape.observations)) c.loop-a.a [] (map branch_of c.loop-a.next.items) (map branch_of c.push_steps_of.new.next.items) added.after
          c.loop-a.invariant.adds (λ o lo. subst (λ (n : ℕ). AreStepsFor n c.loop-a.a o (at c.args.own.now c.loop-a.a) (added.after o)) same (added.right o lo)) added.same;
    }

pub returns : goal.returns
returns c =
    let done : c.loop-a.a ≡ c.args.game.now.shape.own_actions = omega arith in
    for-pairs c.args.game.now (λ a o. AreStepsFor c.args.nodes a o (at c.args.own.now a)) (map branch_of c.loop-a.next.items)
    (subst (λ (n : ℕ). Adds {X = ℕ → List Branch} {Y = Branch} (λ a after. (o : ℕ) → o < c.args.game.now.shape.observations → AreStepsFor c.args.nodes a o (at c.args.own.now a) (after o))
    (λ after. flat_map after (below c.args.game.now.shape.observations)) n [] (map branch_of c.loop-a.next.items)) done c.loop-a.invariant.adds)
