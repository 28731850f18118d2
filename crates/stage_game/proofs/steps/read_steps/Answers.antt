use Rattle.std.proofs.Common.{◌≡◌, ◌<◌, ℕ, List, [], length, map, ap, sym, subst, arith}
use Rattle.std.specs.Prelude.{flat_map}
use Rattle.scaled_num.specs.Sums.{below}
use Rattle.game_model.specs.Branches.{Branch, branch_of}
use Rattle.stage_game.specs.Advice.{AreStepsAfter}
use Rattle.stage_game.specs.Reading.{last_of}
use Rattle.stage_game.proofs.Families.{Adds, adds-more, adds-none}
use Rattle.stage_game.proofs.Vectors.{written-long}
use Rattle.stage_game.proofs.Written.{steps-all}
use Rattle.stage_game.proofs.steps.read_steps.Goals as goal

pub loop-a-init : goal.loop-a-init
loop-a-init c = record {
  weights = omega (arith, c.in_ok-weights.ensures.len);
  shares = omega (arith, c.in_ok-shares.ensures.len);
  adds = subst
      (Adds {X = ℕ → List Branch} {Y = Branch} (λ a after. (o : ℕ) → o < c.args.game.now.shape.observations → AreStepsAfter c.args.game.now c.args.candidates.now (last_of c.args.solver.now) c.args.own.now a o (after o))
      (λ after. flat_map after (below c.args.game.now.shape.observations)) 0 [])
      (sym (ap (map branch_of) c.new-next.ensures.items))
      (adds-none {X = ℕ → List Branch} {Y = Branch} (λ a after. (o : ℕ) → o < c.args.game.now.shape.observations → AreStepsAfter c.args.game.now c.args.candidates.now (last_of c.args.solver.now) c.args.own.now a o (after o))
      (λ after. flat_map after (below c.args.game.now.shape.observations)) [] (λ o. []));
}

pub loop-a-preserved : goal.loop-a-preserved
loop-a-preserved c =
    let added = c.in_ok-push_steps_of.ensures.steps in
    record {
      weights = written-long c.push_steps_of.new.weights c.loop-a.weights.items c.loop-a.weights.len (length c.args.candidates.now) (omega arith) (omega arith);
      shares = written-long c.push_steps_of.new.shares c.loop-a.shares.items c.loop-a.shares.len (length c.args.candidates.now) (omega arith) (omega arith);
      adds = adds-more {X = ℕ → List Branch} {Y = Branch} (λ a after. (o : ℕ) → o < c.args.game.now.shape.observations → AreStepsAfter c.args.game.now c.args.candidates.now (last_of c.args.solver.now) c.args.own.now a o (after o))
          (λ after. flat_map after (below c.args.game.now.shape.observations)) c.loop-a.a [] (map branch_of c.loop-a.next.items) (map branch_of c.push_steps_of.new.next.items) added.after
          c.loop-a.invariant.adds added.read added.same;
    }

pub returns : goal.returns
returns c =
    let done : c.loop-a.a ≡ c.args.game.now.shape.own_actions = omega arith in
    steps-all c.args.game.now c.args.candidates.now (last_of c.args.solver.now) c.args.own.now (map branch_of c.loop-a.next.items)
    (subst (λ (n : ℕ). Adds {X = ℕ → List Branch} {Y = Branch} (λ a after. (o : ℕ) → o < c.args.game.now.shape.observations → AreStepsAfter c.args.game.now c.args.candidates.now (last_of c.args.solver.now) c.args.own.now a o (after o))
    (λ after. flat_map after (below c.args.game.now.shape.observations)) n [] (map branch_of c.loop-a.next.items)) done c.loop-a.invariant.adds)
