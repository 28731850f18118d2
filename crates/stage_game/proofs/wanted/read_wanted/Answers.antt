use Rattle.std.proofs.Common.{◌≡◌, ◌<◌, ℕ, List, [], length, map, ap, sym, subst, arith}
use Rattle.std.specs.Prelude.{flat_map}
use Rattle.scaled_num.specs.Sums.{below}
use Rattle.game_model.specs.Branches.{Branch, branch_of}
use Rattle.stage_game.specs.Advice.{AreWantedAfter}
use Rattle.stage_game.specs.Reading.{last_of}
use Rattle.stage_game.proofs.Families.{Adds, adds-more, adds-none}
use Rattle.stage_game.proofs.Vectors.{written-long}
use Rattle.stage_game.proofs.Written.{wanted-all}
use Rattle.stage_game.proofs.wanted.read_wanted.Goals as goal

pub loop-a-init : goal.loop-a-init
loop-a-init c = record {
  weights = omega (arith, c.in_ok-weights.ensures.len);
  prices = omega (arith, c.in_ok-prices.ensures.len);
  adds = subst
      (Adds {X = ℕ → List Branch} {Y = Branch} (λ a after. (o : ℕ) → o < c.args.game.now.shape.observations → AreWantedAfter c.args.game.now c.args.candidates.now (last_of c.args.solver.now) a o (after o))
      (λ after. flat_map after (below c.args.game.now.shape.observations)) 0 [])
      (sym (ap (map branch_of) c.new-wanted.ensures.items))
      (adds-none {X = ℕ → List Branch} {Y = Branch} (λ a after. (o : ℕ) → o < c.args.game.now.shape.observations → AreWantedAfter c.args.game.now c.args.candidates.now (last_of c.args.solver.now) a o (after o))
      (λ after. flat_map after (below c.args.game.now.shape.observations)) [] (λ o. []));
}

pub loop-a-preserved : goal.loop-a-preserved
loop-a-preserved c =
    let added = c.in_ok-push_wanted_of.ensures.wanted in
    record {
      weights = written-long c.push_wanted_of.new.weights c.loop-a.weights.items c.loop-a.weights.len (length c.args.candidates.now) (omega arith) (omega arith);
      prices = written-long c.push_wanted_of.new.prices c.loop-a.prices.items c.loop-a.prices.len (length c.args.candidates.now) (omega arith) (omega arith);
      adds = adds-more {X = ℕ → List Branch} {Y = Branch} (λ a after. (o : ℕ) → o < c.args.game.now.shape.observations → AreWantedAfter c.args.game.now c.args.candidates.now (last_of c.args.solver.now) a o (after o))
          (λ after. flat_map after (below c.args.game.now.shape.observations)) c.loop-a.a [] (map branch_of c.loop-a.wanted.items) (map branch_of c.push_wanted_of.new.wanted.items) added.after
          c.loop-a.invariant.adds added.read added.same;
    }

pub returns : goal.returns
returns c =
    let done : c.loop-a.a ≡ c.args.game.now.shape.own_actions = omega arith in
    wanted-all c.args.game.now c.args.candidates.now (last_of c.args.solver.now) (map branch_of c.loop-a.wanted.items)
    (subst (λ (n : ℕ). Adds {X = ℕ → List Branch} {Y = Branch} (λ a after. (o : ℕ) → o < c.args.game.now.shape.observations → AreWantedAfter c.args.game.now c.args.candidates.now (last_of c.args.solver.now) a o (after o))
    (λ after. flat_map after (below c.args.game.now.shape.observations)) n [] (map branch_of c.loop-a.wanted.items)) done c.loop-a.invariant.adds)
