use Rattle.std.proofs.Common.{◌≡◌, ◌<◌, ℕ, List, [], length, map, ap, sym, subst, arith}
use Rattle.std.specs.Prelude.{flat_map}
use Rattle.scaled_num.specs.Sums.{below}
use Rattle.game_model.specs.Branches.{Branch, branch_of}
use Rattle.stage_game.proofs.Families.{Adds, adds-more, adds-none}
use Rattle.stage_game.proofs.Vectors.{written-long}
use Rattle.closing.specs.Plans.{AreWishesFor}
use Rattle.closing.proofs.ForPairs.{for-pairs}
use Rattle.closing.proofs.wishes.wishes_of.Goals as goal

pub loop-a-init : goal.loop-a-init
loop-a-init c = record {
  weights = omega (arith, c.in_ok-weights.ensures.len);
  adds = subst
      (Adds {X = ℕ → List Branch} {Y = Branch} (λ a after. (o : ℕ) → o < c.args.game.now.shape.observations → AreWishesFor c.args.points.now.members c.args.game.now.shape.states a o (after o))
      (λ after. flat_map after (below c.args.game.now.shape.observations)) 0 [])
      (sym (ap (map branch_of) c.new-wishes.ensures.items))
      (adds-none {X = ℕ → List Branch} {Y = Branch} (λ a after. (o : ℕ) → o < c.args.game.now.shape.observations → AreWishesFor c.args.points.now.members c.args.game.now.shape.states a o (after o))
      (λ after. flat_map after (below c.args.game.now.shape.observations)) [] (λ o. []));
}

pub loop-a-preserved : goal.loop-a-preserved
loop-a-preserved c =
    let added = c.in_ok-push_wishes_of.ensures.wishes in
    record {
      weights = written-long c.push_wishes_of.new.weights c.loop-a.weights.items c.loop-a.weights.len (length c.args.points.now.members) (omega arith) (omega arith);
      adds = adds-more {X = ℕ → List Branch} {Y = Branch} (λ a after. (o : ℕ) → o < c.args.game.now.shape.observations → AreWishesFor c.args.points.now.members c.args.game.now.shape.states a o (after o))
          (λ after. flat_map after (below c.args.game.now.shape.observations)) c.loop-a.a [] (map branch_of c.loop-a.wishes.items) (map branch_of c.push_wishes_of.new.wishes.items) added.after
          c.loop-a.invariant.adds added.right added.same;
    }

pub returns : goal.returns
returns c =
    let done : c.loop-a.a ≡ c.args.game.now.shape.own_actions = omega arith in
    for-pairs c.args.game.now (AreWishesFor c.args.points.now.members c.args.game.now.shape.states) (map branch_of c.loop-a.wishes.items)
    (subst (λ (n : ℕ). Adds {X = ℕ → List Branch} {Y = Branch} (λ a after. (o : ℕ) → o < c.args.game.now.shape.observations → AreWishesFor c.args.points.now.members c.args.game.now.shape.states a o (after o))
    (λ after. flat_map after (below c.args.game.now.shape.observations)) n [] (map branch_of c.loop-a.wishes.items)) done c.loop-a.invariant.adds)
