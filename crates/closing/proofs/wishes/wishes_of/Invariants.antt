use Rattle.std.proofs.Common.{◌≡◌, ◌<◌, ℕ, List, [], length, map}
use Rattle.std.specs.Prelude.{flat_map}
use Rattle.scaled_num.specs.Sums.{below}
use Rattle.game_model.specs.Branches.{Branch, branch_of}
use Rattle.stage_game.proofs.Families.{Adds}
use Rattle.closing.specs.Plans.{AreWishesFor}
use Rattle.closing.proofs.wishes.wishes_of.Given as goal

abbrev pub invariant-loop-a : goal.invariant-loop-a
invariant-loop-a l = record {
  weights : length l.weights.items ≡ length l.fn.points.members;
  adds : Adds {X = ℕ → List Branch} {Y = Branch} (λ a after. (o : ℕ) → o < l.fn.game.shape.observations → AreWishesFor l.fn.points.members l.fn.game.shape.states a o (after o))
      (λ after. flat_map after (below l.fn.game.shape.observations)) l.a [] (map branch_of l.wishes.items);
}
