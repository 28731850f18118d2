use Rattle.std.proofs.Common.{◌≡◌, List, length, map}
use Rattle.game_model.specs.Branches.{Branch, branch_of}
use Rattle.stage_game.proofs.Families.{Adds}
use Rattle.closing.specs.Plans.{AreWishesFor}
use Rattle.closing.proofs.wishes.push_wishes_of.Given as goal

abbrev pub invariant-loop-o : goal.invariant-loop-o
invariant-loop-o l = record {
  weights : length l.weights ≡ length l.fn.points.members;
  adds : Adds {X = List Branch} {Y = Branch} (λ o wishes. AreWishesFor l.fn.points.members l.fn.game.shape.states l.fn.a o wishes) (λ wishes. wishes) l.o (map branch_of l.initial.wishes.items) (map branch_of l.wishes.items);
}
