use Rattle.std.proofs.Common.{◌≡◌, List, length, map}
use Rattle.scaled_num.specs.Share.{at}
use Rattle.game_model.specs.Branches.{Branch, branch_of}
use Rattle.stage_game.proofs.Families.{Adds}
use Rattle.closing.specs.Plans.{AreStepsFor}
use Rattle.closing.proofs.steps.push_steps_of.Given as goal

abbrev pub invariant-loop-o : goal.invariant-loop-o
invariant-loop-o l = record {
  weights : length l.weights ≡ length l.initial.weights;
  shares : length l.shares ≡ length l.initial.weights;
  adds : Adds {X = List Branch} {Y = Branch} (λ o steps. AreStepsFor (length l.initial.weights) l.fn.a o (at l.fn.own l.fn.a) steps) (λ steps. steps) l.o (map branch_of l.initial.next.items) (map branch_of l.next.items);
}
