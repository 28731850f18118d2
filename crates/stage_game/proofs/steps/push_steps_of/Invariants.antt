use Rattle.std.proofs.Common.{◌≡◌, List, length, map}
use Rattle.game_model.specs.Branches.{Branch, branch_of}
use Rattle.stage_game.specs.Advice.{AreStepsAfter}
use Rattle.stage_game.specs.Reading.{last_of}
use Rattle.stage_game.proofs.Families.{Adds}
use Rattle.stage_game.proofs.steps.push_steps_of.Given as goal

abbrev pub invariant-loop-o : goal.invariant-loop-o
invariant-loop-o l = record {
  weights : length l.weights ≡ length l.fn.candidates;
  shares : length l.shares ≡ length l.fn.candidates;
  adds : Adds {X = List Branch} {Y = Branch} (λ o steps. AreStepsAfter l.fn.game l.fn.candidates (last_of l.fn.solver) l.fn.own l.fn.a o steps) (λ steps. steps) l.o (map branch_of l.initial.next.items) (map branch_of l.next.items);
}
