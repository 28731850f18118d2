use Rattle.std.proofs.Common.{◌≡◌, List, length, map}
use Rattle.game_model.specs.Branches.{Branch, branch_of}
use Rattle.stage_game.specs.Advice.{AreWantedAfter}
use Rattle.stage_game.specs.Reading.{last_of}
use Rattle.stage_game.proofs.Families.{Adds}
use Rattle.stage_game.proofs.wanted.push_wanted_of.Given as goal

abbrev pub invariant-loop-o : goal.invariant-loop-o
invariant-loop-o l = record {
  prices : length l.prices ≡ length l.fn.candidates;
  weights : length l.weights ≡ length l.fn.candidates;
  adds : Adds {X = List Branch} {Y = Branch} (λ o wanted. AreWantedAfter l.fn.game l.fn.candidates (last_of l.fn.solver) l.fn.a o wanted) (λ wanted. wanted) l.o (map branch_of l.initial.wanted.items) (map branch_of l.wanted.items);
}
