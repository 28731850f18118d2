use Rattle.std.proofs.Common.{◌≡◌, ◌<◌, ℕ, List, [], length, map}
use Rattle.std.specs.Prelude.{flat_map}
use Rattle.scaled_num.specs.Sums.{below}
use Rattle.game_model.specs.Branches.{Branch, branch_of}
use Rattle.stage_game.specs.Advice.{AreWantedAfter}
use Rattle.stage_game.specs.Reading.{last_of}
use Rattle.stage_game.proofs.Families.{Adds}
use Rattle.stage_game.proofs.wanted.read_wanted.Given as goal

abbrev pub invariant-loop-a : goal.invariant-loop-a
invariant-loop-a l = record {
  prices : length l.prices.items ≡ length l.fn.candidates;
  weights : length l.weights.items ≡ length l.fn.candidates;
  adds : Adds {X = ℕ → List Branch} {Y = Branch} (λ a after. (o : ℕ) → o < l.fn.game.shape.observations → AreWantedAfter l.fn.game l.fn.candidates (last_of l.fn.solver) a o (after o))
      (λ after. flat_map after (below l.fn.game.shape.observations)) l.a [] (map branch_of l.wanted.items);
}
