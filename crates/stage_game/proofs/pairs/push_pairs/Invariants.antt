use Rattle.std.proofs.Common.{◌≡◌, ◌++◌, map}
use Rattle.scaled_num.specs.Sums.{below}
use Rattle.stage_game.proofs.pairs.push_pairs.Given as goal

abbrev pub invariant-loop-second : goal.invariant-loop-second
invariant-loop-second l = l.made.items ≡ l.initial.made.items ++ map (λ j. (l.first, j)) (below l.second)
