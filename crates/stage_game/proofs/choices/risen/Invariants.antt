use Rattle.std.proofs.Common.{◌≡◌}
use Rattle.std.specs.Prelude.{filter}
use Rattle.scaled_num.specs.Sums.{below}
use Rattle.stage_game.specs.Chosen.{is_among}
use Rattle.stage_game.proofs.choices.risen.Given as goal

abbrev pub invariant-loop-k : goal.invariant-loop-k
invariant-loop-k l = l.found.items ≡ filter (λ k. is_among k l.numbers) (below l.k-counter)
