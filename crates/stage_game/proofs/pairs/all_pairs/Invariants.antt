use Rattle.std.proofs.Common.{◌≡◌}
use Rattle.stage_game.specs.Pairs.{pairs}
use Rattle.stage_game.proofs.pairs.all_pairs.Given as goal

abbrev pub invariant-loop-first : goal.invariant-loop-first
invariant-loop-first l = l.made.items ≡ pairs l.first l.seconds
