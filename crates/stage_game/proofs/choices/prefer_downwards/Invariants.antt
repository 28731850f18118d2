use Rattle.std.proofs.Common.{◌≡◌, ◌++◌, ℕ, List, take}
use Rattle.stage_game.specs.Chosen.{different, downwards}
use Rattle.stage_game.proofs.choices.prefer_downwards.Given as goal

abbrev pub invariant-loop-i : goal.invariant-loop-i
invariant-loop-i l = (seen : List ℕ) → l.initial.kept.items ≡ take l.most (different seen) → l.kept.items ≡ take l.most (different (seen ++ take l.i (downwards l.count)))
