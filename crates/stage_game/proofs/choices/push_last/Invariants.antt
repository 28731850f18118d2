use Rattle.std.proofs.Common.{◌≡◌, ◌++◌, take}
use Rattle.stage_game.specs.Chosen.{downwards}
use Rattle.stage_game.proofs.choices.push_last.Given as goal

abbrev pub invariant-loop-i : goal.invariant-loop-i
invariant-loop-i l = l.kept.items ≡ l.initial.kept.items ++ take l.i (downwards l.count)
