use Rattle.std.proofs.Common.{take}
use Rattle.stage_game.specs.Preferred.{GoesOnBest}
use Rattle.stage_game.proofs.Preferring.{masses_after}
use Rattle.stage_game.proofs.preferred.prefer_best.Given as goal

abbrev pub invariant-loop-pair : goal.invariant-loop-pair
invariant-loop-pair l = GoesOnBest l.points.members (masses_after l.game l.belief l.mixes (take l.pair-index l.after)) l.initial.others.items l.others.items
