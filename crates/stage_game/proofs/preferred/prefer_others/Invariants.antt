use Rattle.std.proofs.Common.{filter, not, take}
use Rattle.point_set.specs.Corners.{point_at}
use Rattle.stage_game.specs.Chosen.{downwards}
use Rattle.stage_game.specs.Preferred.{GoesOn}
use Rattle.stage_game.specs.UpperCandidates.{is_at_corner, most_others}
use Rattle.stage_game.proofs.preferred.prefer_others.Given as goal

abbrev pub invariant-loop-i : goal.invariant-loop-i
invariant-loop-i l = GoesOn most_others (filter (λ k. not (is_at_corner (point_at l.points.members k))) (take l.i (downwards l.count))) l.initial.others.items l.others.items
