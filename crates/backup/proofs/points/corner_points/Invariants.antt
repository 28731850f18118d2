use Rattle.std.proofs.Common.{◌≡◌}
use Rattle.belief.specs.Mixes.{pure_mixes}
use Rattle.backup.specs.Shares.{first_corners}
use Rattle.backup.proofs.points.corner_points.Given as goal

abbrev pub invariant-loop-s : goal.invariant-loop-s
invariant-loop-s l = l.points.members ≡ first_corners l.fn.game l.fn.values (pure_mixes l.fn.game l.fn.replies) l.s
