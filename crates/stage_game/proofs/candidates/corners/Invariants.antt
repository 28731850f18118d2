use Rattle.std.proofs.Common.{◌≡◌, ◌<◌, ℕ, get_or, length}
use Rattle.point_set.specs.Corners.{IsCurrentCorner}
use Rattle.stage_game.proofs.candidates.corners.Given as goal

abbrev pub invariant-loop-s : goal.invariant-loop-s
invariant-loop-s l = (length l.made.items ≡ l.s) × ((t : ℕ) → t < l.s → IsCurrentCorner l.points.members t (get_or l.made.items t 0))
