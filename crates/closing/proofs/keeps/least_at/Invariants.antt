use Rattle.std.specs.Prelude.{IfSome, length, ◌<◌, ◌≡◌}
use Rattle.point_set.specs.Corners.{point_at}
use Rattle.closing.proofs.keeps.least_at.Given as goal

abbrev pub invariant-loop-number : goal.invariant-loop-number
invariant-loop-number l = IfSome l.least (λ number. (number < length l.points.members) × ((point_at l.points.members number).belief ≡ l.belief))
