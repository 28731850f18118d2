use Rattle.std.proofs.Common.{◌≡◌, ◌*◌, map, take}
use Rattle.std.specs.Prelude.{unsigned_abs}
use Rattle.point_set.specs.Points.{points_of}
use Rattle.simulate.proofs.weights.over_weights.Given as goal

abbrev pub invariant-loop-start : goal.invariant-loop-start
invariant-loop-start l =
    l.weights.items ≡ map (λ start. unsigned_abs start.1 * (points_of l.points.members start.0).belief l.s) (take l.start-index l.starts)
