use Rattle.std.proofs.Common.{◌≡◌, ◌*◌, map, take}
use Rattle.std.specs.Prelude.{unsigned_abs}
use Rattle.point_set.specs.Points.{points_of}
use Rattle.simulate.proofs.weights.share_weights.Given as goal

abbrev pub invariant-loop-share : goal.invariant-loop-share
invariant-loop-share l =
    l.weights.items ≡ map (λ share. unsigned_abs share.weight * (points_of l.points.members share.k).belief l.s) (take l.share-index l.shares)
