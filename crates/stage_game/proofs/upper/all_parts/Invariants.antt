use Rattle.std.proofs.Common.{◌≡◌, map, take}
use Rattle.point_set.specs.Corners.{point_at}
use Rattle.stage_game.specs.PointParts.{part_data, part_of}
use Rattle.stage_game.proofs.upper.all_parts.Given as goal

abbrev pub invariant-loop-k : goal.invariant-loop-k
invariant-loop-k l = map part_data l.parts.items ≡ map (λ k. part_of l.game l.bits (point_at l.points.members k)) (take l.k-index l.candidates)
