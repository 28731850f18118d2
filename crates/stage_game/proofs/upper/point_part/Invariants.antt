use Rattle.std.proofs.Common.{◌≡◌, map, take}
use Rattle.std.specs.Prelude.{◌*ℤ◌}
use Rattle.scaled_num.specs.Sums.{sum_of}
use Rattle.stage_game.specs.Scaling.{floor_of, scale}
use Rattle.stage_game.proofs.upper.point_part.Given as goal

abbrev pub invariant-loop-part : goal.invariant-loop-part
invariant-loop-part l = l.block.items ≡ map (λ x. floor_of (scale l.fn.bits *ℤ x) (sum_of l.fn.point.belief)) (take l.part-index l.fn.point.belief)
