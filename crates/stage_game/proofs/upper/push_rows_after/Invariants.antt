use Rattle.std.proofs.Common.{◌≡◌, ◌++◌, map, take}
use Rattle.scaled_num.specs.Sums.{below}
use Rattle.stage_game.specs.PointParts.{part_data, part_row}
use Rattle.stage_game.specs.Variables.{variables}
use Rattle.stage_game.proofs.upper.push_rows_after.Given as goal

abbrev pub invariant-loop-part : goal.invariant-loop-part
invariant-loop-part l =
    map (λ row. row.items) l.rows.items
    ≡ map (λ row. row.items) l.initial.rows.items
    ++ map (λ part. map (part_row (part_data part) l.a l.o) (variables l.game (below l.game.shape.states))) (take l.part-index l.parts)
