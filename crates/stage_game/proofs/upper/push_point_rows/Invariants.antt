use Rattle.std.proofs.Common.{◌≡◌, ◌++◌, ℕ, map, flat_map, take}
use Rattle.scaled_num.specs.Sums.{below}
use Rattle.point_set.specs.Corners.{point_at}
use Rattle.stage_game.specs.Pairs.{pairs}
use Rattle.stage_game.specs.UpperProgram.{point_row}
use Rattle.stage_game.specs.Variables.{variables}
use Rattle.stage_game.proofs.upper.push_point_rows.Given as goal

abbrev pub invariant-loop-pair : goal.invariant-loop-pair
invariant-loop-pair l =
    map (λ row. row.items) l.rows.items
    ≡ map (λ row. row.items) l.initial.rows.items
    ++ flat_map (λ (p : ℕ × ℕ). map (λ k. map (point_row l.game l.fn.bits (point_at l.fn.points.members k) p.0 p.1) (variables l.game (below l.game.shape.states))) l.fn.candidates) (take l.pair-index (pairs l.game.shape.own_actions l.game.shape.observations))
