use Rattle.std.proofs.Common.{◌≡◌, ◌++◌, ℕ, map, take}
use Rattle.stage_game.specs.UpperProgram.{upper_worth_row}
use Rattle.scaled_num.specs.Sums.{below}
use Rattle.stage_game.specs.Pairs.{pairs}
use Rattle.stage_game.specs.Variables.{variables}
use Rattle.stage_game.proofs.upper.push_worth_rows.Given as goal

abbrev pub invariant-loop-place : goal.invariant-loop-place
invariant-loop-place l =
    map (λ row. row.items) l.rows.items
    ≡ map (λ row. row.items) l.initial.rows.items
    ++ map (λ (p : ℕ × ℕ). map (upper_worth_row l.game l.bits p.0 p.1) (variables l.game (below l.game.shape.states))) (take l.place-index (pairs l.game.shape.states l.game.shape.informed_actions))
