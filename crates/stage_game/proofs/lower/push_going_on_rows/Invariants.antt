use Rattle.std.proofs.Common.{◌≡◌, ◌++◌, ℕ, List, length, map, take}
use Rattle.stage_game.specs.LowerProgram.{going_on_row}
use Rattle.stage_game.specs.Pairs.{pairs}
use Rattle.stage_game.specs.Variables.{variables}
use Rattle.stage_game.proofs.lower.push_going_on_rows.Given as goal

abbrev pub invariant-loop-pair : goal.invariant-loop-pair
invariant-loop-pair l = (ends : List ℕ) → length ends ≡ l.fn.count →
    map (λ row. row.items) l.rows.items
    ≡ map (λ row. row.items) l.initial.rows.items
    ++ map (λ (p : ℕ × ℕ). map (going_on_row p.0 p.1) (variables l.game ends)) (take l.pair-index (pairs l.game.shape.own_actions l.game.shape.observations))
