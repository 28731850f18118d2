use Rattle.std.proofs.Common.{◌≡◌, ◌++◌, ℕ, map, take}
use Rattle.stage_game.specs.LowerProgram.{lower_worth_row}
use Rattle.stage_game.specs.Pairs.{pairs}
use Rattle.stage_game.specs.Variables.{variables}
use Rattle.stage_game.proofs.lower.push_worth_rows.Given as goal

abbrev pub invariant-loop-place : goal.invariant-loop-place
invariant-loop-place l =
    map (λ row. row.items) l.rows.items
    ≡ map (λ row. row.items) l.initial.rows.items
    ++ map (λ (p : ℕ × ℕ). map (lower_worth_row l.game l.bits l.nodes.members p.0 p.1) (variables l.game l.candidates)) (take l.place-index (pairs l.game.shape.states l.game.shape.informed_actions))
