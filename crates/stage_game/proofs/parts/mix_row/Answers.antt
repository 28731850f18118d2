use Rattle.std.proofs.Common.{◌∙◌, ℕ, ◌+◌, ◌*◌, ap, arith, sym}
use Rattle.stage_game.proofs.Resized.{mix_row-steps}
use Rattle.stage_game.proofs.parts.mix_row.Goals as goal

pub returns : goal.returns
returns c = λ members long.
    mix_row-steps c.args.game.now members _ _ _ _ _ _ _ _ _ _
    c.states-states.ensures (omega (arith, c.states-states.ensures, c.own_actions.ensures))
    (c.variable_count-width.ensures ∙ ap (λ (n : ℕ). c.args.game.now.shape.states + c.args.game.now.shape.own_actions + c.args.game.now.shape.own_actions * c.args.game.now.shape.observations * n) (sym long))
    c.in_ok-row.ensures.items c.in_ok-row.ensures.len c.in_ok-resize.ensures.len c.in_ok-resize-2.ensures.len
    c.in_ok-resize.ensures.items c.in_ok-resize-2.ensures.items c.in_ok-resize-3.ensures.items
