use Rattle.std.proofs.Common.{ℕ, ap, ◌∙◌}
use Rattle.hsvi_draw.specs.Draws.{draw_at}
use Rattle.game_gen.proofs.Drawing.{after_draws-more, pair_drawn}
use Rattle.game_gen.proofs.rows.draw_pair.Goals as goal

pub returns-clause-pair : goal.returns-clause-pair
returns-clause-pair c =
    let g = c.args.draw.now in
    let first = c.below-seen in
    let second = c.below-to in
    pair_drawn c.args.shape.now g first.new.self first.result second.result first.ensures.moved
    (first.ensures.drawn ∙ ap (λ (n : ℕ). draw_at g 0 n) c.from.ensures)
    (second.ensures.drawn ∙ ap (λ (n : ℕ). draw_at first.new.self 0 n) c.from-2.ensures)

pub returns-clause-moved : goal.returns-clause-moved
returns-clause-moved c =
    after_draws-more 1 1 c.args.draw.now c.below-seen.new.self c.below-to.new.self c.below-seen.ensures.moved c.below-to.ensures.moved
