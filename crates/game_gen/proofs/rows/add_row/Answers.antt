use Rattle.std.proofs.Common.{◌≡◌, ℕ, ℤ, FitsSigned, List, ap, rules, to_z-of_z, ◌∙◌}
use Rattle.std.specs.Int.{w128}
use Rattle.std.proofs.lemmas.Result.{on_ok_weaker}
use Rattle.game_model.specs.Game.{GameData}
use Rattle.game_model.specs.Build.{with_step}
use Rattle.game_gen.specs.Rows.{row_drawn, row_of, with_last, with_row}
use Rattle.game_gen.proofs.Drawing.{after_draws-more, pairs_from-after_one}
use Rattle.game_gen.proofs.LastRows.{with_last-step}
use Rattle.game_gen.proofs.rows.add_row.Goals as goal

pub returns-in_err-begin_row-clause-moved : goal.returns-in_err-begin_row-clause-moved
returns-in_err-begin_row-clause-moved c =
    after_draws-more 1 8 c.args.draw.now c.draw_reward-reward.new.draw c.draw_pairs-pairs.new.draw c.draw_reward-reward.ensures.moved c.draw_pairs-pairs.ensures.moved

pub returns-clause-moved : goal.returns-clause-moved
returns-clause-moved c =
    after_draws-more 1 8 c.args.draw.now c.draw_reward-reward.new.draw c.draw_pairs-pairs.new.draw c.draw_reward-reward.ensures.moved c.draw_pairs-pairs.ensures.moved

pub returns-clause-added : goal.returns-clause-added
returns-clause-added c =
    let b = c.args.builder.now in
    let shape = c.args.shape.now in
    let row = row_drawn shape c.args.draw.now in
    let first = c.draw_reward-reward in
    let fits : FitsSigned w128 first.result = search rules in
    let begun : c.begin_row.new.builder ≡ with_step b first.result = simp to_z-of_z at c.in_ok-begin_row.ensures.begun in
    let pairs = c.draw_pairs-pairs.ensures.pairs ∙ pairs_from-after_one shape c.args.draw.now first.new.draw first.ensures.moved in
    on_ok_weaker c.add_landings.result
    (λ h.
    h
    ∙ ap (λ (p : List (ℕ × ℕ)). with_last c.begin_row.new.builder (row_of shape p)) pairs
    ∙ ap (λ (g : GameData). with_last g row) begun
    ∙ with_last-step b first.result row
    ∙ ap (λ (r : ℤ). with_row b r row) first.ensures.reward)
    c.add_landings.ensures.added
