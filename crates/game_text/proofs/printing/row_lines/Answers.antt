use Rattle.std.proofs.Common.{◌≡◌, ◌++◌, ℤ, ap, ◌∙◌, flat_map, List, rules, FitsSigned, to_z-of_z}
use Rattle.std.specs.Int.{w128}
use Rattle.std.specs.String.{string_bytes}
use Rattle.std.proofs.lemmas.Result.{IfOk-weaker}
use Rattle.game_model.specs.declared.parts.Landing.{Landing}
use Rattle.game_model.specs.Game.{reward_at}
use Rattle.game_text.specs.Text.{landing_line, step_line}
use Rattle.text_words.proofs.Grown.{behind}
use Rattle.game_text.proofs.printing.row_lines.Goals as goal

pub returns : goal.returns
returns c =
    let g = c.args.game.now in
    let old = string_bytes c.args.text.now in
    let stepped = string_bytes c.step_line.new.text in
    let fits : FitsSigned w128 c.reward.result = search rules in
    let step : stepped ≡ old ++ step_line c.args.s c.args.a c.args.c (reward_at g c.args.s c.args.a c.args.c) =
    (simp to_z-of_z at c.in_ok-step_line.ensures) ∙ ap (λ (r : ℤ). old ++ step_line c.args.s c.args.a c.args.c r) c.reward.ensures in
    IfOk-weaker c.landing_lines.result _ _ (λ u h.
    behind old stepped _ (step_line c.args.s c.args.a c.args.c (reward_at g c.args.s c.args.a c.args.c)) _ step
    (h ∙ ap (λ (row : List Landing). stepped ++ flat_map landing_line row) c.row.ensures)) c.landing_lines.ensures
