use Rattle.std.proofs.Common.{rules, ◌≡◌, List, ℕ, ap, ◌∙◌, pos, ◌*ℤ◌}
use Rattle.std.specs.String.{string_bytes}
use Rattle.std.proofs.lemmas.Result.{IfOk-weaker}
use Rattle.game_model.specs.Game.{span, unit}
use Rattle.osposg_cli.specs.Floor.{floor_lines}
use Rattle.osposg_cli.proofs.floor.floor_text.Goals as goal
use Rattle.scaled_num.specs.Printed.{fraction_text}
use Rattle.scaled_num.specs.Sums.{sum_of}

pub returns : goal.returns
returns c =
    let a = c.args.floor.now.action in
    let low : string_bytes c.in_ok-lower.lower ≡ fraction_text c.args.floor.now.lower (sum_of c.args.game.now.first *ℤ pos unit) = search rules in
    let high : string_bytes c.in_ok-tail.tail ≡ fraction_text (pos (span c.args.game.now)) (pos unit) = search rules in
    IfOk-weaker c.lines.result _ _ (λ text h.
    h ∙ ap (λ (lower : List ℕ). floor_lines a lower c.deref-2.result.now) (c.deref.ensures ∙ low)
    ∙ ap (λ (tail : List ℕ). floor_lines a (fraction_text c.args.floor.now.lower (sum_of c.args.game.now.first *ℤ pos unit)) tail) (c.deref-2.ensures ∙ high)) c.lines.ensures
