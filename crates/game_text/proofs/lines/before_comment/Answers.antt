use Rattle.std.proofs.Common.{◌==◌, sym, ◌∙◌, rules, tests}
use Rattle.std.proofs.lemmas.Iterator.{YieldsList-from_slice}
use Rattle.std.proofs.lemmas.Iterator.Search.{position_from_yields_List}
use Rattle.game_text.proofs.Parted.{comment-none, comment-some}
use Rattle.game_text.proofs.lines.before_comment.Goals as goal

pub returns-in-Some : goal.returns-in-Some
returns-in-Some c =
    let at = position_from_yields_List (λ b. b == 35) _ _ c.position.result c.position.ensures.ran (YieldsList-from_slice c.args.line.now cc) (λ x b q k. search (rules, tests)) in
    comment-some c.args.line.now c.in-Some.end (sym at ∙ c.in-Some.is)

pub returns-in-None : goal.returns-in-None
returns-in-None c =
    let at = position_from_yields_List (λ b. b == 35) _ _ c.position.result c.position.ensures.ran (YieldsList-from_slice c.args.line.now cc) (λ x b q k. search (rules, tests)) in
    comment-none c.args.line.now (sym at ∙ c.in-None.is)
