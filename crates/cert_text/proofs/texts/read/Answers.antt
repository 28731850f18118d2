use Rattle.std.proofs.lemmas.Result.{err_from_is_err_and}
use Rattle.cert_text.proofs.Refusals.{no_text, stopped}
use Rattle.cert_text.proofs.texts.read.Goals as goal

pub returns-in_err-draft-clause-refused : goal.returns-in_err-draft-clause-refused
returns-in_err-draft-clause-refused c =
    let p = err_from_is_err_and c.from_residual.result c.from_residual.ensures.1 in
    rw (p.1, p.2) (stopped c.args.game.now c.args.bytes.now _ c.law_game.ensures.accepted c.in_err-draft.ensures.refused)

pub returns-in_err-draft-clause-no_text : goal.returns-in_err-draft-clause-no_text
returns-in_err-draft-clause-no_text c =
    let p = err_from_is_err_and c.from_residual.result c.from_residual.ensures.1 in
    let game = c.law_game.ensures.accepted in
    rw (p.1, p.2) (no_text c.args.game.now c.args.bytes.now _ game (stopped c.args.game.now c.args.bytes.now _ game c.in_err-draft.ensures.refused))
