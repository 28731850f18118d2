use Rattle.std.proofs.lemmas.Result.{err_from_is_err_and}
use Rattle.game_text.proofs.Refusals.{no_front, not_trailing, refused_front}
use Rattle.game_text.proofs.texts.read.Goals as goal

pub returns-in_err-game-clause-not_trailing : goal.returns-in_err-game-clause-not_trailing
returns-in_err-game-clause-not_trailing c =
    let p = err_from_is_err_and c.from_residual.result c.from_residual.ensures.1 in
    rw (p.1, p.2) (not_trailing c.args.bytes.now _ c.in_err-game.ensures.refused)

pub returns-in_err-game-clause-no_game : goal.returns-in_err-game-clause-no_game
returns-in_err-game-clause-no_game c =
    let p = err_from_is_err_and c.from_residual.result c.from_residual.ensures.1 in
    rw (p.1, p.2) (no_front c.args.bytes.now _ c.in_err-game.ensures.refused)

pub returns-in_err-game-clause-refused : goal.returns-in_err-game-clause-refused
returns-in_err-game-clause-refused c =
    let p = err_from_is_err_and c.from_residual.result c.from_residual.ensures.1 in
    rw (p.1, p.2) (refused_front c.args.bytes.now _ c.in_err-game.ensures.refused)
