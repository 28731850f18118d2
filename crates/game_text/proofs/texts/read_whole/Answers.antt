use Rattle.std.proofs.Common.{List, ℕ, drop, length, subst, arith}
use Rattle.std.proofs.lemmas.Result.{err_from_is_err_and}
use Rattle.std.proofs.lemmas.Slice.{between_to_end}
use Rattle.game_text.specs.Answers.{IsMore}
use Rattle.game_text.proofs.Refusals.{refused_behind, refused_whole}
use Rattle.game_text.proofs.texts.read_whole.Goals as goal

pub returns-in_err-game-clause-refused : goal.returns-in_err-game-clause-refused
returns-in_err-game-clause-refused c =
    let p = err_from_is_err_and c.from_residual.result c.from_residual.ensures.1 in
    rw (p.1, p.2) (refused_whole c.args.bytes.now _ c.in_err-game.ensures.refused)

pub returns-in_err-nothing_more-clause-refused : goal.returns-in_err-nothing_more-clause-refused
returns-in_err-nothing_more-clause-refused c =
    let p = err_from_is_err_and c.from_residual-in_err-nothing_more.result c.from_residual-in_err-nothing_more.ensures.1 in
    let bytes = c.args.bytes.now in
    let offset = c.in_ok-game.offset in
    let more = subst (λ (rest : List ℕ). IsMore c.in_ok-game.lines rest c.in_err-nothing_more.field-0.0) (between_to_end bytes offset (length bytes) (omega arith)) c.in_err-nothing_more.ensures.more in
    rw (p.1, p.2) (refused_behind bytes c.in_ok-game.lines (drop offset bytes) _ c.in_ok-game.ensures.ends more)
