use Rattle.std.proofs.Common.{ℕ, List, [], ◌∷◌, sym, ap, ◌∙◌, Bor}
use Rattle.std.proofs.lemmas.Result.{err_from_is_err_and}
use Rattle.text_words.specs.Lines.{line_in}
use Rattle.game_text.specs.Entries.{Version, size_said}
use Rattle.game_text.specs.Plain.{plain_line}
use Rattle.game_text.proofs.Standing.{by_size, line_moves, line_stops, missing_stops}
use Rattle.game_text.specs.Header.{size_in}
use Rattle.game_text.proofs.header.size_line.Goals as goal

pub returns-in_err-words-clause-moves : goal.returns-in_err-words-clause-moves
returns-in_err-words-clause-moves c = λ whole at.
    let p = err_from_is_err_and c.from_residual.result c.from_residual.ensures.1 in
    rw (p.1, p.2) (missing_stops whole 1 (Version ∷ []) c.args.before c.args.text.now _ at tt c.in_err-words.ensures.missing)

pub returns-in_err-sizes-clause-moves : goal.returns-in_err-sizes-clause-moves
returns-in_err-sizes-clause-moves c = λ whole at.
    let p = err_from_is_err_and c.from_residual-in_err-sizes.result c.from_residual-in_err-sizes.ensures.1 in
    rw (p.1, p.2)
    (line_stops size_in whole 1 (Version ∷ []) c.args.before c.args.text.now (record { number = c.in_ok-words.line; words = plain_line (line_in c.in_ok-words.words.items); after = c.in_ok-words.rest.now })
    _ c.size_said.result c.numbered.result c.in_err-sizes.field-0.0 at tt c.in_ok-words.ensures.line
    (by_size (plain_line (line_in c.in_ok-words.words.items)) ∙ ap (λ (ws : List (Bor (List ℕ))). size_said (plain_line (line_in ws))) (sym c.deref.ensures.value))
    c.size_said.ensures.gives c.numbered.ensures c.in_err-sizes.was)

pub returns-clause-moves : goal.returns-clause-moves
returns-clause-moves c = λ whole at.
    line_moves size_in whole 1 (Version ∷ []) c.args.before c.args.text.now (record { number = c.in_ok-words.line; words = plain_line (line_in c.in_ok-words.words.items); after = c.in_ok-words.rest.now })
    _ c.size_said.result c.numbered.result c.in_ok-sizes.sizes at c.in_ok-words.ensures.line c.in_ok-words.ensures.counted
    (by_size (plain_line (line_in c.in_ok-words.words.items)) ∙ ap (λ (ws : List (Bor (List ℕ))). size_said (plain_line (line_in ws))) (sym c.deref.ensures.value))
    c.size_said.ensures.gives c.numbered.ensures c.in_ok-sizes.was
