use Rattle.std.proofs.Common.{ℕ, List, ◌∷◌, sym, ap, ◌∙◌, Bor}
use Rattle.std.proofs.lemmas.Result.{err_from_is_err_and}
use Rattle.text_words.specs.Lines.{line_in}
use Rattle.game_text.specs.Entries.{Discount, First, first_said}
use Rattle.game_text.specs.Plain.{plain_line}
use Rattle.game_text.proofs.Standing.{by_first, line_moves, line_stops, missing_stops}
use Rattle.game_text.proofs.header.first_line.Goals as goal

pub returns-in_err-words-clause-moves : goal.returns-in_err-words-clause-moves
returns-in_err-words-clause-moves c = λ whole over under entries same at.
    let p = err_from_is_err_and c.from_residual.result c.from_residual.ensures.1 in
    rw (p.1, p.2) (missing_stops whole 4 (Discount over under ∷ entries) c.args.before c.args.text.now _ at tt c.in_err-words.ensures.missing)

pub returns-in_err-first-clause-moves : goal.returns-in_err-first-clause-moves
returns-in_err-first-clause-moves c = λ whole over under entries same at.
    let p = err_from_is_err_and c.from_residual-in_err-first.result c.from_residual-in_err-first.ensures.1 in
    rw (p.1, p.2)
    (line_stops (λ weights. First weights.items) whole 4 (Discount over under ∷ entries) c.args.before c.args.text.now (record { number = c.in_ok-words.line; words = plain_line (line_in c.in_ok-words.words.items); after = c.in_ok-words.rest.now })
    _ c.first_said.result c.numbered.result c.in_err-first.field-0.0 at tt c.in_ok-words.ensures.line
    (by_first over under entries c.args.states (plain_line (line_in c.in_ok-words.words.items)) same ∙ ap (λ (ws : List (Bor (List ℕ))). first_said c.args.states (plain_line (line_in ws))) (sym c.deref.ensures.value))
    c.first_said.ensures c.numbered.ensures c.in_err-first.was)

pub returns-clause-moves : goal.returns-clause-moves
returns-clause-moves c = λ whole over under entries same at.
    line_moves (λ weights. First weights.items) whole 4 (Discount over under ∷ entries) c.args.before c.args.text.now (record { number = c.in_ok-words.line; words = plain_line (line_in c.in_ok-words.words.items); after = c.in_ok-words.rest.now })
    _ c.first_said.result c.numbered.result c.in_ok-first.first at c.in_ok-words.ensures.line c.in_ok-words.ensures.counted
    (by_first over under entries c.args.states (plain_line (line_in c.in_ok-words.words.items)) same ∙ ap (λ (ws : List (Bor (List ℕ))). first_said c.args.states (plain_line (line_in ws))) (sym c.deref.ensures.value))
    c.first_said.ensures c.numbered.ensures c.in_ok-first.was
