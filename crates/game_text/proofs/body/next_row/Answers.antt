use Rattle.std.proofs.Common.{ℕ, List, sym, ap, ◌∙◌, Bor}
use Rattle.std.proofs.lemmas.Result.{err_from_is_err_and}
use Rattle.text_words.specs.Lines.{line_in}
use Rattle.game_text.specs.Plain.{plain_line}
use Rattle.game_text.specs.declared.progress.Progress.{Progress}
use Rattle.game_text.specs.Progress.{entry_in, row_said}
use Rattle.game_text.proofs.RowSteps.{entry_of-open, unfinished-open}
use Rattle.game_text.proofs.Standing.{line_moves, line_stops, missing_stops}
use Rattle.game_text.proofs.body.next_row.Goals as goal

pub returns-in_err-words-clause-moves : goal.returns-in_err-words-clause-moves
returns-in_err-words-clause-moves c = λ whole count entries at here open_.
    let p = err_from_is_err_and c.from_residual.result c.from_residual.ensures.1 in
    rw (p.1, p.2) (missing_stops whole count entries c.args.before c.args.text.now _ at (unfinished-open entries open_) c.in_err-words.ensures.missing)

pub returns-in_err-entry-clause-moves : goal.returns-in_err-entry-clause-moves
returns-in_err-entry-clause-moves c = λ whole count entries at here open_.
    let p = err_from_is_err_and c.from_residual-in_err-entry.result c.from_residual-in_err-entry.ensures.1 in
    let words = plain_line (line_in c.in_ok-words.words.items) in
    rw (p.1, p.2)
    (line_stops entry_in whole count entries c.args.before c.args.text.now (record { number = c.in_ok-words.line; words = words; after = c.in_ok-words.rest.now })
    _ c.row_line.result c.numbered.result c.in_err-entry.field-0.0 at (unfinished-open entries open_) c.in_ok-words.ensures.line
    (entry_of-open entries words open_ ∙ ap (λ (p : Progress). row_said p words) (sym here) ∙ ap (λ (ws : List (Bor (List ℕ))). row_said c.args.progress.now (plain_line (line_in ws))) (sym c.deref.ensures.value))
    c.row_line.ensures.gives c.numbered.ensures c.in_err-entry.was)

pub returns-clause-moves : goal.returns-clause-moves
returns-clause-moves c = λ whole count entries at here open_.
    let words = plain_line (line_in c.in_ok-words.words.items) in
    line_moves entry_in whole count entries c.args.before c.args.text.now (record { number = c.in_ok-words.line; words = words; after = c.in_ok-words.rest.now })
    _ c.row_line.result c.numbered.result c.in_ok-entry.entry at c.in_ok-words.ensures.line c.in_ok-words.ensures.counted
    (entry_of-open entries words open_ ∙ ap (λ (p : Progress). row_said p words) (sym here) ∙ ap (λ (ws : List (Bor (List ℕ))). row_said c.args.progress.now (plain_line (line_in ws))) (sym c.deref.ensures.value))
    c.row_line.ensures.gives c.numbered.ensures c.in_ok-entry.was
