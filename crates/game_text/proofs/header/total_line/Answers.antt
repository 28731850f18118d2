use Rattle.std.proofs.Common.{ℕ, List, ◌∷◌, sym, ap, ◌∙◌, Bor, rules}
use mir.Syntax.{w128}
use mir.Val.{SFits}
use Rattle.std.proofs.lemmas.Int.{to_z-of_z}
use Rattle.std.proofs.lemmas.Result.{err_from_is_err_and}
use Rattle.text_words.specs.Lines.{line_in}
use Rattle.game_text.specs.Entries.{Size, Total, total_said}
use Rattle.game_text.specs.Plain.{plain_line}
use Rattle.game_text.proofs.Standing.{by_total, line_moves, line_stops, missing_stops}
use Rattle.game_text.proofs.header.total_line.Goals as goal

pub returns-in_err-words-clause-moves : goal.returns-in_err-words-clause-moves
returns-in_err-words-clause-moves c = λ whole s a d o entries at.
    let p = err_from_is_err_and c.from_residual.result c.from_residual.ensures.1 in
    rw (p.1, p.2) (missing_stops whole 2 (Size s a d o ∷ entries) c.args.before c.args.text.now _ at tt c.in_err-words.ensures.missing)

pub returns-in_err-total-clause-moves : goal.returns-in_err-total-clause-moves
returns-in_err-total-clause-moves c = λ whole s a d o entries at.
    let p = err_from_is_err_and c.from_residual-in_err-total.result c.from_residual-in_err-total.ensures.1 in
    rw (p.1, p.2)
    (line_stops (λ total. Total total) whole 2 (Size s a d o ∷ entries) c.args.before c.args.text.now (record { number = c.in_ok-words.line; words = plain_line (line_in c.in_ok-words.words.items); after = c.in_ok-words.rest.now })
    _ c.total_said.result c.numbered.result c.in_err-total.field-0.0 at tt c.in_ok-words.ensures.line
    (by_total s a d o entries (plain_line (line_in c.in_ok-words.words.items)) ∙ ap (λ (ws : List (Bor (List ℕ))). total_said (plain_line (line_in ws))) (sym c.deref.ensures.value))
    c.total_said.ensures.gives c.numbered.ensures c.in_err-total.was)

pub returns-clause-moves : goal.returns-clause-moves
returns-clause-moves c = λ whole s a d o entries at.
    let fits : SFits w128 c.in_ok-total.total = search rules in
    rw (to_z-of_z w128 c.in_ok-total.total fits)
    (line_moves (λ total. Total total) whole 2 (Size s a d o ∷ entries) c.args.before c.args.text.now (record { number = c.in_ok-words.line; words = plain_line (line_in c.in_ok-words.words.items); after = c.in_ok-words.rest.now })
    _ c.total_said.result c.numbered.result c.in_ok-total.total at c.in_ok-words.ensures.line c.in_ok-words.ensures.counted
    (by_total s a d o entries (plain_line (line_in c.in_ok-words.words.items)) ∙ ap (λ (ws : List (Bor (List ℕ))). total_said (plain_line (line_in ws))) (sym c.deref.ensures.value))
    c.total_said.ensures.gives c.numbered.ensures c.in_ok-total.was)
