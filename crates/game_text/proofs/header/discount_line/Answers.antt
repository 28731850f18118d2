use Rattle.std.proofs.Common.{ℕ, ℤ, List, ◌∷◌, sym, ap, ◌∙◌, Bor}
use Rattle.std.proofs.lemmas.Result.{err_from_is_err_and}
use Rattle.text_words.specs.Lines.{line_in}
use Rattle.game_text.specs.Entries.{Total, Discount, discount_said}
use Rattle.game_text.specs.Plain.{plain_line}
use Rattle.game_text.proofs.Standing.{by_discount, line_moves, line_stops, missing_stops}
use Rattle.game_text.proofs.header.discount_line.Goals as goal

pub returns-in_err-words-clause-moves : goal.returns-in_err-words-clause-moves
returns-in_err-words-clause-moves c = λ whole total entries at.
    let p = err_from_is_err_and c.from_residual.result c.from_residual.ensures.1 in
    rw (p.1, p.2) (missing_stops whole 3 (Total total ∷ entries) c.args.before c.args.text.now _ at tt c.in_err-words.ensures.missing)

pub returns-in_err-discount-clause-moves : goal.returns-in_err-discount-clause-moves
returns-in_err-discount-clause-moves c = λ whole total entries at.
    let p = err_from_is_err_and c.from_residual-in_err-discount.result c.from_residual-in_err-discount.ensures.1 in
    rw (p.1, p.2)
    (line_stops (λ (discount : ℤ × ℤ). Discount discount.0 discount.1) whole 3 (Total total ∷ entries) c.args.before c.args.text.now (record { number = c.in_ok-words.line; words = plain_line (line_in c.in_ok-words.words.items); after = c.in_ok-words.rest.now })
    _ c.discount_said.result c.numbered.result c.in_err-discount.field-0.0 at tt c.in_ok-words.ensures.line
    (by_discount total entries (plain_line (line_in c.in_ok-words.words.items)) ∙ ap (λ (ws : List (Bor (List ℕ))). discount_said (plain_line (line_in ws))) (sym c.deref.ensures.value))
    c.discount_said.ensures.gives c.numbered.ensures c.in_err-discount.was)

pub returns-clause-moves : goal.returns-clause-moves
returns-clause-moves c = λ whole total entries at.
    line_moves (λ (discount : ℤ × ℤ). Discount discount.0 discount.1) whole 3 (Total total ∷ entries) c.args.before c.args.text.now (record { number = c.in_ok-words.line; words = plain_line (line_in c.in_ok-words.words.items); after = c.in_ok-words.rest.now })
    _ c.discount_said.result c.numbered.result c.in_ok-discount.discount at c.in_ok-words.ensures.line c.in_ok-words.ensures.counted
    (by_discount total entries (plain_line (line_in c.in_ok-words.words.items)) ∙ ap (λ (ws : List (Bor (List ℕ))). discount_said (plain_line (line_in ws))) (sym c.deref.ensures.value))
    c.discount_said.ensures.gives c.numbered.ensures c.in_ok-discount.was
