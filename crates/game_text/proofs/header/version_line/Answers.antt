use Rattle.std.proofs.Common.{ℕ, List, [], sym, ap, ◌∙◌, Bor}
use Rattle.std.proofs.lemmas.Result.{err_from_is_err_and}
use Rattle.text_words.specs.Lines.{line_in}
use Rattle.text_words.specs.declared.fault.LineFault.TheVariants.{Refused}
use Rattle.game_text.specs.Entries.{Version}
use Rattle.game_text.specs.Forms.{version_line}
use Rattle.game_text.specs.Plain.{plain_line}
use Rattle.game_text.proofs.Standing.{missing_stops, moved, refused_stops, start, version_fails, version_says}
use Rattle.game_text.proofs.header.version_line.Goals as goal

pub returns-in_err-words-clause-moves : goal.returns-in_err-words-clause-moves
returns-in_err-words-clause-moves c =
    let p = err_from_is_err_and c.from_residual.result c.from_residual.ensures.1 in
    rw (p.1, p.2) (missing_stops c.args.text.now 0 [] 0 c.args.text.now _ (start c.args.text.now) tt c.in_err-words.ensures.missing)

pub returns-in-Ok-clause-moves : goal.returns-in-Ok-clause-moves
returns-in-Ok-clause-moves c =
    moved c.args.text.now 0 [] 0 c.args.text.now (record { number = c.in_ok-words.line; words = plain_line (line_in c.in_ok-words.words.items); after = c.in_ok-words.rest.now }) Version
    (start c.args.text.now) c.in_ok-words.ensures.line c.in_ok-words.ensures.counted
    (version_says (plain_line (line_in c.in_ok-words.words.items)) _ (ap (λ (ws : List (Bor (List ℕ))). version_line (plain_line (line_in ws))) (sym c.deref.ensures.value) ∙ sym c.version.ensures ∙ c.in-Ok.is))

pub returns-clause-moves : goal.returns-clause-moves
returns-clause-moves c =
    refused_stops c.args.text.now 0 [] 0 c.args.text.now (record { number = c.in_ok-words.line; words = plain_line (line_in c.in_ok-words.words.items); after = c.in_ok-words.rest.now }) (Refused c.in-Err.kind)
    (start c.args.text.now) tt c.in_ok-words.ensures.line
    (version_fails (plain_line (line_in c.in_ok-words.words.items)) _ (ap (λ (ws : List (Bor (List ℕ))). version_line (plain_line (line_in ws))) (sym c.deref.ensures.value) ∙ sym c.version.ensures ∙ c.in-Err.is))
