use Rattle.std.proofs.Common.{refl, sym, subst, arith}
use Rattle.std.proofs.lemmas.Bool.Decides.{nat_tests}
use Rattle.game_text.specs.Answers.{IsMore}
use Rattle.game_text.specs.Places.{IsNoLine}
use Rattle.game_text.specs.Plain.{open_words}
use Rattle.game_text.proofs.Standing.{first-some}
use Rattle.game_text.proofs.Parted.{no_words}
use Rattle.game_text.proofs.Wordless.{has_line, no_lines}
use Rattle.game_text.proofs.texts.nothing_more.Goals as goal

pub returns-in-Ok-clause-more : goal.returns-in-Ok-clause-more
returns-in-Ok-clause-more c =
    subst (IsMore c.args.before c.args.bytes.now) (sym c.trailing.ensures)
    (has_line c.args.before c.args.bytes.now _ _ c.in-Ok.ensures.line, sym (first-some c.args.before c.args.bytes.now _ _ c.in-Ok.ensures.line), refl)

pub returns-clause-wordless : goal.returns-clause-wordless
returns-clause-wordless c = (
  no_lines c.args.before c.args.bytes.now (subst (IsNoLine c.args.before c.args.bytes.now) c.in-Err-Line.field-0-is c.in-Err-Line.ensures.missing).0,
  no_words c.in_ok-words.words.items (open_words c.args.bytes.now) c.in_ok-words.ensures (grind (arith, nat_tests, c.is_empty.ensures, c.if-not-is_empty.false)),
)
