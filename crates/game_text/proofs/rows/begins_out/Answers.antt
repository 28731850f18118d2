use Rattle.std.proofs.Common.{sym, ◌∙◌, codes}
use Rattle.text_words.specs.Lines.{line_in}
use Rattle.game_text.proofs.PlainLines.{begins_plain}
use Rattle.game_text.proofs.rows.begins_out.Goals as goal

pub returns : goal.returns
returns c = c.begins.ensures ∙ sym (begins_plain (codes "out") (line_in c.args.words.now))
