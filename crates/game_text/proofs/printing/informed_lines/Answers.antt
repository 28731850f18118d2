use Rattle.std.specs.String.{string_bytes}
use Rattle.game_text.specs.Text.{row_text}
use Rattle.text_words.proofs.Grown.{grown-numbered}
use Rattle.game_text.proofs.printing.informed_lines.Goals as goal

pub loop-c-preserved : goal.loop-c-preserved
loop-c-preserved c =
    grown-numbered (row_text c.args.game.now c.args.s c.args.a) c.loop-c.c (string_bytes c.args.text.now) (string_bytes c.loop-c.text) (string_bytes c.row_lines.new.text) c.loop-c.invariant c.in_ok-row_lines.ensures
