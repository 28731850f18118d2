use Rattle.std.specs.String.{string_bytes}
use Rattle.game_text.specs.Text.{state_text}
use Rattle.text_words.proofs.Grown.{grown-numbered}
use Rattle.game_text.proofs.printing.rows_lines.Goals as goal

pub loop-s-preserved : goal.loop-s-preserved
loop-s-preserved c =
    grown-numbered (state_text c.args.game.now) c.loop-s.s (string_bytes c.args.text.now) (string_bytes c.loop-s.text) (string_bytes c.own_lines.new.text) c.loop-s.invariant c.in_ok-own_lines.ensures
