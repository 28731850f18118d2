use Rattle.std.specs.String.{string_bytes}
use Rattle.game_text.specs.Text.{informed_text}
use Rattle.text_words.proofs.Grown.{grown-numbered}
use Rattle.game_text.proofs.printing.own_lines.Goals as goal

pub loop-a-preserved : goal.loop-a-preserved
loop-a-preserved c =
    grown-numbered (informed_text c.args.game.now c.args.s) c.loop-a.a (string_bytes c.args.text.now) (string_bytes c.loop-a.text) (string_bytes c.informed_lines.new.text) c.loop-a.invariant c.in_ok-informed_lines.ensures
