use Rattle.std.specs.String.{string_bytes}
use Rattle.cert_text.specs.Text.{mix_text}
use Rattle.text_words.proofs.Grown.{grown-numbered}
use Rattle.cert_text.proofs.printing.mix_lines.Goals as goal

pub loop-s-preserved : goal.loop-s-preserved
loop-s-preserved c =
    grown-numbered (mix_text c.args.mixes.now) c.loop-s.s (string_bytes c.args.text.now) (string_bytes c.loop-s.text) (string_bytes c.mix_line.new.text) c.loop-s.invariant c.in_ok-mix_line.ensures
