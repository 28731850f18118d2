use Rattle.std.proofs.Common.{◌≤◌, arith, length}
use Rattle.std.specs.String.{string_bytes}
use Rattle.cert_text.specs.Text.{start_line}
use Rattle.text_words.proofs.Grown.{all-pieces}
use Rattle.cert_text.proofs.printing.start_lines.Goals as goal

pub returns : goal.returns
returns c =
    let starts = c.args.starts.now in
    let done : length starts ≤ c.loop-start.start-index = omega (arith, c.loop-start-test.false) in
    all-pieces (start_line c.args.name.now) starts c.loop-start.start-index (string_bytes c.args.text.now) (string_bytes c.loop-start.text) done c.loop-start.invariant
