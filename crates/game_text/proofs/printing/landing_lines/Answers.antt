use Rattle.std.proofs.Common.{◌≤◌, arith, length}
use Rattle.std.specs.String.{string_bytes}
use Rattle.game_text.specs.Text.{landing_line}
use Rattle.text_words.proofs.Grown.{all-pieces}
use Rattle.game_text.proofs.printing.landing_lines.Goals as goal

pub returns : goal.returns
returns c =
    let row = c.args.row.now in
    let done : length row ≤ c.loop-landing.landing-index = omega (arith, c.loop-landing-test.false) in
    all-pieces landing_line row c.loop-landing.landing-index (string_bytes c.args.text.now) (string_bytes c.loop-landing.text) done c.loop-landing.invariant
