use Rattle.std.proofs.Common.{◌≡◌, ◌++◌, flat_map, take}
use Rattle.std.specs.String.{string_bytes}
use Rattle.game_text.specs.Text.{landing_line}
use Rattle.game_text.proofs.printing.landing_lines.Given as goal

abbrev pub invariant-loop-landing : goal.invariant-loop-landing
invariant-loop-landing l = string_bytes l.text ≡ string_bytes l.initial.text ++ flat_map landing_line (take l.landing-index l.row)
