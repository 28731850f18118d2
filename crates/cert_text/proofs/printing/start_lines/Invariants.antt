use Rattle.std.proofs.Common.{◌≡◌, ◌++◌, flat_map, take}
use Rattle.std.specs.String.{string_bytes}
use Rattle.cert_text.specs.Text.{start_line}
use Rattle.cert_text.proofs.printing.start_lines.Given as goal

abbrev pub invariant-loop-start : goal.invariant-loop-start
invariant-loop-start l = string_bytes l.text ≡ string_bytes l.initial.text ++ flat_map (start_line l.name) (take l.start-index l.starts)
