use Rattle.std.proofs.Common.{◌≡◌, ◌++◌, flat_map}
use Rattle.std.specs.String.{string_bytes}
use Rattle.scaled_num.specs.Sums.{below}
use Rattle.cert_text.specs.Text.{mix_text}
use Rattle.cert_text.proofs.printing.mix_lines.Given as goal

abbrev pub invariant-loop-s : goal.invariant-loop-s
invariant-loop-s l = string_bytes l.text ≡ string_bytes l.initial.text ++ flat_map (mix_text l.mixes) (below l.s)
