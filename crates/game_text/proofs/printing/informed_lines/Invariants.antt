use Rattle.std.proofs.Common.{◌≡◌, ◌++◌, flat_map}
use Rattle.std.specs.String.{string_bytes}
use Rattle.scaled_num.specs.Sums.{below}
use Rattle.game_text.specs.Text.{row_text}
use Rattle.game_text.proofs.printing.informed_lines.Given as goal

abbrev pub invariant-loop-c : goal.invariant-loop-c
invariant-loop-c l = string_bytes l.text ≡ string_bytes l.initial.text ++ flat_map (λ c. row_text l.game l.s l.a c) (below l.c)
