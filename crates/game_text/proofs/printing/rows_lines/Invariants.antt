use Rattle.std.proofs.Common.{◌≡◌, ◌++◌, flat_map}
use Rattle.std.specs.String.{string_bytes}
use Rattle.scaled_num.specs.Sums.{below}
use Rattle.game_text.specs.Text.{state_text}
use Rattle.game_text.proofs.printing.rows_lines.Given as goal

abbrev pub invariant-loop-s : goal.invariant-loop-s
invariant-loop-s l = string_bytes l.text ≡ string_bytes l.initial.text ++ flat_map (λ s. state_text l.game s) (below l.s)
