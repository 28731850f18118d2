use Rattle.std.proofs.Common.{◌≡◌, ◌++◌, flat_map}
use Rattle.std.specs.String.{string_bytes}
use Rattle.scaled_num.specs.Sums.{below}
use Rattle.game_text.specs.Text.{informed_text}
use Rattle.game_text.proofs.printing.own_lines.Given as goal

abbrev pub invariant-loop-a : goal.invariant-loop-a
invariant-loop-a l = string_bytes l.text ≡ string_bytes l.initial.text ++ flat_map (λ a. informed_text l.game l.s a) (below l.a)
