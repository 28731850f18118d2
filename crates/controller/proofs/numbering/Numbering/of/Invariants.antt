use Rattle.std.proofs.Common.{map, ◌≡◌}
use Rattle.scaled_num.specs.Sums.{below}
use Rattle.controller.specs.Export.{new_number}
use Rattle.controller.specs.Reached.{flag_at}
use Rattle.controller.proofs.numbering.Numbering.of.Given as goal

abbrev pub invariant-loop-keep : goal.invariant-loop-keep
invariant-loop-keep l =
    (l.numbers.items ≡ map (new_number (flag_at l.keep-items)) (below l.keep-index)) × (l.count ≡ new_number (flag_at l.keep-items) l.keep-index)
