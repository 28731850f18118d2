use Rattle.std.proofs.Common.{take, ◌≡◌}
use Rattle.hsvi_trial.specs.Founds.{lowest_items}
use Rattle.hsvi_trial.proofs.starts.divided.Given as goal

abbrev pub invariant-loop-i : goal.invariant-loop-i
invariant-loop-i l = l.items.items ≡ take l.i (lowest_items l.fn.divisor l.fn.split)
