use Rattle.std.proofs.Common.{ℕ, ◌<◌, ◌≤◌, ◌/◌, ◌^◌}
use Rattle.stage_game.specs.Reading.{weight_end}
use Rattle.stage_game.proofs.prices.shift_of.Given as goal

abbrev pub invariant-loop-bits : goal.invariant-loop-bits
invariant-loop-bits l = (fewer : ℕ) → fewer < l.bits → weight_end ≤ l.fn.price / 2 ^ fewer
