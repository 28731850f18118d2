use Rattle.std.proofs.Common.{◌≡◌, ℕ, ◌<◌, ◌/◌, ◌^◌}
use Rattle.std.specs.Prelude.{pos, slice_index}
use Rattle.scaled_num.specs.Share.{at}
use Rattle.stage_game.proofs.prices.shift.Given as goal

abbrev pub invariant-loop-place : goal.invariant-loop-place
invariant-loop-place l = (k : ℕ) → k < l.place → at l.weights k ≡ pos (slice_index l.fn.prices k / 2 ^ l.fn.bits)
