use Rattle.std.proofs.Common.{ℕ, ◌<◌, ◌+◌, ◌^◌}
use Rattle.std.specs.Prelude.{slice_index}
use Rattle.stage_game.specs.Reading.{IsCountedPrice, last_of}
use Rattle.stage_game.proofs.prices.read_prices.Given as goal

abbrev pub invariant-loop-place : goal.invariant-loop-place
invariant-loop-place l = (k : ℕ) → k < l.place → IsCountedPrice (last_of l.fn.solver) (l.fn.first + k) (slice_index l.prices k) × (slice_index l.prices k < 2 ^ 62)
