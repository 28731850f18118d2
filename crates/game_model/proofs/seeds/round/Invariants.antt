use Rattle.std.proofs.Common.{ℕ, ◌<◌}
use Rattle.std.specs.Prelude.{pos, slice_index_or}
use Rattle.game_model.specs.Bounds.{IsWithinSpan}
use Rattle.game_model.specs.Game.{numbers}
use Rattle.game_model.specs.Seeds.{IsLeastFloor}
use Rattle.game_model.proofs.seeds.round.Given as goal

abbrev pub invariant-loop-s : goal.invariant-loop-s
invariant-loop-s l = record {
  floors : (k : ℕ) → k < l.s → IsLeastFloor (numbers l.fn.game) l.fn.a (λ t. slice_index_or l.fn.old t (pos 0)) k (slice_index_or l.new k (pos 0));
  within : (k : ℕ) → k < l.s → IsWithinSpan l.fn.game (slice_index_or l.new k (pos 0));
}
