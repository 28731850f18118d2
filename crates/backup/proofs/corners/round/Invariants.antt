use Rattle.std.proofs.Common.{ℕ, ◌<◌}
use Rattle.std.specs.Prelude.{slice_index_or}
use Rattle.scaled_num.specs.Share.{at}
use Rattle.game_model.specs.Bounds.{IsWithinSpan}
use Rattle.game_model.specs.Game.{numbers}
use Rattle.backup.specs.Seeds.{IsReply}
use Rattle.backup.proofs.corners.round.Given as goal

abbrev pub invariant-loop-s : goal.invariant-loop-s
invariant-loop-s l = record {
  replied : (k : ℕ) → k < l.s → IsReply (numbers l.fn.game) (at l.fn.old) k (slice_index_or l.replies k 0) (at l.new k);
  within : (k : ℕ) → k < l.s → IsWithinSpan l.fn.game (at l.new k);
}
