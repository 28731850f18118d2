use Rattle.std.proofs.Common.{ℕ, ◌<◌}
use Rattle.std.specs.Prelude.{pos}
use Rattle.scaled_num.specs.Share.{at}
use Rattle.game_model.specs.Game.{IsWithin}
use Rattle.point_set.specs.Split.{most_wish}
use Rattle.closing.proofs.wishes.scale_down.Given as goal

abbrev pub invariant-loop-weight : goal.invariant-loop-weight
invariant-loop-weight l = (k : ℕ) → k < l.weight-index → IsWithin (pos 0) (pos most_wish) (at l.weights k)
