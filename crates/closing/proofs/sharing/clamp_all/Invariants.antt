use Rattle.std.proofs.Common.{ℕ, ◌<◌, ◌^◌}
use Rattle.std.specs.Prelude.{pos}
use Rattle.scaled_num.specs.Share.{at}
use Rattle.game_model.specs.Game.{IsWithin}
use Rattle.closing.proofs.sharing.clamp_all.Given as goal

abbrev pub invariant-loop-weight : goal.invariant-loop-weight
invariant-loop-weight l = (k : ℕ) → k < l.weight-index → IsWithin (pos 0) (pos (2 ^ 80)) (at l.weights k)
