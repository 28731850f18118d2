use Rattle.std.specs.Prelude.{ℕ, ◌<◌}
use Rattle.scaled_num.specs.Share.{at}
use Rattle.game_model.specs.Bounds.{IsLeastOf}
use Rattle.game_model.specs.Game.{numbers}
use Rattle.alpha_set.specs.Members.{mix_of, worth_by}
use Rattle.alpha_set.proofs.stages.least_worths.Given as goal

abbrev pub invariant-loop-s : goal.invariant-loop-s
invariant-loop-s l = (k : ℕ) → k < l.s → IsLeastOf (worth_by (numbers l.fn.game) (mix_of l.fn.mix) l.fn.table k) l.fn.game.shape.informed_actions (at l.worths k)
