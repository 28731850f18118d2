use Rattle.std.specs.Prelude.{ℕ, ◌<◌}
use Rattle.game_model.specs.Game.{numbers}
use Rattle.alpha_set.specs.Faults.{state_places}
use Rattle.alpha_set.specs.Members.{AllHoldBy}
use Rattle.alpha_set.proofs.stands.first_by.Given as goal

abbrev pub invariant-loop-s : goal.invariant-loop-s
invariant-loop-s l = (t : ℕ) → t < l.s → AllHoldBy l.fn.game l.fn.node l.fn.table (state_places (numbers l.fn.game) t)
