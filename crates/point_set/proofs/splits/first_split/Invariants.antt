use Rattle.std.specs.Prelude.{ℕ, ◌<◌}
use Rattle.game_model.specs.Game.{numbers}
use Rattle.point_set.specs.Faults.{split_places_after}
use Rattle.point_set.specs.Members.{AllHoldAmong}
use Rattle.point_set.proofs.splits.first_split.Given as goal

abbrev pub invariant-loop-a : goal.invariant-loop-a
invariant-loop-a l = (b : ℕ) → b < l.a → AllHoldAmong l.fn.game l.fn.points l.fn.point (split_places_after (numbers l.fn.game) b)
