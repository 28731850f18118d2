use Rattle.std.specs.Prelude.{ℕ, ◌<◌}
use Rattle.game_model.specs.Game.{numbers}
use Rattle.point_set.specs.Faults.{split_places_seen}
use Rattle.point_set.specs.Members.{AllHoldAmong}
use Rattle.point_set.proofs.splits.first_after.Given as goal

abbrev pub invariant-loop-o : goal.invariant-loop-o
invariant-loop-o l = (p : ℕ) → p < l.o → AllHoldAmong l.fn.game l.fn.points l.fn.point (split_places_seen (numbers l.fn.game) l.fn.a p)
