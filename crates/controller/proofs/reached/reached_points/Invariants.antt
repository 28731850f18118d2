use Rattle.std.proofs.Common.{length, ◌-◌}
use Rattle.controller.specs.Export.{IsAtCornerOrStart, shares_of}
use Rattle.controller.proofs.Reaching.{Reaching}
use Rattle.controller.proofs.reached.reached_points.Given as goal

abbrev pub invariant-loop-next : goal.invariant-loop-next
invariant-loop-next l =
    Reaching (shares_of l.points.members) (IsAtCornerOrStart l.game.shape.states l.starts) (length l.points.members) l.next l.found.flags.items l.found.numbers.items

abbrev pub decreases-loop-next : goal.decreases-loop-next
decreases-loop-next l = length l.points.members - l.next
