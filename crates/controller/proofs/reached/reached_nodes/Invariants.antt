use Rattle.std.proofs.Common.{length, ◌-◌}
use Rattle.controller.specs.Export.{IsAtStart, steps_of}
use Rattle.controller.proofs.Reaching.{Reaching}
use Rattle.controller.proofs.reached.reached_nodes.Given as goal

abbrev pub invariant-loop-next : goal.invariant-loop-next
invariant-loop-next l =
    Reaching (steps_of l.nodes.members) (IsAtStart l.starts) (length l.nodes.members) l.next l.found.flags.items l.found.numbers.items

abbrev pub decreases-loop-next : goal.decreases-loop-next
decreases-loop-next l = length l.nodes.members - l.next
