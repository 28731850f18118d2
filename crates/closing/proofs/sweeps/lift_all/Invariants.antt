use Rattle.closing.specs.Better.{NodesGoOn}
use Rattle.closing.proofs.sweeps.lift_all.Given as goal

abbrev pub invariant-loop-i : goal.invariant-loop-i
invariant-loop-i l = NodesGoOn l.game l.fn.nodes.members l.nodes.members
