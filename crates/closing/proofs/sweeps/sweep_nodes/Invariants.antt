use Rattle.closing.specs.Better.{NodesGoOn}
use Rattle.closing.proofs.sweeps.sweep_nodes.Given as goal

abbrev pub invariant-loop : goal.invariant-loop
invariant-loop l = NodesGoOn l.game l.fn.nodes.members l.nodes.members
