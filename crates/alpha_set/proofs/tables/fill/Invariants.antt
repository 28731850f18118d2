use Rattle.alpha_set.proofs.Filling.{Filled}
use Rattle.alpha_set.proofs.tables.fill.Given as goal

abbrev pub invariant-loop-step : goal.invariant-loop-step
invariant-loop-step l = Filled l.fn.game l.fn.nodes l.fn.node.next.items l.step-index l.table
