use Rattle.alpha_set.proofs.Adding.{Added}
use Rattle.alpha_set.proofs.tables.add.Given as goal

abbrev pub invariant-loop-t : goal.invariant-loop-t
invariant-loop-t l = Added l.initial.table l.vector l.table l.start l.t l.step.weight
