use Rattle.simplex.specs.Elimination.{AreQuotients}
use Rattle.simplex.proofs.quotients.divide_short.Given as goal

abbrev pub invariant-loop-column : goal.invariant-loop-column
invariant-loop-column l = AreQuotients l.lead l.part l.row l.words l.by l.column l.new
