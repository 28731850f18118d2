use Rattle.simplex.proofs.Exchange.{Exchanged}
use Rattle.simplex.proofs.tableau.exchange_rows.Given as goal

abbrev pub invariant-loop-row : goal.invariant-loop-row
invariant-loop-row l = Exchanged l.initial.rows l.initial.next l.rows l.next l.leave l.place l.row
