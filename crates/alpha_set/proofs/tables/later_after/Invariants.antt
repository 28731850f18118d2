use Rattle.alpha_set.proofs.Rows.{RowSoFar}
use Rattle.alpha_set.proofs.tables.later_after.Given as goal

abbrev pub invariant-loop-landing : goal.invariant-loop-landing
invariant-loop-landing l = RowSoFar l.fn.game l.row l.table l.a l.landing-index l.sum
