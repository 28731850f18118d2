use Rattle.std.proofs.Common.{◌+◌, ◌<◌, ◌≤◌, pos, length}
use Rattle.simplex.specs.Program.{at}
use Rattle.simplex.specs.Elimination.{IsCommonBound, AreQuotients}
use Rattle.simplex.proofs.quotients.quick_row.Given as goal

abbrev pub invariant-loop : goal.invariant-loop
invariant-loop l = record {
  positive : 0 < l.common;
  bound : IsCommonBound l.row l.pivot l.place l.common;
  inside : l.column ≤ length l.row;
  quotients : AreQuotients (at l.pivot (l.place + 2)) (at l.row (l.place + 2)) l.row l.words (pos l.common) l.column l.new;
}
