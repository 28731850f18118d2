use Rattle.std.proofs.Common.{◌<◌}
use Rattle.simplex.specs.Elimination.{DividedSoFar}
use Rattle.simplex.proofs.row.divide_out.Given as goal

abbrev pub invariant-loop-column : goal.invariant-loop-column
invariant-loop-column l = record {
  so_far : DividedSoFar l.initial.numbers l.numbers l.by.value l.column;
  shift : l.by.shift < 128;
}
