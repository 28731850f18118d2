use Rattle.std.proofs.Common.{◌≡◌, drop}
use Rattle.backup.specs.Tries.{tried_bits}
use Rattle.backup.specs.UpperRuns.{IsSound, run_data}
use Rattle.backup.proofs.UpperRuns.{IsBestSoFar}
use Rattle.backup.proofs.upper_visits.best_run.Given as goal

abbrev pub invariant-loop-bits : goal.invariant-loop-bits
invariant-loop-bits l = record {
  rows : l.solver.most_rows ≡ l.initial.solver.most_rows;
  variables : l.solver.most_variables ≡ l.initial.solver.most_variables;
  so_far : IsBestSoFar l.fn.game l.fn.belief l.fn.points.members l.fn.priced (run_data l.fn.first) (drop l.bits-index tried_bits) (run_data l.best);
  sound : IsSound l.fn.game l.fn.points.members (run_data l.best);
}
