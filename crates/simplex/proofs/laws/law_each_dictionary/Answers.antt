use Rattle.simplex.proofs.BothRuns.{run_dictionary}
use Rattle.simplex.proofs.AlongRuns.{rows_stay_kept, stays_feasible, stays_narrow}
use Rattle.simplex.proofs.laws.law_each_dictionary.Goals as goal

pub returns : goal.returns
returns c = record { program = run_dictionary; narrow = stays_narrow; feasible = stays_feasible; rows_kept = rows_stay_kept }
