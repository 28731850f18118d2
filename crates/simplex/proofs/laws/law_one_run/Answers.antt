use Rattle.simplex.proofs.AlongRuns.{one_dictionary, one_end, one_run}
use Rattle.simplex.proofs.laws.law_one_run.Goals as goal

pub returns : goal.returns
returns c = record { dictionary = one_dictionary; run = one_run; end = one_end }
