use Rattle.hsvi_trial.proofs.Fronts.{beginnings-one, ends-one}
use Rattle.hsvi_trial.proofs.one_run.law_beginning.Goals as goal

pub returns : goal.returns
returns c = record { beginning = beginnings-one; ends = ends-one }
