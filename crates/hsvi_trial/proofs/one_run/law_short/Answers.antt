use Rattle.hsvi_trial.proofs.ShortRuns.{runs-short}
use Rattle.hsvi_trial.proofs.one_run.law_short.Goals as goal

pub returns : goal.returns
returns c = runs-short
