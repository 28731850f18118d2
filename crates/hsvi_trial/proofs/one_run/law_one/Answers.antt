use Rattle.hsvi_trial.proofs.Fronts.{visits-are_one}
use Rattle.hsvi_trial.proofs.OneRuns.{one-run_for}
use Rattle.hsvi_trial.proofs.one_run.law_one.Goals as goal

pub returns : goal.returns
returns c = one-run_for c.args.game.now (visits-are_one c.args.game.now) c.law_game.ensures.accepted
