use Rattle.hsvi_trial.proofs.Growing.{right-under_any_number}
use Rattle.hsvi_trial.proofs.Steps.{one-more_visit}
use Rattle.hsvi_trial.proofs.laws.law_growth.Goals as goal

pub returns : goal.returns
returns c = record { more = one-more_visit; number = right-under_any_number }
