use Rattle.history_model.proofs.Matching.{courses-weigh, pays, weighs}
use Rattle.history_model.proofs.law_courses.Goals as goal

pub returns-clause-pay : goal.returns-clause-pay
returns-clause-pay c = pays

pub returns-clause-weights : goal.returns-clause-weights
returns-clause-weights c = weighs

pub returns-clause-mean : goal.returns-clause-mean
returns-clause-mean c = courses-weigh
