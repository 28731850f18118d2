use Rattle.history_model.proofs.Standing.{nodes-are_plans, nodes-earn}
use Rattle.history_model.proofs.LowerHalves.{lower-half, lower-half_at, own-is_plan}
use Rattle.history_model.proofs.law_controllers.Goals as goal

pub returns : goal.returns
returns c = record {
  plans = nodes-are_plans;
  nodes = λ g k keeps. nodes-earn g k keeps.full;
  plan = own-is_plan;
  family = lower-half;
  state = lower-half_at;
}
