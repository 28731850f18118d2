-- What the laws of `history_model` say, together.
use Rattle.history_model.specs.MachinePlans.{ActionsPlay, BroughtDivides, MultiplesAgree, NodePlans, NodesPlay, PointPlans, PointsPlay}
use Rattle.history_model.specs.Playing.{CoursesWeigh, PlansPay}
use Rattle.history_model.specs.Starts.{StartNodesWeigh, StartPointsMakeUp, StartsEarn, StartsEarnAt, StartsHold}
use Rattle.history_model.specs.Trees.{InformedStrategiesArePlans, InformedStrategiesPlay, OwnStrategiesArePlans, OwnStrategiesPlay}

-- what the laws of history_model say
pub record Told : Type 0 where
  pub pay : PlansPay
  pub mean : CoursesWeigh
  pub own_plans : OwnStrategiesArePlans
  pub informed_plans : InformedStrategiesArePlans
  pub own_plays : OwnStrategiesPlay
  pub informed_plays : InformedStrategiesPlay
  pub nodes : NodesPlay
  pub node_plans : NodePlans
  pub points : PointsPlay
  pub point_plans : PointPlans
  pub actions : ActionsPlay
  pub multiple : MultiplesAgree
  pub divide : BroughtDivides
  pub lower : StartsEarn
  pub lower_at : StartsEarnAt
  pub upper : StartsHold
  pub some_node : StartNodesWeigh
  pub make_up_first : StartPointsMakeUp
