use Rattle.history_model.proofs.MachinePlans.{actions-play, brought-divides, nodes-play, points-play}
use Rattle.history_model.proofs.Machines.{same-multiple}
use Rattle.history_model.proofs.Standing.{node-plans, point-plans}
use Rattle.history_model.proofs.law_machines.Goals as goal

pub returns-clause-nodes : goal.returns-clause-nodes
returns-clause-nodes c = nodes-play

pub returns-clause-node_plans : goal.returns-clause-node_plans
returns-clause-node_plans c = node-plans

pub returns-clause-points : goal.returns-clause-points
returns-clause-points c = points-play

pub returns-clause-point_plans : goal.returns-clause-point_plans
returns-clause-point_plans c = point-plans

pub returns-clause-actions : goal.returns-clause-actions
returns-clause-actions c = actions-play

pub returns-clause-multiple : goal.returns-clause-multiple
returns-clause-multiple c = same-multiple

pub returns-clause-divide : goal.returns-clause-divide
returns-clause-divide c = brought-divides
