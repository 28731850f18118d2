use Rattle.history_model.proofs.Trees.{informed-plans, informed-plays, own-plans, own-plays, strategies-pay}
use Rattle.history_model.proofs.law_strategies.Goals as goal

pub returns-clause-own_plans : goal.returns-clause-own_plans
returns-clause-own_plans c = own-plans

pub returns-clause-informed_plans : goal.returns-clause-informed_plans
returns-clause-informed_plans c = informed-plans

pub returns-clause-own_plays : goal.returns-clause-own_plays
returns-clause-own_plays c = own-plays

pub returns-clause-informed_plays : goal.returns-clause-informed_plays
returns-clause-informed_plays c = informed-plays

pub returns-clause-pay : goal.returns-clause-pay
returns-clause-pay c = strategies-pay
