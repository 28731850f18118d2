use Rattle.history_model.proofs.law_lower.Goals as goal

pub returns-clause-plans : goal.returns-clause-plans
returns-clause-plans c = c.law_controllers.ensures.plans _ _ c.requires

pub returns-clause-nodes : goal.returns-clause-nodes
returns-clause-nodes c = c.law_controllers.ensures.nodes _ _ c.law_game.ensures.keeps_span c.requires

pub returns-clause-plan : goal.returns-clause-plan
returns-clause-plan c = c.law_controllers.ensures.plan _ _ c.requires

pub returns-clause-family : goal.returns-clause-family
returns-clause-family c = c.law_controllers.ensures.family _ _ c.law_game.ensures.keeps_span c.requires

pub returns-clause-state : goal.returns-clause-state
returns-clause-state c = c.law_controllers.ensures.state _ _ c.law_game.ensures.keeps_span c.requires
