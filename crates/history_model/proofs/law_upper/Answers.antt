use Rattle.history_model.proofs.law_upper.Goals as goal

pub returns-clause-divide : goal.returns-clause-divide
returns-clause-divide c = c.law_splittings.ensures.divide c.args.game.now c.args.certificate.now

pub returns-clause-plans : goal.returns-clause-plans
returns-clause-plans c = c.law_splittings.ensures.plans _ _ c.requires

pub returns-clause-points : goal.returns-clause-points
returns-clause-points c = c.law_splittings.ensures.points _ _ c.law_game.ensures.keeps_span c.requires

pub returns-clause-plan : goal.returns-clause-plan
returns-clause-plan c = c.law_splittings.ensures.plan _ _ c.requires

pub returns-clause-half : goal.returns-clause-half
returns-clause-half c = c.law_splittings.ensures.half _ _ c.law_game.ensures.keeps_span c.requires
