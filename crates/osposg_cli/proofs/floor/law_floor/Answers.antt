use Rattle.osposg_cli.proofs.FixedAction.{floor-defined, floor-promises, floor_answer-some}
use Rattle.osposg_cli.proofs.floor.law_floor.Goals as goal

pub returns-clause-defined : goal.returns-clause-defined
returns-clause-defined c = floor-defined c.law_seeds.ensures.one c.law_texts.ensures

pub returns-clause-keeps : goal.returns-clause-keeps
returns-clause-keeps c = floor-promises c.law_seeds.ensures.earn c.law_texts.ensures

pub returns-clause-some : goal.returns-clause-some
returns-clause-some c = floor_answer-some c.law_seeds.ensures.exist c.law_decided_alone.ensures
