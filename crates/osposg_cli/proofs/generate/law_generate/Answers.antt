use Rattle.osposg_cli.proofs.Generated.{gen-defined, gen-keeps, gen-some}
use Rattle.osposg_cli.proofs.generate.law_generate.Goals as goal

pub returns-clause-defined : goal.returns-clause-defined
returns-clause-defined c = gen-defined

pub returns-clause-some : goal.returns-clause-some
returns-clause-some c = gen-some

pub returns-clause-keeps : goal.returns-clause-keeps
returns-clause-keeps c = gen-keeps c.law_canonical.ensures c.law_made.ensures.limits
