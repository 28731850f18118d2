use Rattle.osposg_cli.proofs.Solved.{solve-defined, solve-keeps}
use Rattle.osposg_cli.proofs.solve.law_solve.Goals as goal

pub returns-clause-defined : goal.returns-clause-defined
returns-clause-defined c = solve-defined c.law_export.ensures.one c.law_texts.ensures

pub returns-clause-keeps : goal.returns-clause-keeps
returns-clause-keeps c = solve-keeps c.law_controllers.ensures c.law_splittings.ensures
