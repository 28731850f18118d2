use Rattle.osposg_cli.proofs.Summarised.{summary-defined, summary-keeps}
use Rattle.osposg_cli.proofs.summary.law_summary.Goals as goal

pub returns-clause-defined : goal.returns-clause-defined
returns-clause-defined c = summary-defined c.law_export.ensures.one c.law_made.ensures.limits

pub returns-clause-keeps : goal.returns-clause-keeps
returns-clause-keeps c = summary-keeps c.law_controllers.ensures c.law_splittings.ensures c.law_made.ensures.limits
