use Rattle.osposg_cli.proofs.Shown.{show-defined, show-keeps, show_answer-some}
use Rattle.osposg_cli.proofs.show.law_show.Goals as goal

pub returns-clause-defined : goal.returns-clause-defined
returns-clause-defined c = show-defined c.law_texts.ensures

pub returns-clause-keeps : goal.returns-clause-keeps
returns-clause-keeps c = show-keeps c.law_canonical.ensures c.law_texts.ensures

pub returns-clause-some : goal.returns-clause-some
returns-clause-some c = show_answer-some c.law_decided_alone.ensures
