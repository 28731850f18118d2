use Rattle.osposg_cli.proofs.Closer.{close-keeps, close-told}
use Rattle.osposg_cli.proofs.close.law_close.Goals as goal

pub returns-clause-told : goal.returns-clause-told
returns-clause-told c = close-told

pub returns-clause-keeps : goal.returns-clause-keeps
returns-clause-keeps c = close-keeps c.law_controllers.ensures c.law_splittings.ensures
