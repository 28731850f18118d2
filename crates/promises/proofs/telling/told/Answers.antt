use Rattle.std.proofs.Common.{rules}
use Rattle.promises.proofs.telling.told.Goals as goal

pub returns-clause-upper : goal.returns-clause-upper
returns-clause-upper c = c.earns.ensures.upper (search rules)
