use Rattle.alpha_set.proofs.Changing.{raised-stand, replaced-fit}
use Rattle.alpha_set.proofs.laws.law_raised.Goals as goal

pub returns-clause-stand : goal.returns-clause-stand
returns-clause-stand c = raised-stand

pub returns-clause-fit : goal.returns-clause-fit
returns-clause-fit c = replaced-fit
