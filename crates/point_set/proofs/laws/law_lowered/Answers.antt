use Rattle.point_set.proofs.Lowering.{lowered-stand, replaced-fit}
use Rattle.point_set.proofs.laws.law_lowered.Goals as goal

pub returns-clause-stand : goal.returns-clause-stand
returns-clause-stand c = lowered-stand

pub returns-clause-fit : goal.returns-clause-fit
returns-clause-fit c = replaced-fit
