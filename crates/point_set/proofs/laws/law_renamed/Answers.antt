use Rattle.point_set.proofs.Moving.{renamed-stand}
use Rattle.point_set.proofs.laws.law_renamed.Goals as goal

pub returns : goal.returns
returns c = renamed-stand
