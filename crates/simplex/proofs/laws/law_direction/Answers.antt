use Rattle.simplex.proofs.AlongRuns.{unbounded_has_direction}
use Rattle.simplex.proofs.laws.law_direction.Goals as goal

pub returns : goal.returns
returns c = unbounded_has_direction
