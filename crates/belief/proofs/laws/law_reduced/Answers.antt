use Rattle.belief.proofs.OneReduced.{lowest-one, reduced-one}
use Rattle.belief.proofs.laws.law_reduced.Goals as goal

pub returns : goal.returns
returns c = record { lowest = lowest-one; reduced = reduced-one }
