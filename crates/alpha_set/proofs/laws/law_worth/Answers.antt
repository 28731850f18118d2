use Rattle.alpha_set.proofs.One.{worth-one}
use Rattle.alpha_set.proofs.laws.law_worth.Goals as goal

pub returns : goal.returns
returns c = worth-one
