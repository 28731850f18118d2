use Rattle.scaled_num.proofs.OneShare.{floors-are_one, shares-are_one}
use Rattle.scaled_num.proofs.laws.law_shares.Goals as goal

pub returns : goal.returns
returns c = record { floors = floors-are_one; shares = shares-are_one }
