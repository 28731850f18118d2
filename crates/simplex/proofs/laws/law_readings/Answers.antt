use Rattle.simplex.proofs.OneReading.{one_dual, one_price, one_primal, primal_not_negative}
use Rattle.simplex.proofs.laws.law_readings.Goals as goal

pub returns : goal.returns
returns c = record { primal = one_primal; price = one_price; dual = one_dual; not_negative = primal_not_negative }
