use Rattle.backup.proofs.OneLowerVisits.{visits-one}
use Rattle.backup.proofs.lower_visits.law_one_lower_visit.Goals as goal

pub returns : goal.returns
returns c = visits-one
