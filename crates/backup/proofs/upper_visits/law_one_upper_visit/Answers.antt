use Rattle.backup.proofs.OneUpperVisits.{visits-one}
use Rattle.backup.proofs.upper_visits.law_one_upper_visit.Goals as goal

pub returns : goal.returns
returns c = visits-one
