use Rattle.cert_text.proofs.LawOnce.{not_refused}
use Rattle.cert_text.proofs.laws.law_not_refused.Goals as goal

pub returns : goal.returns
returns c = not_refused
