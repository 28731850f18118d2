use Rattle.cert_text.proofs.LawRead.{one_certificate}
use Rattle.cert_text.proofs.laws.law_one.Goals as goal

pub returns : goal.returns
returns c = one_certificate
