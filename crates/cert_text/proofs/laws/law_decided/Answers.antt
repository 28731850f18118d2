use Rattle.cert_text.proofs.Decided.{decided}
use Rattle.cert_text.proofs.laws.law_decided.Goals as goal

pub returns : goal.returns
returns c = decided
