use Rattle.cert_text.proofs.LawOnce.{refused_once}
use Rattle.cert_text.proofs.laws.law_refused_once.Goals as goal

pub returns : goal.returns
returns c = refused_once
