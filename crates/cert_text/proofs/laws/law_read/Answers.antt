use Rattle.cert_text.proofs.LawRead.{texts_are_read}
use Rattle.cert_text.proofs.laws.law_read.Goals as goal

pub returns : goal.returns
returns c = texts_are_read
