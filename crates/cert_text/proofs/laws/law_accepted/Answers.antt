use Rattle.cert_text.proofs.Decided.{accepts_to}
use Rattle.cert_text.proofs.LawAccept.{lines_are_texts}
use Rattle.cert_text.proofs.laws.law_accepted.Goals as goal

pub returns : goal.returns
returns c = λ g bytes entries game a. lines_are_texts g bytes entries game (accepts_to g bytes entries game a)
