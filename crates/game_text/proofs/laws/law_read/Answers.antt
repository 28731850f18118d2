use Rattle.game_text.specs.Plain.{lines_of}
use Rattle.game_text.proofs.Accept.{texts_are_read}
use Rattle.game_text.proofs.Ruled.{accepts_from}
use Rattle.game_text.proofs.laws.law_read.Goals as goal

pub returns : goal.returns
returns c = λ text rest g t. let r = texts_are_read text rest g t in (r.0, r.1, r.2, accepts_from (lines_of text) r.0 r.1 r.2 r.3, r.4)
