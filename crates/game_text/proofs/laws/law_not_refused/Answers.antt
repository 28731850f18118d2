use Rattle.game_text.proofs.Accept.{text_not_refused}
use Rattle.game_text.proofs.Ruled.{text_to}
use Rattle.game_text.proofs.laws.law_not_refused.Goals as goal

pub returns : goal.returns
returns c = λ text rest g number kind t r. text_not_refused text rest g number kind t (text_to text number kind r)
