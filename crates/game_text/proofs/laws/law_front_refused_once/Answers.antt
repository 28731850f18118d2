use Rattle.game_text.proofs.Accept.{front_refused_once}
use Rattle.game_text.proofs.Ruled.{text_to}
use Rattle.game_text.proofs.laws.law_front_refused_once.Goals as goal

pub returns : goal.returns
returns c = λ text m n j k a b. front_refused_once text m n j k (text_to text m j a) (text_to text n k b)
