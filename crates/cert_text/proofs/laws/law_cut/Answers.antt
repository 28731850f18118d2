use Rattle.cert_text.proofs.Cuts.{cut_short}
use Rattle.cert_text.proofs.laws.law_cut.Goals as goal

pub returns : goal.returns
returns c = cut_short _ _ _ c.law_game.ensures.accepted c.requires.text c.requires.within
