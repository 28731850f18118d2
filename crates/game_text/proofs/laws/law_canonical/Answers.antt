use Rattle.game_text.proofs.Canonical.{canonical-texts}
use Rattle.game_text.proofs.laws.law_canonical.Goals as goal

pub returns : goal.returns
returns c = canonical-texts
