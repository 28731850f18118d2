use Rattle.game_text.proofs.Ruled.{alone_refused_once}
use Rattle.game_text.proofs.laws.law_refused_once.Goals as goal

pub returns : goal.returns
returns c = alone_refused_once
