use Rattle.game_text.proofs.Ruled.{alone_not_refused}
use Rattle.game_text.proofs.laws.law_whole_not_refused.Goals as goal

pub returns : goal.returns
returns c = alone_not_refused
