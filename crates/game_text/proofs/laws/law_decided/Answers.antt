use Rattle.game_text.proofs.Ruled.{answered}
use Rattle.game_text.proofs.laws.law_decided.Goals as goal

pub returns : goal.returns
returns c = answered
