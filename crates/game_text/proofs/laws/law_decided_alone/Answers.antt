use Rattle.game_text.proofs.Ruled.{answered_alone}
use Rattle.game_text.proofs.laws.law_decided_alone.Goals as goal

pub returns : goal.returns
returns c = answered_alone
