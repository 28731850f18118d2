use Rattle.game_text.proofs.AnyRest.{any_rest}
use Rattle.game_text.proofs.laws.law_any_rest.Goals as goal

pub returns : goal.returns
returns c = any_rest
