use Rattle.stage_game.proofs.OneAdvice.{lower-one, upper-one}
use Rattle.stage_game.proofs.advice_laws.law_one_advice.Goals as goal

pub returns : goal.returns
returns c = record { lower = lower-one; upper = upper-one }
