use Rattle.stage_game.proofs.Bounded.{lower-not-unbounded, upper-not-unbounded}
use Rattle.stage_game.proofs.advice_laws.law_bounded.Goals as goal

pub returns : goal.returns
returns c = record { lower = lower-not-unbounded; upper = upper-not-unbounded }
