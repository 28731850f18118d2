use Rattle.game_model.proofs.Pay.{total-plays}
use Rattle.game_model.proofs.Steps.{total-first_steps}
use Rattle.game_model.proofs.laws.law_sums.Goals as goal

pub returns : goal.returns
returns c = record { plays = total-plays; steps = total-first_steps }
