use Rattle.game_model.proofs.Pay.{pay-first_steps}
use Rattle.game_model.proofs.laws.law_pay.Goals as goal

pub returns : goal.returns
returns c g n₁ n₂ n s sigma tau full own informed = pay-first_steps g n₁ n₂ full n s sigma tau own informed
