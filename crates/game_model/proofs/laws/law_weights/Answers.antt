use Rattle.game_model.proofs.Pay.{sum-play_weight}
use Rattle.game_model.proofs.laws.law_weights.Goals as goal

pub returns : goal.returns
returns c g n₁ n₂ n s sigma tau full ls own informed = sum-play_weight g n₁ n₂ full n s sigma tau ls own informed
