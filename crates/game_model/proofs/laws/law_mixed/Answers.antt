use Rattle.game_model.proofs.Mixed.{mixed-are_right, mixed-pay, scaled-are_right, scaled-pay}
use Rattle.game_model.proofs.laws.law_mixed.Goals as goal

pub returns : goal.returns
returns c = record { scaled = scaled-are_right; scaled_pay = scaled-pay; mixed = mixed-are_right; mixed_pay = mixed-pay }
