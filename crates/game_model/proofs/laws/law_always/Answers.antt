use Rattle.game_model.proofs.Lower.{always-is_plan, always-earns}
use Rattle.game_model.proofs.laws.law_always.Goals as goal

pub returns : goal.returns
returns c = record { plan = λ g a n la. always-is_plan g a la n; earns = always-earns }
