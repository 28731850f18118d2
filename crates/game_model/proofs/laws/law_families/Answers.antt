use Rattle.game_model.proofs.Family.{always-earns_family}
use Rattle.game_model.proofs.laws.law_families.Goals as goal

pub returns : goal.returns
returns c = always-earns_family
