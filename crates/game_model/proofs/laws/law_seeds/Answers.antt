use Rattle.game_model.proofs.SeedVectors.{seeds-are_one, seeds-stand, seeds-earn}
use Rattle.game_model.proofs.SeedsExist.{seeds-exist}
use Rattle.game_model.proofs.laws.law_seeds.Goals as goal

pub returns : goal.returns
returns c = record { exist = seeds-exist; one = seeds-are_one; stand = seeds-stand; earn = seeds-earn }
