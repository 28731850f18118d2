use Rattle.game_gen.proofs.Games.{is_game}
use Rattle.game_gen.proofs.Weights.{weight_in-row_of}
use Rattle.game_gen.proofs.generate.law_made.Goals as goal

pub returns : goal.returns
returns c = record { limits = is_game; weights = weight_in-row_of }
