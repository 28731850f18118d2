use Rattle.game_text.proofs.Accept.{wholes_are_games}
use Rattle.game_text.proofs.laws.law_whole_games.Goals as goal

pub returns : goal.returns
returns c = wholes_are_games
