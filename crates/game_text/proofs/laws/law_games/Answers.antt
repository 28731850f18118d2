use Rattle.game_text.proofs.Accept.{texts_are_games}
use Rattle.game_text.proofs.laws.law_games.Goals as goal

pub returns : goal.returns
returns c = texts_are_games
