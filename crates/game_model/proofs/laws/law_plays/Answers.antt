use Rattle.game_model.proofs.Pay.{plays-length}
use Rattle.game_model.proofs.Plays.{plays-are_listed, plays-are_once}
use Rattle.game_model.proofs.laws.law_plays.Goals as goal

pub returns : goal.returns
returns c = record { listed = plays-are_listed; once = plays-are_once; long = plays-length }
