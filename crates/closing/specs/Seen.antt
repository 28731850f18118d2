-- What a visit sees: how both players would play at a belief.
use Rattle.alpha_set.specs.Nodes.{IsMix}
use Rattle.game_model.specs.Game.{GameData}
use Rattle.stage_game.specs.Fits.{MixesFit}
use Rattle.closing.specs.declared.visits.Seen.{Seen}

-- mixes of the informed player and a mix of player one, of a game
pub record IsSeen (g : GameData) (seen : Seen) : Type 0 where
  pub informed : MixesFit g seen.informed
  pub own : IsMix g.shape.own_actions seen.own.items
