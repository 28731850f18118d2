-- A solver's room for the programs of every visit of a game.
use Rattle.std.specs.Prelude.{◌+◌}
use Rattle.game_model.specs.Game.{GameData}
use Rattle.simplex.specs.Solver.{State}
use Rattle.stage_game.specs.Asked.{HasRoomForLower, HasRoomForUpper}

-- a solver has room for the programs of every visit of a game
pub record HasRooms (g : GameData) (solver : State) : Type 0 where
  pub lower : HasRoomForLower solver g 16
  pub upper : HasRoomForUpper solver g (g.shape.states + 8)
