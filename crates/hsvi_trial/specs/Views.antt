-- What clauses see of a view.
use Rattle.std.specs.Prelude.{ℤ, List}
use Rattle.alpha_set.specs.Nodes.{NodeData}
use Rattle.belief.specs.Mixes.{MixesData}
use Rattle.game_model.specs.Game.{GameData}
use Rattle.game_model.specs.Sets.{SetData}
use Rattle.point_set.specs.Points.{PointData}
use Rattle.hsvi_trial.specs.Excess.{View}

-- a view, with the game that it is of
pub record ViewData : Type 0 where
  pub game : GameData
  pub view : View

abbrev pub view_data : GameData → SetData NodeData → SetData PointData → List ℤ → MixesData → List ℤ → ℤ → ViewData
view_data game nodes points belief informed own threshold = record {
  game = game;
  view = record {
    sets = record { nodes = nodes.members; points = points.members };
    belief = belief;
    informed = informed;
    own = own;
    threshold = threshold;
  };
}
