use Rattle.game_model.specs.Game.{numbers}
use Rattle.point_set.specs.Members.{point_data}
use Rattle.point_set.specs.Points.{point_of, point_worth, points_of}
use Rattle.backup.specs.Rounds.{IsGreatestOf}
use Rattle.backup.proofs.points.greatest_worth.Given as goal

abbrev pub invariant-loop-a : goal.invariant-loop-a
invariant-loop-a l = IsGreatestOf (point_worth (numbers l.fn.game) (points_of l.fn.points.members) (point_of (point_data l.fn.point))) l.a l.most
