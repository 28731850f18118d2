-- The numbers of a point in its rows of the upper stage program.
use Rattle.std.specs.Prelude.{ℕ, ℤ, pos, neg_ℤ, List, map, cond, ◌==◌, ◌&&◌, ◌+ℤ◌, ◌*ℤ◌}
use Rattle.scaled_num.specs.Share.{at}
use Rattle.scaled_num.specs.Sums.{below, sum_of}
use Rattle.game_model.specs.Game.{GameData, span}
use Rattle.point_set.specs.Points.{PointData}
use Rattle.stage_game.specs.Scaling.{ceil_of, floor_of, scale, width}
use Rattle.stage_game.specs.Variables.{GoesOn, Plays, Variable, WorthOf}
use Rattle.stage_game.specs.declared.upper.PointPart.{PointPart}

-- the number of the own action, and those of the next states
pub record Part : Type 0 where
  pub own : ℤ
  pub block : List ℤ

abbrev pub part_data : PointPart → Part
part_data part = record { own = part.own; block = part.block.items }

-- the numbers of a point
abbrev pub part_of : GameData → ℕ → PointData → Part
part_of g bits point =
    let whole = sum_of point.belief in
    record {
      own = neg_ℤ (ceil_of (scale bits *ℤ (point.value +ℤ pos (span g) *ℤ whole)) (width g *ℤ whole));
      block = map (λ t. floor_of (scale bits *ℤ at point.belief t) whole) (below g.shape.states);
    }

-- the row of these numbers after an own action and an observation
abbrev pub part_row : Part → ℕ → ℕ → Variable → ℤ
part_row part a o (WorthOf s) = pos 0
part_row part a o (Plays b) = cond (b == a) part.own (pos 0)
part_row part a o (GoesOn b p t) = cond ((b == a) && (p == o)) (at part.block t) (pos 0)
