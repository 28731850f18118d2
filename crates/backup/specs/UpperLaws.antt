-- What is proved of upper visits: a belief and points have one.
use Rattle.std.specs.Prelude.{ℤ, List, ◌≡◌}
use Rattle.game_model.specs.Game.{GameData}
use Rattle.point_set.specs.Points.{PointData}
use Rattle.stage_game.specs.AdviceData.{UpperAdviceData}
use Rattle.backup.specs.UpperVisits.{IsUpperVisit}

-- two upper visits at a belief, among the same points, have equal advice and equal points
abbrev pub UpperVisitsAreOne : Type 0
UpperVisitsAreOne =
    (g : GameData) (belief : List ℤ) (points : List PointData) (advice other : UpperAdviceData) (point second : PointData) →
    IsUpperVisit g belief points advice point → IsUpperVisit g belief points other second → (advice ≡ other) × (point ≡ second)
