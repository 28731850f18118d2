-- What the calls that make the runs of an upper visit pass on.
use Rattle.std.specs.Prelude.{ℕ, ℤ, List, ◌∷◌, ◌++◌, None, length, slice_index_or, ◌≡◌}
use Rattle.game_model.specs.Game.{GameData, numbers}
use Rattle.point_set.specs.Members.{point_data}
use Rattle.point_set.specs.Points.{PointData, PointFits, PointStands, point_of, points_of}
use Rattle.simplex.specs.declared.End.TheVariants.{Unbounded}
use Rattle.stage_game.specs.Data.{upper_data}
use Rattle.stage_game.specs.Fits.{UpperFits}
use Rattle.stage_game.specs.UpperCandidates.{AreUpperCandidates}
use Rattle.backup.specs.Tries.{AreTries, IsFirstLeast, first_bits, tried_bits}
use Rattle.backup.specs.UpperVisits.{IsUpperRun, UpperRun, value_at}
use Rattle.backup.specs.declared.upper_visits.Run.{Run}

-- a run of the program as data
abbrev pub run_data : Run → UpperRun
run_data run = record { advice = upper_data run.advice; point = point_data run.point }

-- the advice of a run fits, and its point fits and stands, also where other points come behind
pub record IsSound (g : GameData) (points : List PointData) (run : UpperRun) : Type 0 where
  pub advice : UpperFits g points run.advice
  pub bounded : (col : ℕ) → run.advice.end ≡ Unbounded col → ⊥
  pub fits : PointFits g (length points) run.point
  pub stands : PointStands (numbers g) (points_of points) (point_of run.point)
  pub stays : (more : List PointData) → PointStands (numbers g) (points_of (points ++ more)) (point_of run.point)

-- the run with the first candidates
pub record IsFirstRun (g : GameData) (belief : List ℤ) (points : List PointData) (run : UpperRun) : Type 0 where
  pub candidates : List ℕ
  pub are_first : AreUpperCandidates g belief points None candidates
  pub is_run : IsUpperRun g belief points candidates first_bits run

-- the first of a first run and those with the priced candidates whose point has the least value
pub record IsBestRun (g : GameData) (belief : List ℤ) (points : List PointData) (priced : List ℕ) (first run : UpperRun) : Type 0 where
  pub tries : List UpperRun
  pub are_tries : AreTries (λ (run : UpperRun). run.advice.end) (IsUpperRun g belief points priced) tried_bits tries
  pub place : ℕ
  pub best : IsFirstLeast (value_at first (first ∷ tries)) (length (first ∷ tries)) place
  pub same : slice_index_or (first ∷ tries) place first ≡ run
