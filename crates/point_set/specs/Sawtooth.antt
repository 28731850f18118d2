-- The sawtooth bound of a mass: what points and corners together cost at most.
use Rattle.std.specs.Prelude.{ℕ, ℤ, List, length, ◌≡◌, ◌<◌, ◌⊎◌, ◌+ℤ◌, ◌-ℤ◌, ◌*ℤ◌, ◌≤ℤ◌}
use Rattle.std.specs.List.{AllByRecursion}
use Rattle.scaled_num.specs.Share.{at}
use Rattle.scaled_num.specs.Sums.{below, total}
use Rattle.game_model.specs.Game.{GameData, IsGame, IsMass}
use Rattle.point_set.specs.Corners.{HasCorner, IsCurrentCorner, point_at}
use Rattle.point_set.specs.Members.{most_points}
use Rattle.point_set.specs.Points.{PointData, PointFits}

-- points that fit one game, with a point at each corner, and a mass over its states
pub record AreMeasured (points : List PointData) (mass : List ℤ) : Type 0 where
  pub game : GameData
  pub accepted : IsGame game
  pub fit : AllByRecursion (PointFits game most_points) points
  pub corners : (s : ℕ) → s < game.shape.states → HasCorner points s
  pub right : IsMass game mass

-- so many times a belief is no more than a mass, in every place
abbrev pub FitsTimes : List ℤ → List ℤ → ℤ → Type 0
FitsTimes mass belief times = (s : ℕ) → s < length mass → (times *ℤ at belief s) ≤ℤ at mass s

-- the greatest whole number of times that a belief fits into a mass
pub record IsMostTimes (mass belief : List ℤ) (times : ℤ) : Type 0 where
  pub fits : FitsTimes mass belief times
  pub most : (more : ℤ) → FitsTimes mass belief more → more ≤ℤ times

-- for each state its current corner
abbrev pub AreCorners : List PointData → ℕ → (ℕ → ℕ) → Type 0
AreCorners points states corners = (s : ℕ) → s < states → IsCurrentCorner points s (corners s)

-- what a mass costs at the corners alone
abbrev pub base_cost : List PointData → (ℕ → ℕ) → List ℤ → ℤ
base_cost points corners mass = total (λ s. at mass s *ℤ (point_at points (corners s)).value) (below (length mass))

-- what a mass costs where so many times a point is taken off it, and what remains costs what it does at the corners
abbrev pub cost_with : List PointData → (ℕ → ℕ) → List ℤ → PointData → ℤ → ℤ
cost_with points corners mass point times =
    times *ℤ point.value
    +ℤ total (λ s. (at mass s -ℤ times *ℤ at point.belief s) *ℤ (point_at points (corners s)).value) (below (length mass))

-- the bound of the point k: the cost where it is taken off the mass as often as it fits
pub record IsBound (points : List PointData) (corners : ℕ → ℕ) (mass : List ℤ) (k : ℕ) (bound : ℤ) : Type 0 where
  pub inside : k < length points
  pub times : ℤ
  pub most : IsMostTimes mass (point_at points k).belief times
  pub cost : bound ≡ cost_with points corners mass (point_at points k) times

-- the sawtooth bound: the least of the cost at the corners alone and of the bounds of all points
pub record IsSawtooth (points : List PointData) (mass : List ℤ) (value : ℤ) : Type 0 where
  pub corners : ℕ → ℕ
  pub current : AreCorners points (length mass) corners
  pub base : value ≤ℤ base_cost points corners mass
  pub least : (k : ℕ) (bound : ℤ) → IsBound points corners mass k bound → value ≤ℤ bound
  pub some : (value ≡ base_cost points corners mass) ⊎ ((k : ℕ) × IsBound points corners mass k value)
