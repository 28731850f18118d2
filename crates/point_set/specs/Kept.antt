-- The current corners that a set keeps by state, and the gaps by point.
use Rattle.game_model.specs.Limits.{most_states}
use Rattle.std.specs.Prelude.{ℕ, List, length, ◌≡◌, ◌<◌, ◌≤◌, ◌^◌, ◌⊎◌, ◌<ℤ◌, ◌-ℤ◌, ℤ, FitsSigned, slice_index_or}
use Rattle.std.specs.Int.{w128}
use Rattle.std.specs.List.{AllByRecursion}
use Rattle.belief.specs.Beliefs.{corner_of}
use Rattle.scaled_num.specs.Share.{at}
use Rattle.point_set.specs.Bounds.{cost_at, cost_size}
use Rattle.point_set.specs.Corners.{IsAtCorner, IsCurrentCorner, point_at}
use Rattle.point_set.specs.Members.{most_points}
use Rattle.point_set.specs.Points.{PointData}

-- a belief is sure of a state
pub record IsSure (belief : List ℤ) (s : ℕ) : Type 0 where
  pub state : s < length belief
  pub parts : belief ≡ corner_of (length belief) s

-- no point is at the corner of s
abbrev pub HasNone : List PointData → ℕ → Type 0
HasNone points s = (i : ℕ) → i < length points → IsAtCorner s (point_at points i) → ⊥

-- the number kept for a state: its current corner, or the mark for none
abbrev pub IsCornerNumber : List PointData → ℕ → ℕ → Type 0
IsCornerNumber points s k = IsCurrentCorner points s k ⊎ ((k ≡ most_points) × HasNone points s)

-- a kept number is the mark for none, or its point has a value above this one
abbrev pub IsAbove : List PointData → ℕ → ℤ → Type 0
IsAbove points k value = (k ≡ most_points) ⊎ (value <ℤ (point_at points k).value)

-- a kept number is the mark for none or names a point
abbrev pub IsNumber : List PointData → ℕ → Type 0
IsNumber points k = (k < length points) ⊎ (k ≡ most_points)

-- at most so many points, each with a part for at most the most states, and a number for each of these
pub record AreKept (points : List PointData) (corners : List ℕ) : Type 0 where
  pub few : length points ≤ most_points
  pub narrow : AllByRecursion (λ (point : PointData). length point.belief ≤ most_states) points
  pub all : length corners ≡ most_states
  pub numbers : (s : ℕ) → s < most_states → IsCornerNumber points s (slice_index_or corners s 0)

-- these are the values of the points of these numbers; the mark for none counts 0
abbrev pub AreValuesOf : List PointData → List ℕ → List ℤ → Type 0
AreValuesOf points corners values = (s : ℕ) → s < length corners → at values s ≡ (point_at points (slice_index_or corners s 0)).value

-- the gap of a point: its value less what its belief costs at the corners, where no number is too great
abbrev pub IsGap : List ℤ → PointData → ℤ → Type 0
IsGap values point gap =
    cost_size point.belief values ≤ 2 ^ 124 →
    FitsSigned w128 (point.value -ℤ cost_at point.belief values) →
    gap ≡ point.value -ℤ cost_at point.belief values

-- the gaps of the first points, over the values of the corners
pub record AreGapsOf (count : ℕ) (points : List PointData) (corners : List ℕ) (gaps : List ℤ) : Type 0 where
  pub values : List ℤ
  pub are : AreValuesOf points corners values
  pub each : (i : ℕ) → i < count → IsGap values (point_at points i) (at gaps i)

-- a gap for each point
pub record AreGaps (points : List PointData) (corners : List ℕ) (gaps : List ℤ) : Type 0 where
  pub count : length gaps ≡ length points
  pub all : AreGapsOf (length points) points corners gaps

-- what a set keeps beside its points
pub record IsKept (points : List PointData) (corners : List ℕ) (gaps : List ℤ) : Type 0 where
  pub corners_kept : AreKept points corners
  pub gaps_kept : AreGaps points corners gaps
