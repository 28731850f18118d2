-- The points at a corner, and the current one.
use Rattle.std.specs.Prelude.{ℕ, List, length, ◌≡◌, ◌<◌, ◌≤ℤ◌, ◌<ℤ◌, slice_index_or}
use Rattle.belief.specs.Beliefs.{corner_of}
use Rattle.point_set.specs.Points.{PointData, no_point}

-- the point of a number
abbrev pub point_at : List PointData → ℕ → PointData
point_at points k = slice_index_or points k no_point

-- a point's belief is sure of the state s
pub record IsAtCorner (s : ℕ) (point : PointData) : Type 0 where
  pub state : s < length point.belief
  pub belief : point.belief ≡ corner_of (length point.belief) s

-- some point is at the corner of s
pub record HasCorner (points : List PointData) (s : ℕ) : Type 0 where
  pub number : ℕ
  pub inside : number < length points
  pub corner : IsAtCorner s (point_at points number)

-- the current corner of s: the first point of least value among those at its corner
pub record IsCurrentCorner (points : List PointData) (s k : ℕ) : Type 0 where
  pub inside : k < length points
  pub corner : IsAtCorner s (point_at points k)
  pub least : (i : ℕ) → i < length points → IsAtCorner s (point_at points i) → (point_at points k).value ≤ℤ (point_at points i).value
  pub first : (i : ℕ) → i < k → IsAtCorner s (point_at points i) → (point_at points k).value <ℤ (point_at points i).value
