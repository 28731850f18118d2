-- The first point of least value at a belief.
use Rattle.std.specs.Prelude.{ℕ, ℤ, List, Option, Some, None, ◌≡◌, ◌<◌, ◌≤ℤ◌, ◌<ℤ◌}
use Rattle.point_set.specs.Corners.{point_at}
use Rattle.point_set.specs.Points.{PointData}

-- of the first so many points no one is at this belief
abbrev pub NoneIsAt : List PointData → List ℤ → ℕ → Type 0
NoneIsAt points belief count = (j : ℕ) → j < count → (point_at points j).belief ≡ belief → ⊥

-- of the first so many points, k is the first of least value among those at a belief
pub record IsLeastAt (points : List PointData) (belief : List ℤ) (count k : ℕ) : Type 0 where
  pub inside : k < count
  pub here : (point_at points k).belief ≡ belief
  pub least : (j : ℕ) → j < count → (point_at points j).belief ≡ belief → (point_at points k).value ≤ℤ (point_at points j).value
  pub first : (j : ℕ) → j < k → (point_at points j).belief ≡ belief → (point_at points k).value <ℤ (point_at points j).value

-- that point, or none where none is at the belief
abbrev pub IsLeastOrNone : List PointData → List ℤ → ℕ → Option ℕ → Type 0
IsLeastOrNone points belief count None = NoneIsAt points belief count
IsLeastOrNone points belief count (Some k) = IsLeastAt points belief count k

-- a point's value is below that of another one, where there is another
abbrev pub IsBelow : List PointData → ℕ → Option ℕ → Type 0
IsBelow points j None = Unit {0}
IsBelow points j (Some k) = (point_at points j).value <ℤ (point_at points k).value
