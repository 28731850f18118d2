-- What is proved of corners, bounds and splits: there is one of each.
use Rattle.std.specs.Prelude.{ℕ, ℤ, pos, List, Option, ◌≡◌, ◌≤ℤ◌}
use Rattle.std.specs.List.{AllByRecursion}
use Rattle.point_set.specs.Best.{IsBest}
use Rattle.point_set.specs.Corners.{IsCurrentCorner}
use Rattle.point_set.specs.Points.{PointData}
use Rattle.point_set.specs.Sawtooth.{IsMostTimes, IsSawtooth}
use Rattle.point_set.specs.Split.{IsSplit}
use Rattle.point_set.specs.Tooth.{IsToothSplit}

-- a state has at most one current corner
abbrev pub CornersAreOne : Type 0
CornersAreOne = (points : List PointData) (s k j : ℕ) → IsCurrentCorner points s k → IsCurrentCorner points s j → k ≡ j

-- a belief fits into a mass so many times
abbrev pub TimesAreOne : Type 0
TimesAreOne = (mass belief : List ℤ) (times others : ℤ) → IsMostTimes mass belief times → IsMostTimes mass belief others → times ≡ others

-- a mass has one sawtooth bound
abbrev pub SawteethAreOne : Type 0
SawteethAreOne = (points : List PointData) (mass : List ℤ) (x y : ℤ) → IsSawtooth points mass x → IsSawtooth points mass y → x ≡ y

-- a mass has one best point, or none
abbrev pub BestAreOne : Type 0
BestAreOne = (points : List PointData) (mass : List ℤ) (x y : Option ℕ) → IsBest points mass x → IsBest points mass y → x ≡ y

-- a mass has one split by wanted points
abbrev pub SplitsAreOne : Type 0
SplitsAreOne =
    (points : List PointData) (wanted : List (ℕ × ℤ)) (mass : List ℤ) (items others : List (ℕ × ℤ)) →
    AllByRecursion (λ want. pos 0 ≤ℤ want.1) wanted → IsSplit points wanted mass items → IsSplit points wanted mass others → items ≡ others

-- a mass has one tooth split
abbrev pub ToothSplitsAreOne : Type 0
ToothSplitsAreOne =
    (points : List PointData) (mass : List ℤ) (items others : List (ℕ × ℤ)) →
    IsToothSplit points mass items → IsToothSplit points mass others → items ≡ others
