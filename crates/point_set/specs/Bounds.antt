-- The bound of one point, over the values of the corners.
use Rattle.std.specs.Prelude.{ℕ, ℤ, pos, List, length, sum_by, unsigned_abs, ◌≡◌, ◌<◌, ◌≤◌, ◌⊎◌, ◌*◌, ◌^◌, ◌+ℤ◌, ◌-ℤ◌, ◌*ℤ◌, ◌≤ℤ◌, ◌<ℤ◌, FitsSigned}
use Rattle.std.specs.Int.{w128}
use Rattle.std.specs.List.{AllByRecursion}
use Rattle.scaled_num.specs.Share.{at}
use Rattle.scaled_num.specs.Sums.{below, sum_of, total}
use Rattle.game_model.specs.Game.{IsBelief}
use Rattle.point_set.specs.Sawtooth.{IsMostTimes}

-- what weights cost at values
abbrev pub cost_at : List ℤ → List ℤ → ℤ
cost_at weights values = total (λ s. at weights s *ℤ at values s) (below (length weights))

-- the magnitudes of its terms, summed
abbrev pub cost_size : List ℤ → List ℤ → ℕ
cost_size weights values = sum_by (λ s. unsigned_abs (at weights s *ℤ at values s)) (below (length weights))

-- what a mass costs where a belief of this value is taken off it so many times
abbrev pub cost_less : List ℤ → List ℤ → List ℤ → ℤ → ℤ → ℤ
cost_less values mass belief value times =
    times *ℤ value +ℤ total (λ s. (at mass s -ℤ times *ℤ at belief s) *ℤ at values s) (below (length mass))

-- values within a span, and a mass of at most so much: together at most 2^124
pub record IsPriced (most span : ℕ) (values mass : List ℤ) : Type 0 where
  pub long : length values ≡ length mass
  pub low : AllByRecursion (λ x. pos 0 ≤ℤ x) mass
  pub all : sum_of mass ≤ℤ pos most
  pub light : most ≤ 2 ^ 100
  pub narrow : span ≤ 2 ^ 66
  pub room : most * span ≤ 2 ^ 124
  pub each : (s : ℕ) → s < length mass → unsigned_abs (at values s) ≤ span

-- and a belief whose value is within the span times its total
pub record IsSized (values mass belief : List ℤ) (value : ℤ) : Type 0 where
  pub most : ℕ
  pub span : ℕ
  pub priced : IsPriced most span values mass
  pub right : IsBelief (length mass) belief
  pub within : unsigned_abs value ≤ span * unsigned_abs (sum_of belief)

-- the bound is formed of what the mass costs at the corners and of the point's gap, which is below 0
abbrev pub gap_bound : ℤ → ℤ → ℤ → ℤ
gap_bound base gap times = base +ℤ times *ℤ gap

-- a mass and a belief, with a gap below 0: all that is formed of them fits
pub record HasRoom (mass belief : List ℤ) (gap base least : ℤ) : Type 0 where
  pub right : IsBelief (length mass) belief
  pub low : AllByRecursion (λ x. pos 0 ≤ℤ x) mass
  pub light : AllByRecursion (λ x. x ≤ℤ pos (2 ^ 100)) mass
  pub down : gap <ℤ pos 0
  pub narrow : unsigned_abs gap ≤ 2 ^ 126
  pub upto : least ≤ℤ base
  pub near : unsigned_abs (base -ℤ least) ≤ 2 ^ 126
  pub product : (times : ℤ) → IsMostTimes mass belief times → FitsSigned w128 (times *ℤ gap)
  pub bound : (times : ℤ) → IsMostTimes mass belief times → FitsSigned w128 (gap_bound base gap times)

-- the lesser of a number and of the bound where a belief is taken off a mass as often as it fits
pub record IsLessened (mass belief : List ℤ) (gap base least result : ℤ) : Type 0 where
  pub low : result ≤ℤ least
  pub under : (times : ℤ) → IsMostTimes mass belief times → result ≤ℤ gap_bound base gap times
  pub some : (result ≡ least) ⊎ ((times : ℤ) × (IsMostTimes mass belief times × (result ≡ gap_bound base gap times)))
