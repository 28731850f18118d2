-- What is drawn over a list of weights.
use Rattle.std.specs.Prelude.{ℕ, suc, ℤ, ◌-◌, ◌^◌, ◌<◌, ◌≤◌, List, [], ◌∷◌, nat_lt, unsigned_abs, if◌then◌else◌}
use Rattle.std.specs.List.{sum}
use Rattle.rand_pcg.specs.Lcg.{Lcg}
use Rattle.hsvi_draw.specs.Draws.{draw_at}

-- the first place at which the running sum of weights passes a number
abbrev pub place_past : ℕ → List ℕ → ℕ
place_past number [] = 0
place_past number (weight ∷ rest) = if nat_lt number weight then 0 else suc (place_past (number - weight) rest)

-- the place that a generator draws over weights, by a number below their sum
abbrev pub place_drawn : Lcg → List ℕ → ℕ
place_drawn g weights = place_past (draw_at g 0 (sum weights)) weights

-- one of so many members, with a weight that stays small by any belief
abbrev pub IsLight : ℕ → ℕ → ℤ → Type 0
IsLight count member weight = (member < count) × (unsigned_abs weight ≤ 2 ^ 66)
