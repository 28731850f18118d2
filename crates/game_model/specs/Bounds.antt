-- Bounds of what is formed on the way to a span and to seed vectors, and the limits of a shape in two parts.
use Rattle.game_model.specs.Limits.{most_states, most_actions, most_observations, most_row_total, most_discount}
use Rattle.std.specs.Prelude.{pos, unsigned_abs, List, length, ◌^◌, ◌*◌, ◌/◌, ◌+◌, ◌-◌, ◌<◌, ◌≤◌, ◌≡◌, ◌≤ℤ◌, ◌<ℤ◌, ℕ, ℤ}
use Rattle.std.specs.List.{AllByRecursion}
use Rattle.game_model.specs.Game.{GameData, IsWithin, unit, span}
use Rattle.game_model.specs.declared.parts.Shape.{Shape}

-- the span of games of this shape whose rewards have this greatest magnitude
abbrev pub span_from : Shape → ℕ → ℕ
span_from shape most =
    let under = unsigned_abs shape.discount.1 in
    let room = under - unsigned_abs shape.discount.0 in
    (unit * most * under + room - 1) / room

-- the limits of a shape, in two parts
abbrev pub HasCounts : Shape → Type 0
HasCounts shape =
    ((1 ≤ shape.states) × (shape.states ≤ most_states)) × ((1 ≤ shape.own_actions) × (shape.own_actions ≤ most_actions))
    × ((1 ≤ shape.informed_actions) × (shape.informed_actions ≤ most_actions)) × ((1 ≤ shape.observations) × (shape.observations ≤ most_observations))

abbrev pub HasFractions : Shape → Type 0
HasFractions shape =
    IsWithin (pos 1) (pos most_row_total) shape.row_total
    × ((pos 0 ≤ℤ shape.discount.0) × (shape.discount.0 <ℤ shape.discount.1) × (shape.discount.1 ≤ℤ pos most_discount))

-- the least of the first n values of f
pub record IsLeastOf (f : ℕ → ℤ) (n : ℕ) (x : ℤ) : Type 0 where
  pub each : (k : ℕ) → k < n → x ≤ℤ f k
  pub some : (k : ℕ) × (k < n) × (x ≡ f k)

-- an entry of a vector is within the span
abbrev pub IsWithinSpan : GameData → ℤ → Type 0
IsWithinSpan g x = unsigned_abs x ≤ span g

-- a vector has an entry for each state, within the span
pub record IsBounded (g : GameData) (vector : List ℤ) : Type 0 where
  pub long : length vector ≡ g.shape.states
  pub each : AllByRecursion (IsWithinSpan g) vector

-- what entries within the span are worth before the division by D * Q
abbrev pub IsWorthWithin : GameData → ℤ → Type 0
IsWorthWithin g x = unsigned_abs x ≤ span g * unsigned_abs g.shape.row_total * unsigned_abs g.shape.discount.1
