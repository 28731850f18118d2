-- How long plays may be, so that their gains fit.
use Rattle.std.specs.Prelude.{ℕ, max, ◌*◌, ◌^◌, ◌<◌, ◌≤◌, ◌≡◌, ◌↔◌}
use Rattle.game_model.specs.Game.{GameData, IsGame, greatest_reward, numbers}
use Rattle.simulate.specs.declared.parts.Played.{Played}

-- the most stages of a play
abbrev pub most_stages : ℕ
most_stages = 64

-- what so many stages gain at most, times the denominator of the discount to the number of stages
abbrev pub most_gain : GameData → ℕ → ℕ
most_gain g n = n * max 1 (greatest_reward g) * (numbers g).discount_under ^ n

-- the gain of so many stages is within the limit of plays
abbrev pub IsShortPlay : GameData → ℕ → Type 0
IsShortPlay g n = (n ≤ most_stages) × (most_gain g n ≤ 2 ^ 120)

-- the greatest number of stages within the limit: so many and fewer are, and no more
abbrev pub IsLongest : GameData → ℕ → Type 0
IsLongest g n = (m : ℕ) → m ≤ n ↔ IsShortPlay g m

-- every game has a greatest number of stages, and only one
pub record LengthsAreOne : Type 0 where
  pub some : (g : GameData) → IsGame g → (n : ℕ) × IsLongest g n
  pub one : (g : GameData) (n m : ℕ) → IsLongest g n → IsLongest g m → n ≡ m

-- a step whose reward the game has
abbrev pub IsInGame : GameData → Played → Type 0
IsInGame g played =
    (played.state < g.shape.states) × (played.own < g.shape.own_actions) × (played.informed < g.shape.informed_actions)
