-- A game in the making: its rows up to the last one, which may be unfinished.
use Rattle.std.specs.Prelude.{pos, map, List, [], ◌∷◌, ◌++◌, length, ◌+◌, ◌-◌, ◌<◌, ◌≤◌, ◌≡◌, ◌*ℤ◌, ◌+ℤ◌, ◌≤ℤ◌, ℕ, ℤ, slice_index_or, slice_set}
use Rattle.std.specs.List.{AllByRecursion}
use Rattle.game_model.specs.Game.{GameData, IsGame, span, IsShape, IsBelief, AreCoprime, IsBefore, IsRow, IsRowFront, IsRewardInRange, IsNarrow, triples, row_sum}
use Rattle.game_model.specs.declared.parts.Shape.{Shape}
use Rattle.game_model.specs.declared.parts.Landing.{Landing}
use Rattle.game_model.specs.declared.parts.Entry.{Entry}

-- the game whose rewards and rows stand in pairs
abbrev pub data_of : Shape → List ℤ → List Entry → GameData
data_of shape first entries = record {
  shape = shape;
  first = first;
  rewards = map (λ (e : Entry). e.reward) entries;
  rows = map (λ (e : Entry). e.row.items) entries;
}

-- the row that was begun last
abbrev pub last_row : GameData → List Landing
last_row g = slice_index_or g.rows (length g.rows - 1) []

-- a landing of its numbers
abbrev pub landing_of : ℕ → ℕ → ℤ → Landing
landing_of seen to weight = record { seen = seen; to = to; weight = weight }

-- the landing that a row has last
abbrev pub last_landing : List Landing → Landing
last_landing row = slice_index_or row (length row - 1) (landing_of 0 0 (pos 0))

-- a row was begun
abbrev pub IsBegun : GameData → Type 0
IsBegun g = 0 < length g.rows

-- some triple was not begun
abbrev pub HasRoom : GameData → Type 0
HasRoom g = length g.rewards < triples g.shape

-- no row was begun, or the weights of the last one sum to the row total
abbrev pub IsLastRowFull : GameData → Type 0
IsLastRowFull g = IsBegun g → row_sum (last_row g) ≡ g.shape.row_total

-- the landing comes after the row's last one
abbrev pub IsNext : List Landing → Landing → Type 0
IsNext row l = 0 < length row → IsBefore (last_landing row) l

-- the weight still fits the row
abbrev pub HasWeightLeft : GameData → ℤ → Type 0
HasWeightLeft g weight = (row_sum (last_row g) +ℤ weight) ≤ℤ g.shape.row_total

-- the game with one more reward, and a row begun
abbrev pub with_step : GameData → ℤ → GameData
with_step g reward = record g {
  rewards = g.rewards ++ reward ∷ [];
  rows = g.rows ++ [] ∷ [];
}

-- the game with one more landing in the last row
abbrev pub with_landing : GameData → Landing → GameData
with_landing g l = record g { rows = slice_set g.rows (length g.rows - 1) (last_row g ++ l ∷ []) }

-- the weights are a positive multiple of the others
abbrev pub IsMultiple : List ℤ → List ℤ → Type 0
IsMultiple weights kept = (k : ℕ) × (1 ≤ k) × (weights ≡ map (λ x. pos k *ℤ x) kept)

-- what a game in the making keeps: each row but the last is full
pub record IsGameFront (g : GameData) : Type 0 where
  pub shape : IsShape g.shape
  pub first : IsBelief g.shape.states g.first
  pub coprime : AreCoprime g.first
  pub together : length g.rows ≡ length g.rewards
  pub most : length g.rewards ≤ triples g.shape
  pub rewards : AllByRecursion (λ reward. IsRewardInRange reward × IsNarrow g.shape reward) g.rewards
  pub full : (i : ℕ) → i + 1 < length g.rows → IsRow g.shape (slice_index_or g.rows i [])
  pub last : IsRowFront g.shape (last_row g)

-- what the fields of a builder keep: the last one is the sum of the last row
pub record IsBuilder (g : GameData) (filled : ℤ) : Type 0 where
  pub front : IsGameFront g
  pub sum : filled ≡ row_sum (last_row g)

-- what the fields of a game keep: the last one is its span
pub record IsHeld (g : GameData) (kept : ℤ) : Type 0 where
  pub game : IsGame g
  pub spans : kept ≡ pos (span g)
