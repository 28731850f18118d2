-- The game that entries say, as a builder takes them.
use Rattle.std.specs.Prelude.{◌≡◌, ℕ, List, [], ◌∷◌, map, reverse, ℤ}
use Rattle.text_words.specs.Lines.{Line}
use Rattle.game_model.specs.declared.parts.Landing.{Landing}
use Rattle.game_model.specs.Game.{GameData, IsRewardInRange, IsNarrow, IsLanding}
use Rattle.game_model.specs.Build.{HasRoom, HasWeightLeft, IsBegun, IsLastRowFull, IsMultiple, IsNext, last_row, with_landing, with_step}
use Rattle.game_text.specs.declared.progress.RowEntry.{RowEntry}
use Rattle.game_text.specs.declared.progress.RowEntry.TheVariants as row
use Rattle.game_text.specs.Entries.{Entry, Step, Out, End, shape_in}
use Rattle.game_text.specs.Steps.{Say}
use Rattle.game_text.specs.Places.{IsAt}

-- the rewards and the rows that entries say; entries, rewards, rows and landings have the latest first
abbrev pub rewards_in : List Entry → List ℤ
rewards_in [] = []
rewards_in (Step s a c r ∷ b) = r ∷ rewards_in b
rewards_in (e ∷ b) = rewards_in b

abbrev pub onto_last : Landing → List (List Landing) → List (List Landing)
onto_last l [] = []
onto_last l (row ∷ rows) = (l ∷ row) ∷ rows

abbrev pub rows_in : List Entry → List (List Landing)
rows_in [] = []
rows_in (Step s a c r ∷ b) = [] ∷ rows_in b
rows_in (Out l ∷ b) = onto_last l (rows_in b)
rows_in (e ∷ b) = rows_in b

-- the game has what the entries say, and coprime weights of which these are a multiple
pub record IsBuilt (first : List ℤ) (entries : List Entry) (g : GameData) : Type 0 where
  pub shape : g.shape ≡ shape_in entries
  pub divided : IsMultiple first g.first
  pub rewards : g.rewards ≡ reverse (rewards_in entries)
  pub rows : g.rows ≡ reverse (map reverse (rows_in entries))

-- some lines say the entries
abbrev pub IsSaid : List Entry → Type 0
IsSaid entries = (lines : List Line) × Say lines entries

-- the last entry is `end`
abbrev pub IsEnded : List Entry → Type 0
IsEnded entries = (before : List Entry) × (entries ≡ End ∷ before)

-- the game in the making with one more entry
abbrev pub with_entry : GameData → RowEntry → GameData
with_entry g (row.Step s a c reward) = with_step g reward
with_entry g (row.Out landing) = with_landing g landing
with_entry g row.End = g

-- the game in the making takes one more entry
abbrev pub Takes : GameData → RowEntry → Type 0
Takes g (row.Step s a c reward) = HasRoom g × IsRewardInRange reward × IsLastRowFull g × IsNarrow g.shape reward
Takes g (row.Out landing) = IsBegun g × IsLanding g.shape landing × IsNext (last_row g) landing × HasWeightLeft g landing.weight
Takes g row.End = Unit {0}

-- the bytes that are left stand behind the `end` line, and so many lines stand before them
abbrev pub EndsAt : List ℕ → ℕ → List ℕ → Type 0
EndsAt text before rest = (count : ℕ) × (entries : List Entry) × IsAt text count (End ∷ entries) before rest
