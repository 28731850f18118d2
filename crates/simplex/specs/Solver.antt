-- What a caller sees of a solver: the size of its reserve, and the dictionary that the last run stopped at.
use Rattle.std.specs.Prelude.{ℕ, ◌≡◌, ◌≤◌, List, [], Option, Some, None}
use Rattle.simplex.specs.Dictionary.{Dictionary}

pub record State : Type 0 where
  -- the rows and the variables of the last reserve that answered Ok, and 0 before one did
  pub most_rows : ℕ
  pub most_variables : ℕ
  -- none before the first run, and none from a reserve that answered Ok until the next run
  pub last : Option Dictionary

-- just after a reserve of so many rows and variables
abbrev pub IsReservedFor : State → ℕ → ℕ → Type 0
IsReservedFor s rows variables = s ≡ record { most_rows = rows; most_variables = variables; last = None }

-- a program of so many rows and variables can be run
pub record HasRoomFor (s : State) (rows variables : ℕ) : Type 0 where
  pub some_row : 1 ≤ rows
  pub rows_fit : rows ≤ s.most_rows
  pub some_variable : 1 ≤ variables
  pub variables_fit : variables ≤ s.most_variables

-- the basic variables by place, none where there is no last dictionary
abbrev pub basis_of : Option Dictionary → List ℕ
basis_of None = []
basis_of (Some d) = d.basic
