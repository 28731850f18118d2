-- The textbook run of a program: from the slack basis, a pivot at a time by Bland's rule, to one of four ends.
use Rattle.std.specs.Prelude.{ℕ, ◌+◌, ◌<◌, ◌≤◌, ◌≡◌, ◌++◌, ◌∷◌, [], ℤ, pos, ◌*ℤ◌, ◌≤ℤ◌, ◌<ℤ◌, List, length, slice_index, slice_index_or, slice_set, unsigned_abs}
use Rattle.std.specs.List.{range_with_len}
use Rattle.simplex.specs.declared.Program.{Program}
use Rattle.simplex.specs.declared.End.{End}
use Rattle.simplex.specs.declared.End.TheVariants.{Optimal, Spent, Unbounded, Wide}
use Rattle.simplex.specs.Program.{at, row_count, variable_count, entry_limit, IsNarrow, AllNarrow}
use Rattle.simplex.specs.Dictionary.{Dictionary, number, IsDictionary, IsNarrowDictionary}

-- ---- Bland's rule
-- the variable at out place q has a positive goal coefficient
abbrev pub IsImproving : Dictionary → ℕ → Type 0
IsImproving d q = (q < length d.out) × (pos 0 <ℤ (at d.goal (q + 2)))

-- out place q has the improving variable of least index
pub record Enters (d : Dictionary) (q : ℕ) : Type 0 where
  pub improving : IsImproving d q
  pub least : (t : ℕ) → IsImproving d t → slice_index d.out q ≤ slice_index d.out t

-- row k has a positive coefficient on the variable at out place q
abbrev pub IsBounding : Dictionary → ℕ → ℕ → Type 0
IsBounding d q k = (k < length d.basic) × (pos 0 <ℤ (number d k (q + 2)))

-- the ratio of constant to coefficient of row k, times the coefficients of rows k and s
abbrev pub ratio : Dictionary → ℕ → ℕ → ℕ → ℤ
ratio d q k s = number d k 1 *ℤ number d s (q + 2)

-- row k has the least ratio, and among equal ones the basic variable of least index
pub record Leaves (d : Dictionary) (q k : ℕ) : Type 0 where
  pub bounding : IsBounding d q k
  pub least : (s : ℕ) → IsBounding d q s → (ratio d q k s) ≤ℤ (ratio d q s k)
  pub first : (s : ℕ) → IsBounding d q s → ratio d q k s ≡ ratio d q s k → slice_index d.basic k ≤ slice_index d.basic s

-- the variables of out place q and of row k trade places, and the rows are those of the new lists
pub record IsTraded (p : Program) (d : Dictionary) (q k : ℕ) (new : Dictionary) : Type 0 where
  pub dictionary : IsDictionary p new
  pub basic : new.basic ≡ slice_set d.basic k (slice_index d.out q)
  pub out : new.out ≡ slice_set d.out q (slice_index d.basic k)

-- ---- the run
-- the slacks are basic and the own variables are out, both in order
pub record IsFirst (p : Program) (d : Dictionary) : Type 0 where
  pub dictionary : IsDictionary p d
  pub basic : d.basic ≡ range_with_len (variable_count p) (row_count p)
  pub out : d.out ≡ range_with_len 0 (variable_count p)

-- a pivot by Bland's rule, to a dictionary whose numbers are below 2^62
pub record IsPivot (p : Program) (d new : Dictionary) : Type 0 where
  pub q : ℕ
  pub k : ℕ
  pub enters : Enters d q
  pub leaves : Leaves d q k
  pub traded : IsTraded p d q k new
  pub narrow : IsNarrowDictionary new

-- a list of dictionaries, the last one of the run at its head, each by a pivot from the one behind it
abbrev pub IsRun : Program → List Dictionary → Type 0
IsRun p [] = ⊥
IsRun p (first ∷ []) = IsFirst p first
IsRun p (new ∷ d ∷ before) = IsPivot p d new × IsRun p (d ∷ before)

-- ---- the four ends, at dictionary d after `made` pivots of at most `pivots`
-- the rows in the order in which a wide number is looked for, the goal row last
abbrev pub all_rows : Dictionary → List (List ℤ)
all_rows d = d.rows ++ d.goal ∷ []

-- the first number of 2^62 or more in magnitude, by row and then by column
pub record IsWideAt (rows : List (List ℤ)) (row column : ℕ) : Type 0 where
  pub row_inside : row < length rows
  pub column_inside : column < length (slice_index_or rows row [])
  pub wide : entry_limit ≤ unsigned_abs (at (slice_index_or rows row []) column)
  pub rows_before : (k : ℕ) → k < row → AllNarrow (slice_index_or rows k [])
  pub columns_before : (j : ℕ) → j < column → IsNarrow (at (slice_index_or rows row []) j)

-- the next dictionary has its first wide number there
pub record EndsWide (p : Program) (d : Dictionary) (row column : ℕ) : Type 0 where
  pub q : ℕ
  pub k : ℕ
  pub enters : Enters d q
  pub leaves : Leaves d q k
  pub new : Dictionary
  pub traded : IsTraded p d q k new
  pub wide : IsWideAt (all_rows new) row column

-- this variable enters, and no row bounds it
pub record EndsUnbounded (d : Dictionary) (variable : ℕ) : Type 0 where
  pub q : ℕ
  pub enters : Enters d q
  pub unbounded : (k : ℕ) → IsBounding d q k → ⊥
  pub named : slice_index d.out q ≡ variable

abbrev pub Ends : Program → ℕ → ℕ → Dictionary → End → Type 0
Ends p pivots made d Optimal = (q : ℕ) → IsImproving d q → ⊥
Ends p pivots made d Spent = (made ≡ pivots) × ((q : ℕ) × IsImproving d q)
Ends p pivots made d (Unbounded col) = (made < pivots) × EndsUnbounded d col
Ends p pivots made d (Wide row col) = (made < pivots) × EndsWide p d row col

-- the textbook run of at most `pivots` pivots ends so, at d
pub record RunEnds (p : Program) (pivots : ℕ) (d : Dictionary) (end : End) : Type 0 where
  pub before : List Dictionary
  pub run : IsRun p (d ∷ before)
  pub within : length before ≤ pivots
  pub ends : Ends p pivots (length before) d end
