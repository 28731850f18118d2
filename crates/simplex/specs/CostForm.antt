-- The form of dictionaries, runs and ends that the solver works on: the goal row is an ordinary row, the last one, with costs.
-- The textbook's own words stand in Dictionary and Run, and both forms say the same of a program.
use Rattle.std.specs.Prelude.{ℕ, zero, suc, ◌+◌, ◌<◌, ◌≤◌, ◌≡◌, ◌≢◌, ℤ, pos, ◌-ℤ◌, ◌*ℤ◌, ◌<ℤ◌, ◌≤ℤ◌, List, [], length, slice_index_or, slice_index, slice_set, unsigned_abs}
use Rattle.std.specs.List.{range_with_len}
use Rattle.simplex.specs.declared.Program.{Program}
use Rattle.simplex.specs.declared.End.{End}
use Rattle.simplex.specs.declared.End.TheVariants.{Optimal, Spent, Unbounded, Wide}
pub use Rattle.simplex.specs.Dictionary.{AreCoprime, AreParted}
use Rattle.simplex.specs.Program.{sum_to, at, row_count, variable_count, cell, limit, gain, entry_limit, IsNarrow, AllNarrow}

-- Row k < m reads  lead * x_basic = constant - sum of coefficient * x_out.
-- Row m is the goal's: lead * z = constant - sum of cost * x_out, where a cost is minus a goal coefficient.
-- Column 0 of a row is the lead, 1 the constant, and q + 2 the coefficient at out place q.
pub record CostForm : Type 0 where
  pub basic : List ℕ
  pub out : List ℕ
  pub rows : List (List ℤ)

abbrev pub row_of : CostForm → ℕ → List ℤ
row_of d k = slice_index_or d.rows k []

abbrev pub entry : CostForm → ℕ → ℕ → ℤ
entry d k column = at (row_of d k) column

-- the variable of a row: that of z, n + m, for the goal row, which is past the end of the list
abbrev pub owner : Program → List ℕ → ℕ → ℕ
owner p basic k = slice_index_or basic k (variable_count p + row_count p)

-- e has the row's numbers, over all variables
pub record IsSpread (p : Program) (basic out : List ℕ) (k : ℕ) (row : List ℤ) (e : ℕ → ℤ) : Type 0 where
  pub at_own : e (owner p basic k) ≡ at row 0
  pub at_basic : (s : ℕ) → s ≤ row_count p → s ≢ k → e (owner p basic s) ≡ pos 0
  pub at_out : (q : ℕ) → q < variable_count p → e (slice_index out q) ≡ at row (q + 2)

-- the numbers e, with this constant, are a combination of the program's rows, which e itself names at the slacks, and of the goal's
pub record Belongs (p : Program) (e : ℕ → ℤ) (constant : ℤ) : Type 0 where
  pub own : (j : ℕ) → j < variable_count p → e j ≡ sum_to (row_count p) (λ i. e (variable_count p + i) *ℤ cell p i j) -ℤ e (variable_count p + row_count p) *ℤ gain p j
  pub constant_is : constant ≡ sum_to (row_count p) (λ i. e (variable_count p + i) *ℤ limit p i)

abbrev pub RowBelongs : Program → List ℕ → List ℕ → ℕ → List ℤ → Type 0
RowBelongs p basic out k row = (e : ℕ → ℤ) × IsSpread p basic out k row e × Belongs p e (at row 1)

-- what is asked of the row at place k
pub record IsRow (p : Program) (basic out : List ℕ) (k : ℕ) (row : List ℤ) : Type 0 where
  pub long : length row ≡ variable_count p + 2
  pub belongs : RowBelongs p basic out k row
  pub lead : pos 0 <ℤ (at row 0)
  pub coprime : AreCoprime row

pub record IsDictionary (p : Program) (d : CostForm) : Type 0 where
  pub parted : AreParted p d.basic d.out
  pub high : length d.rows ≡ row_count p + 1
  pub each : (k : ℕ) → k ≤ row_count p → IsRow p d.basic d.out k (row_of d k)

-- ---- Bland's rule, on the numbers of a dictionary alone
abbrev pub IsImproving : CostForm → ℕ → Type 0
IsImproving d q = (q < length d.out) × ((entry d (length d.basic) (q + 2)) <ℤ pos 0)

-- out place q has the improving variable of least index
pub record Enters (d : CostForm) (q : ℕ) : Type 0 where
  pub improving : IsImproving d q
  pub least : (t : ℕ) → IsImproving d t → slice_index d.out q ≤ slice_index d.out t

-- row k bounds the variable at out place q
abbrev pub IsBounding : CostForm → ℕ → ℕ → Type 0
IsBounding d q k = (k < length d.basic) × (pos 0 <ℤ (entry d k (q + 2)))

-- constant over coefficient of row k, and of row s, each times both coefficients
abbrev pub ratio : CostForm → ℕ → ℕ → ℕ → ℤ
ratio d q k s = entry d k 1 *ℤ entry d s (q + 2)

-- row k has the least ratio, and among equal ones the basic variable of least index
pub record Leaves (d : CostForm) (q k : ℕ) : Type 0 where
  pub bounding : IsBounding d q k
  pub least : (s : ℕ) → IsBounding d q s → (ratio d q k s) ≤ℤ (ratio d q s k)
  pub first : (s : ℕ) → IsBounding d q s → ratio d q k s ≡ ratio d q s k → slice_index d.basic k ≤ slice_index d.basic s

-- the two variables trade places, and the rows are those of the new lists
pub record IsTraded (p : Program) (d : CostForm) (q k : ℕ) (new : CostForm) : Type 0 where
  pub dictionary : IsDictionary p new
  pub basic : new.basic ≡ slice_set d.basic k (slice_index d.out q)
  pub out : new.out ≡ slice_set d.out q (slice_index d.basic k)

abbrev pub IsNarrowDictionary : Program → CostForm → Type 0
IsNarrowDictionary p d = (k : ℕ) → k ≤ row_count p → AllNarrow (row_of d k)

-- a pivot of the textbook run
pub record Pivot (p : Program) (d new : CostForm) : Type 0 where
  pub q : ℕ
  pub k : ℕ
  pub enters : Enters d q
  pub leaves : Leaves d q k
  pub traded : IsTraded p d q k new
  pub narrow : IsNarrowDictionary p new

-- the slacks are basic, in order
pub record IsFirst (p : Program) (d : CostForm) : Type 0 where
  pub dictionary : IsDictionary p d
  pub basic : d.basic ≡ range_with_len (variable_count p) (row_count p)
  pub out : d.out ≡ range_with_len 0 (variable_count p)

-- after this many pivots the textbook run stands at d
abbrev pub Stands : Program → ℕ → CostForm → Type 0
Stands p zero new = IsFirst p new
Stands p (suc made) new = (d : CostForm) × Stands p made d × Pivot p d new

-- ---- the four ends, at dictionary d after `made` pivots of at most `pivots`
-- the next dictionary's first number of 2^62 or more is in this row and column
pub record IsWideAt (new : CostForm) (row column : ℕ) : Type 0 where
  pub row_inside : row < length new.rows
  pub column_inside : column < length (row_of new row)
  pub wide : entry_limit ≤ unsigned_abs (entry new row column)
  pub rows_before : (k : ℕ) → k < row → AllNarrow (row_of new k)
  pub columns_before : (j : ℕ) → j < column → IsNarrow (entry new row j)

pub record EndsWide (p : Program) (d : CostForm) (row column : ℕ) : Type 0 where
  pub q : ℕ
  pub k : ℕ
  pub enters : Enters d q
  pub leaves : Leaves d q k
  pub new : CostForm
  pub traded : IsTraded p d q k new
  pub at_place : IsWideAt new row column

pub record EndsUnbounded (d : CostForm) (variable : ℕ) : Type 0 where
  pub q : ℕ
  pub enters : Enters d q
  pub unbounded : (k : ℕ) → IsBounding d q k → ⊥
  pub named : slice_index d.out q ≡ variable

abbrev pub Ends : Program → ℕ → ℕ → CostForm → End → Type 0
Ends p pivots made d Optimal = (q : ℕ) → IsImproving d q → ⊥
Ends p pivots made d Spent = (made ≡ pivots) × ((q : ℕ) × IsImproving d q)
Ends p pivots made d (Unbounded col) = (made < pivots) × EndsUnbounded d col
Ends p pivots made d (Wide row col) = (made < pivots) × EndsWide p d row col

-- the textbook run of at most `pivots` pivots ends so, at d
pub record RunEnds (p : Program) (pivots : ℕ) (d : CostForm) (end : End) : Type 0 where
  pub made : ℕ
  pub within : made ≤ pivots
  pub stands : Stands p made d
  pub ends : Ends p pivots made d end
