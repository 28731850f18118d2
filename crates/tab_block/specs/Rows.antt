-- Rows of one width, which lie one after another in a list of cells.
use Rattle.std.specs.Prelude.{ℕ, zero, suc, ℤ, List, [], ◌∷◌, ◌++◌, ◌+◌, ◌-◌, ◌*◌, ◌/◌, ◌^◌, ◌<◌, ◌≤◌, ◌≡◌, length, take, drop, flat_map, slice_index_or, slice_set}
use Rattle.std.specs.List.{AllByRecursion}
use Rattle.std.specs.Vec.{vec_capacity}
use Rattle.tab_block.specs.declared.Block.TheInside.{Inside}

-- what is seen of a block: its rows in order, their width, and how many cells it has
pub record Rows : Type 0 where
  pub rows : List (List ℤ)
  pub width : ℕ
  pub cells : ℕ

-- the most cells of a block
abbrev pub most_cells : ℕ
most_cells = 2 ^ 24

-- a row of a block by its number
abbrev pub row_at : Rows → ℕ → List ℤ
row_at block i = slice_index_or block.rows i []

-- how many more rows there is room for
abbrev pub spare_of : Rows → ℕ
spare_of block = block.cells / block.width - length block.rows

-- the block with one more row at its end, and with another row at a number
abbrev pub with_more : Rows → List ℤ → Rows
with_more block row = record block { rows = block.rows ++ row ∷ [] }

abbrev pub with_row : Rows → ℕ → List ℤ → Rows
with_row block i row = record block { rows = slice_set block.rows i row }

-- so many rows of a width, which lie one after another in a list
abbrev pub rows_in : ℕ → ℕ → List ℤ → List (List ℤ)
rows_in width zero cells = []
rows_in width (suc n) cells = take width cells ∷ rows_in width n (drop width cells)

-- cells with others written over them from a place on, and none beyond their end
abbrev pub written : List ℤ → ℕ → List ℤ → List ℤ
written cells start new = take (length cells) (take start cells ++ (new ++ drop (length new) (drop start cells)))

-- the block with these cells written from the start of a row on: where they are as many as the width, it is that row
abbrev pub with_cells : Rows → ℕ → List ℤ → Rows
with_cells block i new = record block { rows = rows_in block.width (length block.rows) (written (flat_map (λ row. row) block.rows) (i * block.width) new) }

-- a block as what is seen of it
abbrev pub block_of : Inside → Rows
block_of b = record { rows = rows_in b.width b.count b.filled.items; width = b.width; cells = b.cells }

-- what the fields of a block keep
pub record IsBlock (b : Inside) : Type 0 where
  pub width : 1 ≤ b.width
  pub filled : length b.filled.items ≡ b.count * b.width
  pub room : b.count * b.width ≤ b.cells
  pub reserved : b.cells ≤ vec_capacity b.filled
  pub most : b.cells ≤ most_cells

-- ---- what is so of every block

-- each row has the width
abbrev pub RowsAreWide : Rows → Type 0
RowsAreWide block = AllByRecursion (λ (row : List ℤ). length row ≡ block.width) block.rows

-- as many cells as the width, written from the start of a row on, are that row
abbrev pub CellsAreRows : Rows → Type 0
CellsAreRows block = (i : ℕ) (new : List ℤ) → i < length block.rows → length new ≡ block.width → with_cells block i new ≡ with_row block i new
