-- A row that is lent for writing.
use Rattle.std.specs.Prelude.{ℕ, ℤ, List}
use Rattle.std.specs.Borrow.{Array, Fml, Lends, MutBor, i128}
use Rattle.tab_block.specs.Rows.{Rows, with_cells}
use Rattle.tab_block.specs.contracts.Block.{the_row}

-- the block ends with what is left behind the reference written from the start of a row on
abbrev pub LendsRow : MutBor Rows → ℕ → MutBor (List ℤ) → Fml
LendsRow block i row = Lends the_row (Array i128 0) block row (with_cells block.now i)
