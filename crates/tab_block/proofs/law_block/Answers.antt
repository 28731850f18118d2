use Rattle.std.proofs.Common.{◌≡◌, ◌<◌, ℕ, List, ap, length, subst, ◌∙◌}
use Rattle.std.specs.Prelude.{ℤ}
use Rattle.tab_block.specs.Rows.{CellsAreRows, Rows, RowsAreWide, block_of}
use Rattle.tab_block.proofs.Cells.{row-written, rows-count, rows-wide}
use Rattle.tab_block.proofs.law_block.Goals as goal

pub returns-clause-wide : goal.returns-clause-wide
returns-clause-wide c = subst RowsAreWide c.block.view_is (rows-wide c.block.inside.width c.block.inside.count c.block.inside.filled.items c.block.invariant.filled)

pub returns-clause-row : goal.returns-clause-row
returns-clause-row c =
    let w : ℕ = c.block.inside.width in
    let n : ℕ = c.block.inside.count in
    let xs : List ℤ = c.block.inside.filled.items in
    let rows : CellsAreRows (block_of c.block.inside) = λ i new l wide.
    ap (λ (rs : List (List ℤ)). let block : Rows = record { rows = rs; width = w; cells = c.block.inside.cells } in block)
    (row-written w n i xs new (subst (λ (k : ℕ). i < k) (rows-count w n xs) l) c.block.invariant.filled wide) in
    subst CellsAreRows c.block.view_is rows
