use Rattle.std.proofs.Common.{ℕ, ap, sym, ◌∙◌}
use Rattle.std.specs.Prelude.{◌-◌, ◌/◌}
use Rattle.tab_block.specs.Rows.{spare_of}
use Rattle.tab_block.proofs.Cells.{rows-count}
use Rattle.tab_block.proofs.Block.spare.Goals as goal

pub returns : goal.returns
returns c =
    ap (λ (n : ℕ). c.self.inside.cells / c.self.inside.width - n) (sym (rows-count c.self.inside.width c.self.inside.count c.self.inside.filled.items))
    ∙ ap spare_of c.self.view_is
