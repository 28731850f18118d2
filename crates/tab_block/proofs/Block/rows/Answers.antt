use Rattle.std.proofs.Common.{ap, length, sym, ◌∙◌}
use Rattle.tab_block.specs.Rows.{Rows}
use Rattle.tab_block.proofs.Cells.{rows-count}
use Rattle.tab_block.proofs.Block.rows.Goals as goal

pub returns : goal.returns
returns c = sym (rows-count c.self.inside.width c.self.inside.count c.self.inside.filled.items) ∙ ap (λ (block : Rows). length block.rows) c.self.view_is
