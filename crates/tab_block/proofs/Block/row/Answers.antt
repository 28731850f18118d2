use Rattle.std.proofs.Common.{◌≡◌, ◌<◌, ◌≤◌, ◌+◌, ◌*◌, ℕ, ap, arith, length, sym, subst, ◌∙◌, rules, get_or, []}
use Rattle.tab_block.specs.Rows.{Rows}
use Rattle.tab_block.proofs.Cells.{inside, row-here, rows-count}
use Rattle.tab_block.proofs.Block.row.Goals as goal

pub slice_bounds-result-end : goal.slice_bounds-result-end
slice_bounds-result-end c =
    let w : ℕ = c.self.inside.width in
    let n : ℕ = c.self.inside.count in
    let count : length c.args.self.now.rows ≡ n = sym (ap (λ (block : Rows). length block.rows) c.self.view_is) ∙ rows-count w n c.self.inside.filled.items in
    let wide : c.args.self.now.width ≡ w = sym (ap (λ (block : Rows). block.width) c.self.view_is) in
    let at : c.start-start.result ≡ c.args.i * w = c.start-start.ensures ∙ ap (λ (k : ℕ). c.args.i * k) wide in
    let long : length c.deref.result.now ≡ n * w = ap length c.deref.ensures.value ∙ c.self.invariant.filled in
    let fits : c.start-start.result + w ≤ length c.deref.result.now = inside w n c.args.i c.start-start.result (length c.deref.result.now) (subst (λ (k : ℕ). c.args.i < k) count c.requires) at long in
    search (rules, arith)

pub returns : goal.returns
returns c =
    let w : ℕ = c.self.inside.width in
    let n : ℕ = c.self.inside.count in
    let count : length c.args.self.now.rows ≡ n = sym (ap (λ (block : Rows). length block.rows) c.self.view_is) ∙ rows-count w n c.self.inside.filled.items in
    let wide : c.args.self.now.width ≡ w = sym (ap (λ (block : Rows). block.width) c.self.view_is) in
    let at : c.start-start.result ≡ c.args.i * w = c.start-start.ensures ∙ ap (λ (k : ℕ). c.args.i * k) wide in
    row-here w n c.args.i c.start-start.result c.self.inside.filled.items c.deref.result.now (subst (λ (k : ℕ). c.args.i < k) count c.requires) at c.deref.ensures.value
    ∙ ap (λ (block : Rows). get_or block.rows c.args.i []) c.self.view_is
