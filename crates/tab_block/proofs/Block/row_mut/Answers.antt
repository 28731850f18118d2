use Rattle.std.proofs.Common.{◌≡◌, ◌<◌, ◌≤◌, ◌+◌, ◌*◌, ℕ, List, [], ap, arith, get_or, length, refl, sym, subst, ◌∙◌}
use Rattle.std.specs.Prelude.{ℤ, vec_len}
use Rattle.tab_block.specs.Rows.{Rows, rows_in, with_cells}
use Rattle.tab_block.proofs.Cells.{inside, row-here, rows-count, rows-written}
use Rattle.tab_block.proofs.Block.row_mut.Goals as goal

pub slice_mut-requires-clause-in_bounds : goal.slice_mut-requires-clause-in_bounds
slice_mut-requires-clause-in_bounds c =
    let w : ℕ = c.self.inside.width in
    let n : ℕ = c.self.inside.count in
    let count : length c.args.self.now.rows ≡ n = sym (ap (λ (block : Rows). length block.rows) c.self.view_is) ∙ rows-count w n c.self.inside.filled.items in
    let at : c.start-start.result ≡ c.args.i * w = c.start-start.ensures in
    let long : vec_len c.self.inside.filled ≡ n * w = c.self.inside.filled.ok.0 ∙ c.self.invariant.filled in
    inside w n c.args.i c.start-start.result (vec_len c.self.inside.filled) (subst (λ (k : ℕ). c.args.i < k) count c.requires) at long

pub returns : goal.returns
returns c =
    let w : ℕ = c.self.inside.width in
    let n : ℕ = c.self.inside.count in
    let xs : List ℤ = c.self.inside.filled.items in
    let count : length c.args.self.now.rows ≡ n = sym (ap (λ (block : Rows). length block.rows) c.self.view_is) ∙ rows-count w n xs in
    let at : c.start-start.result ≡ c.args.i * w = c.start-start.ensures in
    let long : vec_len c.self.inside.filled ≡ n * w = c.self.inside.filled.ok.0 ∙ c.self.invariant.filled in
    let within : c.start-start.result + w ≤ vec_len c.self.inside.filled = inside w n c.args.i c.start-start.result (vec_len c.self.inside.filled) (subst (λ (k : ℕ). c.args.i < k) count c.requires) at long in
    let written = λ (new : List ℤ).
    ap (λ (rs : List (List ℤ)). let block : Rows = record { rows = rs; width = w; cells = c.self.inside.cells } in block)
    (rows-written w n c.args.i c.start-start.result c.self.inside.filled.len xs new c.self.invariant.filled at c.self.inside.filled.ok.0 (omega (arith, within)))
    ∙ ap (λ (block : Rows). with_cells block c.args.i new) c.self.view_is in (
      (refl, written),
      record {
        writes_back = tt;
        value = c.slice_mut.ensures.value
            ∙ row-here w n c.args.i c.start-start.result xs xs (subst (λ (k : ℕ). c.args.i < k) count c.requires) at refl
            ∙ ap (λ (block : Rows). get_or block.rows c.args.i []) c.self.view_is;
      },
    )
