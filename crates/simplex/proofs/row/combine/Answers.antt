use Rattle.std.proofs.Common.{◌+◌, ◌-ℤ◌, ℕ, ℤ, pos, ap, ◌∙◌, FitsSigned, to_z-of_z, arith, rules}
use Rattle.std.specs.Int.{w128}
use Rattle.simplex.specs.Program.{at}
use Rattle.simplex.proofs.Narrow.{narrow_fits}
use Rattle.simplex.proofs.Divided.{set_more, less, combined_row}
use Rattle.simplex.proofs.row.combine.Goals as goal

pub loop-column-preserved : goal.loop-column-preserved
loop-column-preserved c =
    let row = c.args.row.now in
    let pivot = c.args.pivot.now in
    let q : ℕ = c.args.place in
    let f1 : FitsSigned w128 (at pivot (q + 2)) = narrow_fits _ (c.requires.pivot _ (omega arith)) in
    let f2 : FitsSigned w128 (at row (q + 2)) = narrow_fits _ (c.requires.row _ (omega arith)) in
    let f3 : FitsSigned w128 (at row c.loop-column.column) = narrow_fits _ (c.requires.row _ (omega arith)) in
    let f4 : FitsSigned w128 (at pivot c.loop-column.column) = narrow_fits _ (c.requires.pivot _ (omega arith)) in
    let f5 : FitsSigned w128 c.combined.result = search rules in
    set_more c.loop-column.new c.loop-column.column _ (less row pivot q) (omega arith) c.loop-column.invariant (to_z-of_z {w = w128} f5 ∙ simp to_z-of_z at c.combined.ensures.value)

pub returns : goal.returns
returns c =
    let row = c.args.row.now in
    let pivot = c.args.pivot.now in
    let q : ℕ = c.args.place in
    let f1 : FitsSigned w128 (at pivot (q + 2)) = narrow_fits _ (c.requires.pivot _ (omega arith)) in
    let f2 : FitsSigned w128 (at row (q + 2)) = narrow_fits _ (c.requires.row _ (omega arith)) in
    let f3 : FitsSigned w128 (at row 0) = narrow_fits _ (c.requires.row _ (omega arith)) in
    let f4 : FitsSigned w128 (at pivot 0) = narrow_fits _ (c.requires.pivot _ (omega arith)) in
    let f5 : FitsSigned w128 c.product.result = search rules in
    let f6 : FitsSigned w128 c.product-2.result = search rules in
    let f7 : FitsSigned w128 (pos 0 -ℤ c.product-2.result) = search rules in
    combined_row row pivot c.loop-column.new q _ _ c.requires.same c.requires.place c.requires.row c.requires.pivot (omega arith)
    (λ k kl. c.loop-column.invariant k (omega arith))
    (to_z-of_z {w = w128} f5 ∙ simp to_z-of_z at c.product.ensures.value)
    (simp to_z-of_z (ap (λ (y : ℤ). pos 0 -ℤ y) (simp to_z-of_z at c.product-2.ensures.value)))
