use Rattle.std.proofs.Common.{◌≡◌, ◌≤◌, ◌+◌, ◌^◌, ℕ, get_or, arith, refl, subst, sym}
use Rattle.std.specs.Prelude.{pos, unsigned_abs}
use Rattle.std.proofs.lemmas.Int.{to_z-of_z}
use Rattle.scaled_num.proofs.Sums.{each-at}
use Rattle.alpha_set.specs.Members.{table_index}
use Rattle.alpha_set.proofs.Adding.{NextAdded, added-at, next-added}
use Rattle.alpha_set.proofs.Totals.{abs-within}
use Rattle.alpha_set.proofs.tables.add.Goals as goal

next : (c : goal.After-table-in-loop-t-2-1) → NextAdded c.args.table.now c.args.vector.now c.loop-t.table c.index-start.result c.loop-t.t c.args.step.now.weight
next c =
    let at : c.index-start.result + c.loop-t.t ≡ table_index c.args.step.now.a c.args.step.now.o c.loop-t.t = omega (arith, c.index-start.ensures.index) in
    next-added c.args.table.now c.args.vector.now c.loop-t.table c.index-start.result c.loop-t.t c.args.step.now.weight c.loop-t-test.true
    (omega (arith, c.index-start.ensures.index))
    (subst (λ (k : ℕ). unsigned_abs (get_or c.args.table.now k (pos 0)) ≤ 2 ^ 82) (sym at) (c.requires.small c.loop-t.t c.loop-t-test.true))
    (abs-within c.args.step.now.weight 65536 c.requires.weight)
    (each-at (λ x. unsigned_abs x ≤ 2 ^ 66) (pos 0) c.args.vector.now c.loop-t.t c.requires.entries c.loop-t-test.true)
    c.loop-t.invariant

pub loop-t-init : goal.loop-t-init
loop-t-init c = record { long = refl; done = λ u l. absurd (omega arith); left = λ k away. refl }

pub overflow_add-table-in-loop-t : goal.overflow_add-table-in-loop-t
overflow_add-table-in-loop-t c =
    let n = next c in
    let weight_fits = n.weight_fits in
    let entry_fits = n.entry_fits in
    let old_fits = n.old_fits in
    let product_fits = n.product_fits in
    simp to_z-of_z n.sum_fits

pub loop-t-preserved : goal.loop-t-preserved
loop-t-preserved c =
    let n = next c in
    let weight_fits = n.weight_fits in
    let entry_fits = n.entry_fits in
    let old_fits = n.old_fits in
    let product_fits = n.product_fits in
    let sum_fits = n.sum_fits in
    simp to_z-of_z n.added

pub returns-clause-brought : goal.returns-clause-brought
returns-clause-brought c =
    let at : c.index-start.result ≡ table_index c.args.step.now.a c.args.step.now.o 0 = omega (arith, c.index-start.ensures.index) in
    added-at c.args.step.now c.args.table.now c.args.vector.now c.loop-t.table c.index-start.result c.loop-t.t at (omega arith) c.requires.few c.requires.seen c.loop-t.invariant
