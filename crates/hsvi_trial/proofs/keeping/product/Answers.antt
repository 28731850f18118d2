use Rattle.std.proofs.lemmas.Int.{to_z-of_z}
use Rattle.game_model.proofs.FirstProduct.{next}
use Rattle.hsvi_trial.proofs.keeping.product.Goals as goal

pub overflow_add-sum : goal.overflow_add-sum
overflow_add-sum c =
    let n = next c.args.belief.now c.args.vector.now c.loop-s.s _ c.loop-s-test.true c.requires.same c.requires.few c.requires.weights c.requires.entries c.loop-s.invariant.so_far c.loop-s.invariant.bounded in
    let weight_fits = n.weight_fits in
    let entry_fits = n.entry_fits in
    let term_fits = n.term_fits in
    simp to_z-of_z n.sum_fits

pub overflow_mul-sum : goal.overflow_mul-sum
overflow_mul-sum c =
    let n = next c.args.belief.now c.args.vector.now c.loop-s.s _ c.loop-s-test.true c.requires.same c.requires.few c.requires.weights c.requires.entries c.loop-s.invariant.so_far c.loop-s.invariant.bounded in
    let weight_fits = n.weight_fits in
    let entry_fits = n.entry_fits in
    simp to_z-of_z n.term_fits

pub loop-s-preserved : goal.loop-s-preserved
loop-s-preserved c =
    let n = next c.args.belief.now c.args.vector.now c.loop-s.s _ c.loop-s-test.true c.requires.same c.requires.few c.requires.weights c.requires.entries c.loop-s.invariant.so_far c.loop-s.invariant.bounded in
    let weight_fits = n.weight_fits in
    let entry_fits = n.entry_fits in
    let term_fits = n.term_fits in
    let sum_fits = n.sum_fits in
    record { so_far = simp to_z-of_z n.so_far; bounded = simp to_z-of_z n.bounded }
