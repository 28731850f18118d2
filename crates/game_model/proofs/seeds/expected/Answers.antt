use Rattle.std.proofs.lemmas.Int.{to_z-of_z}
use Rattle.game_model.proofs.Expected.{next}
use Rattle.game_model.proofs.seeds.expected.Goals as goal

pub overflow_mul-sum : goal.overflow_mul-sum
overflow_mul-sum c =
    let n = next c.args.row.now c.args.vector.now c.loop-landing.landing-index _ c.loop-landing-test.true c.requires.inside c.requires.weights c.requires.entries c.loop-landing.invariant in
    let weight_fits = n.weight_fits in
    let entry_fits = n.entry_fits in
    simp to_z-of_z n.product_fits

pub overflow_add-sum : goal.overflow_add-sum
overflow_add-sum c =
    let n = next c.args.row.now c.args.vector.now c.loop-landing.landing-index _ c.loop-landing-test.true c.requires.inside c.requires.weights c.requires.entries c.loop-landing.invariant in
    let weight_fits = n.weight_fits in
    let entry_fits = n.entry_fits in
    let product_fits = n.product_fits in
    simp to_z-of_z n.sum_fits

pub loop-landing-preserved : goal.loop-landing-preserved
loop-landing-preserved c =
    let n = next c.args.row.now c.args.vector.now c.loop-landing.landing-index _ c.loop-landing-test.true c.requires.inside c.requires.weights c.requires.entries c.loop-landing.invariant in
    let weight_fits = n.weight_fits in
    let entry_fits = n.entry_fits in
    let product_fits = n.product_fits in
    let sum_fits = n.sum_fits in
    simp to_z-of_z n.so_far
