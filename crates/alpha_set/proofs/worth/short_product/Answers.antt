use Rattle.std.proofs.Common.{◌≡◌, get_or, rules, to_z}
use Rattle.std.specs.Prelude.{FitsSigned}
use Rattle.std.specs.Int.{w64, w128}
use Rattle.std.proofs.lemmas.Int.{to_z-of_z}
use Rattle.scaled_num.specs.Share.{at}
use Rattle.alpha_set.proofs.Products.{narrow-entry, narrow-mass, next-portion, none}
use Rattle.alpha_set.proofs.worth.short_product.Goals as goal

pub overflow_mul-sum : goal.overflow_mul-sum
overflow_mul-sum c =
    let mass_fits : FitsSigned w128 (get_or c.args.portions.now c.loop-portion.portion-index none).mass = search rules in
    let entry_fits : FitsSigned w128 (at c.args.vector.now (get_or c.args.portions.now c.loop-portion.portion-index none).state) = search rules in
    let mass_narrow : FitsSigned w64 (get_or c.args.portions.now c.loop-portion.portion-index none).mass = narrow-mass c.args.portions.now c.args.vector.now c.loop-portion.portion-index c.requires.short c.loop-portion-test.true in
    let entry_narrow : FitsSigned w64 (at c.args.vector.now (get_or c.args.portions.now c.loop-portion.portion-index none).state) = narrow-entry c.args.portions.now c.args.vector.now c.loop-portion.portion-index c.requires.fits c.requires.short c.loop-portion-test.true in
    let mass_is : c.from.result ≡ (get_or c.args.portions.now c.loop-portion.portion-index none).mass = simp to_z-of_z at c.from.ensures in
    let entry_is : c.from-in-loop-portion.result ≡ at c.args.vector.now (get_or c.args.portions.now c.loop-portion.portion-index none).state = simp to_z-of_z at c.from-in-loop-portion.ensures in
    let n = next-portion c.args.portions.now c.args.vector.now c.loop-portion.portion-index (to_z w128 c.loop-portion.sum-bits) c.requires.fits c.loop-portion-test.true c.loop-portion.invariant in
    rw (mass_is, entry_is) (simp to_z-of_z n.product_fits)

pub overflow_add-sum : goal.overflow_add-sum
overflow_add-sum c =
    let mass_fits : FitsSigned w128 (get_or c.args.portions.now c.loop-portion.portion-index none).mass = search rules in
    let entry_fits : FitsSigned w128 (at c.args.vector.now (get_or c.args.portions.now c.loop-portion.portion-index none).state) = search rules in
    let mass_narrow : FitsSigned w64 (get_or c.args.portions.now c.loop-portion.portion-index none).mass = narrow-mass c.args.portions.now c.args.vector.now c.loop-portion.portion-index c.requires.short c.loop-portion-test.true in
    let entry_narrow : FitsSigned w64 (at c.args.vector.now (get_or c.args.portions.now c.loop-portion.portion-index none).state) = narrow-entry c.args.portions.now c.args.vector.now c.loop-portion.portion-index c.requires.fits c.requires.short c.loop-portion-test.true in
    let mass_is : c.from.result ≡ (get_or c.args.portions.now c.loop-portion.portion-index none).mass = simp to_z-of_z at c.from.ensures in
    let entry_is : c.from-in-loop-portion.result ≡ at c.args.vector.now (get_or c.args.portions.now c.loop-portion.portion-index none).state = simp to_z-of_z at c.from-in-loop-portion.ensures in
    let n = next-portion c.args.portions.now c.args.vector.now c.loop-portion.portion-index (to_z w128 c.loop-portion.sum-bits) c.requires.fits c.loop-portion-test.true c.loop-portion.invariant in
    let product_fits = n.product_fits in
    rw (mass_is, entry_is) (simp to_z-of_z n.sum_fits)

pub loop-portion-preserved : goal.loop-portion-preserved
loop-portion-preserved c =
    let mass_fits : FitsSigned w128 (get_or c.args.portions.now c.loop-portion.portion-index none).mass = search rules in
    let entry_fits : FitsSigned w128 (at c.args.vector.now (get_or c.args.portions.now c.loop-portion.portion-index none).state) = search rules in
    let mass_narrow : FitsSigned w64 (get_or c.args.portions.now c.loop-portion.portion-index none).mass = narrow-mass c.args.portions.now c.args.vector.now c.loop-portion.portion-index c.requires.short c.loop-portion-test.true in
    let entry_narrow : FitsSigned w64 (at c.args.vector.now (get_or c.args.portions.now c.loop-portion.portion-index none).state) = narrow-entry c.args.portions.now c.args.vector.now c.loop-portion.portion-index c.requires.fits c.requires.short c.loop-portion-test.true in
    let mass_is : c.from.result ≡ (get_or c.args.portions.now c.loop-portion.portion-index none).mass = simp to_z-of_z at c.from.ensures in
    let entry_is : c.from-in-loop-portion.result ≡ at c.args.vector.now (get_or c.args.portions.now c.loop-portion.portion-index none).state = simp to_z-of_z at c.from-in-loop-portion.ensures in
    let n = next-portion c.args.portions.now c.args.vector.now c.loop-portion.portion-index (to_z w128 c.loop-portion.sum-bits) c.requires.fits c.loop-portion-test.true c.loop-portion.invariant in
    let product_fits = n.product_fits in
    let sum_fits = n.sum_fits in
    rw (mass_is, entry_is) (simp to_z-of_z n.so_far)
