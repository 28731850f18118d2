use Rattle.std.proofs.Common.{◌^◌, ◌*◌, ℕ, List, map, arith, sym, subst}
use Rattle.std.specs.Prelude.{ℤ, pos, FitsSigned, ◌*ℤ◌, ◌≤ℤ◌}
use Rattle.std.specs.Int.{w128}
use Rattle.std.proofs.lemmas.Int.{ints, to_z-of_z}
use Rattle.scaled_num.specs.Sums.{sum_of}
use Rattle.scaled_num.proofs.Floors.{All-from_recursion, NoneNegative}
use Rattle.point_set.proofs.Taking.{product-within, shares-within, weights-each, weights-sum}
use Rattle.point_set.proofs.takes.share_by.Goals as goal

narrow : (x : ℤ) → x ≤ℤ pos (24 * 2 ^ 30) → x ≤ℤ pos (2 ^ 100)
narrow x h = omega (arith, ints)

wide : (x : ℤ) → x ≤ℤ pos (24 * 2 ^ 30 * 2 ^ 66) → x ≤ℤ pos (2 ^ 126)
wide x h = omega (arith, ints)

pub take_share-requires-clause-weights : goal.take_share-requires-clause-weights
take_share-requires-clause-weights c =
    let weights : List ℤ = map (λ (want : ℕ × ℤ). want.1) c.args.wanted.now in
    subst NoneNegative (sym c.copy_weights.ensures) (All-from_recursion (λ x. pos 0 ≤ℤ x) weights (weights-each c.args.wanted.now c.requires.weights))

pub take_share-requires-clause-sum : goal.take_share-requires-clause-sum
take_share-requires-clause-sum c =
    let weights : List ℤ = map (λ (want : ℕ × ℤ). want.1) c.args.wanted.now in
    subst (λ (xs : List ℤ). sum_of xs ≤ℤ pos (2 ^ 100)) (sym c.copy_weights.ensures) (narrow (sum_of weights) (weights-sum c.args.wanted.now c.requires.weights c.requires.few).1)

pub take_share-requires-clause-product : goal.take_share-requires-clause-product
take_share-requires-clause-product c =
    let total_fits : FitsSigned w128 c.args.total = c.ranges.total in
    let weights : List ℤ = map (λ (want : ℕ × ℤ). want.1) c.args.wanted.now in
    let product = product-within (sum_of weights) c.args.total (24 * 2 ^ 30) (2 ^ 66) (weights-sum c.args.wanted.now c.requires.weights c.requires.few) c.requires.total in
    simp to_z-of_z (subst (λ (xs : List ℤ). (sum_of xs *ℤ c.args.total) ≤ℤ pos (2 ^ 126)) (sym c.copy_weights.ensures) (wide (sum_of weights *ℤ c.args.total) product.1))

pub returns-clause-each : goal.returns-clause-each
returns-clause-each c =
    let total_fits : FitsSigned w128 c.args.total = c.ranges.total in
    let whole = simp to_z-of_z at c.take_share.ensures.whole in
    shares-within c.take_share.new.out (2 ^ 66) c.args.total c.take_share.ensures.positive whole c.requires.total.1
