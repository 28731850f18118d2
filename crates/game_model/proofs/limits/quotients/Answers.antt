use Rattle.std.proofs.Common.{arith, get_or, ◌≡◌, ap, sym, ◌∙◌, map, take, [], ◌∷◌, ◌++◌}
use Rattle.std.specs.Prelude.{ℤ, pos, FitsSigned, int_div}
use Rattle.std.specs.Int.{w128}
use Rattle.std.proofs.lemmas.Int.{ints, to_z-of_z, quot_fits}
use Rattle.game_model.proofs.Sizes.{map-more, weight_fits}
use Rattle.game_model.proofs.limits.quotients.Goals as goal

pub nonzero_div-weight : goal.nonzero_div-weight
nonzero_div-weight c =
    let x : ℤ = get_or c.args.weights.now c.loop-weight.weight-index (pos 0) in
    let fits : FitsSigned w128 x = weight_fits c.args.weights.now c.loop-weight.weight-index (pos 0) c.requires.each c.loop-weight-test.true in
    let d_fits : FitsSigned w128 c.args.divisor = c.ranges.divisor in
    (omega (arith, ints), simp to_z-of_z (quot_fits w128 x c.args.divisor fits c.requires.positive))

pub loop-weight-preserved : goal.loop-weight-preserved
loop-weight-preserved c =
    let x : ℤ = get_or c.args.weights.now c.loop-weight.weight-index (pos 0) in
    let d : ℤ = c.args.divisor in
    let fits : FitsSigned w128 x = weight_fits c.args.weights.now c.loop-weight.weight-index (pos 0) c.requires.each c.loop-weight-test.true in
    let d_fits : FitsSigned w128 d = c.ranges.divisor in
    let q_fits : FitsSigned w128 (int_div x d) = quot_fits w128 x d fits c.requires.positive in
    let before : c.loop-weight.kept.items ≡ map (λ y. int_div y d) (take c.loop-weight.weight-index c.args.weights.now) = simp to_z-of_z at c.loop-weight.invariant in
    let items : c.push.new.self.items ≡ c.loop-weight.kept.items ++ int_div x d ∷ [] = simp to_z-of_z at c.in_ok-push.ensures.items in
    simp to_z-of_z (items ∙ ap (λ ys. ys ++ int_div x d ∷ []) before ∙ sym (map-more (λ y. int_div y d) c.args.weights.now c.loop-weight.weight-index (pos 0) c.loop-weight-test.true))
