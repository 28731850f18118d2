use Rattle.std.proofs.Common.{◌^◌, ◌*ℤ◌, ◌≤ℤ◌, ℤ, ℕ, pos, List, get_or, FitsSigned, to_z-of_z, subst, arith, rules, length-set, ◌∙◌}
use Rattle.std.specs.Int.{w128}
use Rattle.scaled_num.specs.Sums.{sum_of}
use Rattle.scaled_num.specs.Share.{at, IsFloor}
use Rattle.scaled_num.proofs.Floors.{weighted_fits, floor_next}
use Rattle.scaled_num.proofs.shares.take_floors.Goals as goal

pub overflow_mul-weight : goal.overflow_mul-weight
overflow_mul-weight c =
    let weights : List ℤ = c.args.weights.now in
    let place : ℕ = c.loop-place.place in
    let fits_total : FitsSigned w128 c.args.total = c.ranges.total in
    let fits_weight : FitsSigned w128 (get_or weights place (pos 0)) = search rules in
    let whole : (sum_of weights *ℤ c.args.total) ≤ℤ pos (2 ^ 126) = subst (λ s. (s *ℤ c.args.total) ≤ℤ pos (2 ^ 126)) c.requires.sum c.requires.product in
    simp to_z-of_z (weighted_fits weights c.args.total place c.requires.weights c.requires.total whole c.loop-place-test.true)

pub loop-place-preserved : goal.loop-place-preserved
loop-place-preserved c =
    let weights : List ℤ = c.args.weights.now in
    let place : ℕ = c.loop-place.place in
    let fits_total : FitsSigned w128 c.args.total = c.ranges.total in
    let fits_sum : FitsSigned w128 c.args.sum = c.ranges.sum in
    let fits_weight : FitsSigned w128 (get_or weights place (pos 0)) = search rules in
    let fits_floor : FitsSigned w128 c.floor_div.result = search rules in
    let whole : (sum_of weights *ℤ c.args.total) ≤ℤ pos (2 ^ 126) = subst (λ s. (s *ℤ c.args.total) ≤ℤ pos (2 ^ 126)) c.requires.sum c.requires.product in
    let fits_product : FitsSigned w128 (get_or weights place (pos 0) *ℤ c.args.total) = weighted_fits weights c.args.total place c.requires.weights c.requires.total whole c.loop-place-test.true in
    let low = simp to_z-of_z at c.floor_div.ensures.low in
    let high = simp to_z-of_z at c.floor_div.ensures.high in
    let before = simp to_z-of_z at c.loop-place.invariant.floor in
    simp to_z-of_z (record {
      same_length = length-set c.loop-place.out place c.floor_div.result ∙ c.loop-place.invariant.same_length;
      floor = floor_next c.loop-place.out weights c.args.total c.args.sum c.floor_div.result place (omega (arith, c.loop-place.invariant.same_length)) (record { low = low; high = high }) before;
    })

pub returns : goal.returns
returns c =
    let weights : List ℤ = c.args.weights.now in
    let fits_total : FitsSigned w128 c.args.total = c.ranges.total in
    let fits_sum : FitsSigned w128 c.args.sum = c.ranges.sum in
    let all = simp to_z-of_z at c.loop-place.invariant.floor in
    record {
      same_length = c.loop-place.invariant.same_length;
      floor = λ i l. subst (λ s. IsFloor (at c.loop-place.out i) (at weights i *ℤ c.args.total) s) c.requires.sum (all i (omega arith));
    }
