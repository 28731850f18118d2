use Rattle.std.proofs.Common.{rules, arith, ◌≡◌, ◌^◌, List, ℤ, pos, subst, sym, FitsSigned}
use Rattle.std.specs.Prelude.{◌+ℤ◌, ◌-ℤ◌, ◌*ℤ◌}
use Rattle.std.specs.Int.{w128}
use Rattle.std.proofs.lemmas.Int.{fits_signed_from_abs, ints, to_z-of_z}
use Rattle.std.specs.Bool.{IsTrue}
use Rattle.scaled_num.specs.Share.{IsFloor}
use Rattle.game_model.specs.Game.{IsWithin}
use Rattle.point_set.specs.Sawtooth.{FitsTimes, IsMostTimes}
use Rattle.point_set.proofs.GapBounds.{IsTried, floor-low, is-lessened, not-lessened, one-more, tried}
use Rattle.point_set.proofs.sawtooth.lessened.Goals as goal

pub overflow_add-enough : goal.overflow_add-enough
overflow_add-enough c =
    let mass : List ℤ = c.args.mass.now in
    let belief : List ℤ = c.args.point.now.belief in
    let gap : ℤ = c.args.gap in
    let q : ℤ = c.quotient.result in
    let base_fits : FitsSigned w128 c.args.base = c.ranges.base in
    let least_fits : FitsSigned w128 c.args.least = c.ranges.least in
    let gap_fits : FitsSigned w128 gap = c.ranges.gap in
    let down = c.requires.down in
    let distance_fits : FitsSigned w128 (c.args.base -ℤ c.args.least) = fits_signed_from_abs w128 (c.args.base -ℤ c.args.least) (omega (arith, c.requires.near)) in
    let rise_fits : FitsSigned w128 (pos 0 -ℤ gap) = fits_signed_from_abs w128 (pos 0 -ℤ gap) (omega (arith, ints, c.requires.narrow)) in
    let floor : IsFloor q (c.args.base -ℤ c.args.least) (pos 0 -ℤ gap) = simp to_z-of_z at c.quotient.ensures in
    let q_fits : FitsSigned w128 q = search rules in
    let min_fits : FitsSigned w128 c.min-enough.result = search rules in
    let value = simp to_z-of_z at c.min-enough.ensures.value in
    let few : IsTried q c.min-enough.result = tried q c.min-enough.result value (floor-low mass belief gap c.args.base c.args.least q c.requires floor) in
    let one_fits : FitsSigned w128 (c.min-enough.result +ℤ pos 1) = one-more q c.min-enough.result few in
    simp to_z-of_z one_fits

pub fits_times-requires-clause-times : goal.fits_times-requires-clause-times
fits_times-requires-clause-times c =
    let mass : List ℤ = c.args.mass.now in
    let belief : List ℤ = c.args.point.now.belief in
    let gap : ℤ = c.args.gap in
    let q : ℤ = c.quotient.result in
    let base_fits : FitsSigned w128 c.args.base = c.ranges.base in
    let least_fits : FitsSigned w128 c.args.least = c.ranges.least in
    let gap_fits : FitsSigned w128 gap = c.ranges.gap in
    let down = c.requires.down in
    let distance_fits : FitsSigned w128 (c.args.base -ℤ c.args.least) = fits_signed_from_abs w128 (c.args.base -ℤ c.args.least) (omega (arith, c.requires.near)) in
    let rise_fits : FitsSigned w128 (pos 0 -ℤ gap) = fits_signed_from_abs w128 (pos 0 -ℤ gap) (omega (arith, ints, c.requires.narrow)) in
    let floor : IsFloor q (c.args.base -ℤ c.args.least) (pos 0 -ℤ gap) = simp to_z-of_z at c.quotient.ensures in
    let q_fits : FitsSigned w128 q = search rules in
    let min_fits : FitsSigned w128 c.min-enough.result = search rules in
    let value = simp to_z-of_z at c.min-enough.ensures.value in
    let few : IsTried q c.min-enough.result = tried q c.min-enough.result value (floor-low mass belief gap c.args.base c.args.least q c.requires floor) in
    let one_fits : FitsSigned w128 (c.min-enough.result +ℤ pos 1) = one-more q c.min-enough.result few in
    let low = few.low in
    let high = few.high in
    let within : IsWithin (pos 0) (pos (2 ^ 101)) (c.min-enough.result +ℤ pos 1) = (omega (arith, ints), omega (arith, ints)) in
    simp to_z-of_z within

pub returns-then-not-fits_times : goal.returns-then-not-fits_times
returns-then-not-fits_times c =
    let mass : List ℤ = c.args.mass.now in
    let belief : List ℤ = c.args.point.now.belief in
    let gap : ℤ = c.args.gap in
    let q : ℤ = c.quotient.result in
    let base_fits : FitsSigned w128 c.args.base = c.ranges.base in
    let least_fits : FitsSigned w128 c.args.least = c.ranges.least in
    let gap_fits : FitsSigned w128 gap = c.ranges.gap in
    let down = c.requires.down in
    let distance_fits : FitsSigned w128 (c.args.base -ℤ c.args.least) = fits_signed_from_abs w128 (c.args.base -ℤ c.args.least) (omega (arith, c.requires.near)) in
    let rise_fits : FitsSigned w128 (pos 0 -ℤ gap) = fits_signed_from_abs w128 (pos 0 -ℤ gap) (omega (arith, ints, c.requires.narrow)) in
    let floor : IsFloor q (c.args.base -ℤ c.args.least) (pos 0 -ℤ gap) = simp to_z-of_z at c.quotient.ensures in
    let q_fits : FitsSigned w128 q = search rules in
    let min_fits : FitsSigned w128 c.min-enough.result = search rules in
    let value = simp to_z-of_z at c.min-enough.ensures.value in
    let few : IsTried q c.min-enough.result = tried q c.min-enough.result value (floor-low mass belief gap c.args.base c.args.least q c.requires floor) in
    let one_fits : FitsSigned w128 (c.min-enough.result +ℤ pos 1) = one-more q c.min-enough.result few in
    let parts : c.parts-parts.result.now ≡ belief = c.parts-parts.ensures.parts in
    let told : FitsTimes mass c.parts-parts.result.now (c.min-enough.result +ℤ pos 1) → IsTrue c.fits_times.result = simp to_z-of_z at c.fits_times.ensures.1 in
    let fails : FitsTimes mass belief (c.min-enough.result +ℤ pos 1) → ⊥ = λ fits.
    let yes = told (subst (λ (b : List ℤ). FitsTimes mass b (c.min-enough.result +ℤ pos 1)) (sym parts) fits) in let not = c.if-not-fits_times.true in cc (yes, not) in
    let upto = few.upto in
    simp to_z-of_z (not-lessened mass belief gap c.args.base c.args.least q (c.min-enough.result +ℤ pos 1) c.requires floor (omega (arith, ints)) fails)

pub overflow_mul-most_times : goal.overflow_mul-most_times
overflow_mul-most_times c =
    let most : IsMostTimes c.args.mass.now c.args.point.now.belief c.most_times.result = subst (λ (b : List ℤ). IsMostTimes c.args.mass.now b c.most_times.result) c.parts-parts.ensures.parts c.most_times.ensures in
    let times_fit : FitsSigned w128 c.most_times.result = search rules in
    let gap_fits : FitsSigned w128 c.args.gap = c.ranges.gap in
    simp to_z-of_z (c.requires.product c.most_times.result most)

pub overflow_add-base : goal.overflow_add-base
overflow_add-base c =
    let most : IsMostTimes c.args.mass.now c.args.point.now.belief c.most_times.result = subst (λ (b : List ℤ). IsMostTimes c.args.mass.now b c.most_times.result) c.parts-parts.ensures.parts c.most_times.ensures in
    let times_fit : FitsSigned w128 c.most_times.result = search rules in
    let gap_fits : FitsSigned w128 c.args.gap = c.ranges.gap in
    let base_fits : FitsSigned w128 c.args.base = c.ranges.base in
    let product_fits : FitsSigned w128 (c.most_times.result *ℤ c.args.gap) = c.requires.product c.most_times.result most in
    simp to_z-of_z (c.requires.bound c.most_times.result most)

pub returns : goal.returns
returns c =
    let most : IsMostTimes c.args.mass.now c.args.point.now.belief c.most_times.result = subst (λ (b : List ℤ). IsMostTimes c.args.mass.now b c.most_times.result) c.parts-parts.ensures.parts c.most_times.ensures in
    let times_fit : FitsSigned w128 c.most_times.result = search rules in
    let gap_fits : FitsSigned w128 c.args.gap = c.ranges.gap in
    let base_fits : FitsSigned w128 c.args.base = c.ranges.base in
    let least_fits : FitsSigned w128 c.args.least = c.ranges.least in
    let product_fits : FitsSigned w128 (c.most_times.result *ℤ c.args.gap) = c.requires.product c.most_times.result most in
    let bound_fits : FitsSigned w128 (c.args.base +ℤ c.most_times.result *ℤ c.args.gap) = c.requires.bound c.most_times.result most in
    let min_fits : FitsSigned w128 c.min.result = search rules in
    let value = simp to_z-of_z at c.min.ensures.value in
    simp to_z-of_z (rw value (is-lessened c.args.mass.now c.args.point.now.belief c.args.gap c.args.base c.args.least c.most_times.result most))
