use Rattle.std.proofs.Common.{◌≡◌, ◌<◌, ◌^◌, ◌*ℤ◌, ℕ, ℤ, pos, sym, subst₂, FitsSigned, int_div, to_z-of_z, unsigned_abs, arith}
use Rattle.std.specs.Int.{w128, IsGcd}
use Rattle.std.proofs.lemmas.Int.{ints}
use Rattle.simplex.specs.Reading.{IsLowest}
use Rattle.simplex.proofs.Narrow.{quotient_exact, quotient_is, quotient_fits}
use Rattle.simplex.proofs.Divided.{common_positive, common_fits}
use Rattle.simplex.proofs.Lowest.{is_lowest, same_fraction}
use Rattle.simplex.proofs.reading.lowest.Goals as goal

pub overflow_cast-common : goal.overflow_cast-common
overflow_cast-common c =
    let f1 : FitsSigned w128 c.args.num = c.ranges.num in
    let f2 : FitsSigned w128 c.args.den = c.ranges.den in
    let gcd : IsGcd (unsigned_abs c.args.den) (unsigned_abs c.args.num) c.gcd-common.result = subst₂ (λ (a b : ℕ). IsGcd a b c.gcd-common.result) (simp to_z-of_z at c.unsigned_abs.ensures.value) (simp to_z-of_z at c.unsigned_abs-2.ensures.value) c.gcd-common.ensures in
    let small : c.gcd-common.result < 2 ^ 127 = common_fits c.args.den c.args.num _ f2 c.requires.positive gcd in
    omega (arith, ints)

pub nonzero_div-result : goal.nonzero_div-result
nonzero_div-result c =
    let f1 : FitsSigned w128 c.args.num = c.ranges.num in
    let f2 : FitsSigned w128 c.args.den = c.ranges.den in
    let gcd : IsGcd (unsigned_abs c.args.den) (unsigned_abs c.args.num) c.gcd-common.result = subst₂ (λ (a b : ℕ). IsGcd a b c.gcd-common.result) (simp to_z-of_z at c.unsigned_abs.ensures.value) (simp to_z-of_z at c.unsigned_abs-2.ensures.value) c.gcd-common.ensures in
    let some : 0 < c.gcd-common.result = common_positive c.args.den c.args.num _ c.requires.positive gcd in
    (some, quotient_fits c.args.num c.gcd-common.result f1 some (common_fits c.args.den c.args.num _ f2 c.requires.positive gcd))

pub nonzero_div-result-2 : goal.nonzero_div-result-2
nonzero_div-result-2 c =
    let f1 : FitsSigned w128 c.args.num = c.ranges.num in
    let f2 : FitsSigned w128 c.args.den = c.ranges.den in
    let gcd : IsGcd (unsigned_abs c.args.den) (unsigned_abs c.args.num) c.gcd-common.result = subst₂ (λ (a b : ℕ). IsGcd a b c.gcd-common.result) (simp to_z-of_z at c.unsigned_abs.ensures.value) (simp to_z-of_z at c.unsigned_abs-2.ensures.value) c.gcd-common.ensures in
    let some : 0 < c.gcd-common.result = common_positive c.args.den c.args.num _ c.requires.positive gcd in
    (some, quotient_fits c.args.den c.gcd-common.result f2 some (common_fits c.args.den c.args.num _ f2 c.requires.positive gcd))

pub returns-clause-lowest : goal.returns-clause-lowest
returns-clause-lowest c =
    let g : ℕ = c.gcd-common.result in
    let f1 : FitsSigned w128 c.args.num = c.ranges.num in
    let f2 : FitsSigned w128 c.args.den = c.ranges.den in
    let gcd : IsGcd (unsigned_abs c.args.den) (unsigned_abs c.args.num) g = subst₂ (λ (a b : ℕ). IsGcd a b g) (simp to_z-of_z at c.unsigned_abs.ensures.value) (simp to_z-of_z at c.unsigned_abs-2.ensures.value) c.gcd-common.ensures in
    let some : 0 < g = common_positive c.args.den c.args.num _ c.requires.positive gcd in
    let small : g < 2 ^ 127 = common_fits c.args.den c.args.num _ f2 c.requires.positive gcd in
    subst₂ IsLowest (sym (quotient_is c.args.num g f1 some small)) (sym (quotient_is c.args.den g f2 some small))
    (is_lowest c.args.num c.args.den (int_div c.args.num (pos g)) (int_div c.args.den (pos g)) g some c.requires.positive (quotient_exact c.args.num g gcd.1) (quotient_exact c.args.den g gcd.0) gcd)

pub returns-clause-same : goal.returns-clause-same
returns-clause-same c =
    let g : ℕ = c.gcd-common.result in
    let f1 : FitsSigned w128 c.args.num = c.ranges.num in
    let f2 : FitsSigned w128 c.args.den = c.ranges.den in
    let gcd : IsGcd (unsigned_abs c.args.den) (unsigned_abs c.args.num) g = subst₂ (λ (a b : ℕ). IsGcd a b g) (simp to_z-of_z at c.unsigned_abs.ensures.value) (simp to_z-of_z at c.unsigned_abs-2.ensures.value) c.gcd-common.ensures in
    let some : 0 < g = common_positive c.args.den c.args.num _ c.requires.positive gcd in
    let small : g < 2 ^ 127 = common_fits c.args.den c.args.num _ f2 c.requires.positive gcd in
    subst₂ (λ (x y : ℤ). x *ℤ c.args.den ≡ c.args.num *ℤ y) (sym (quotient_is c.args.num g f1 some small)) (sym (quotient_is c.args.den g f2 some small))
    (same_fraction c.args.num c.args.den (int_div c.args.num (pos g)) (int_div c.args.den (pos g)) g (quotient_exact c.args.num g gcd.1) (quotient_exact c.args.den g gcd.0))
