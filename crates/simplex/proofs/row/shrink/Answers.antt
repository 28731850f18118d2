use Rattle.std.proofs.Common.{◌≡◌, ◌<◌, ◌+◌, ◌^◌, ◌*ℤ◌, ℕ, ℤ, pos, ap, ◌∙◌, sym, subst, subst₂, FitsSigned, int_div, to_z, to_z-of_z, unsigned_abs, arith, rules, slice_set, refl}
use Rattle.std.specs.Int.{w128, IsGcd}
use Rattle.std.proofs.lemmas.Int.{ints, to_z_pos}
use Rattle.simplex.specs.Program.{at}
use Rattle.simplex.specs.Elimination.{DividedSoFar}
use Rattle.simplex.proofs.Narrow.{quotient_exact, quotient_is, quotient_fits}
use Rattle.simplex.proofs.Divided.{common_positive, common_fits, part_small, divided_shrunk}
use Rattle.simplex.proofs.row.shrink.Goals as goal

pub overflow_cast-common : goal.overflow_cast-common
overflow_cast-common c =
    let value : ℤ = at c.args.numbers.now c.args.column in
    let f1 : FitsSigned w128 c.args.by = c.ranges.by in
    let f2 : FitsSigned w128 value = search rules in
    let gcd : IsGcd (unsigned_abs c.args.by) (unsigned_abs value) c.gcd-common.result = subst₂ (λ (a b : ℕ). IsGcd a b c.gcd-common.result) (simp to_z-of_z at c.unsigned_abs.ensures.value) (simp to_z-of_z at c.unsigned_abs-2.ensures.value) c.gcd-common.ensures in
    let small : c.gcd-common.result < 2 ^ 127 = common_fits c.args.by value _ f1 c.requires.positive gcd in
    omega (arith, ints)

pub nonzero_div-by : goal.nonzero_div-by
nonzero_div-by c =
    let value : ℤ = at c.args.numbers.now c.args.column in
    let f1 : FitsSigned w128 c.args.by = c.ranges.by in
    let f2 : FitsSigned w128 value = search rules in
    let gcd : IsGcd (unsigned_abs c.args.by) (unsigned_abs value) c.gcd-common.result = subst₂ (λ (a b : ℕ). IsGcd a b c.gcd-common.result) (simp to_z-of_z at c.unsigned_abs.ensures.value) (simp to_z-of_z at c.unsigned_abs-2.ensures.value) c.gcd-common.ensures in
    let some : 0 < c.gcd-common.result = common_positive c.args.by value _ c.requires.positive gcd in
    (some, quotient_fits c.args.by c.gcd-common.result f1 some (common_fits c.args.by value _ f1 c.requires.positive gcd))

pub nonzero_div-numbers : goal.nonzero_div-numbers
nonzero_div-numbers c =
    let value : ℤ = at c.args.numbers.now c.args.column in
    let f1 : FitsSigned w128 c.args.by = c.ranges.by in
    let f2 : FitsSigned w128 value = search rules in
    let gcd : IsGcd (unsigned_abs c.args.by) (unsigned_abs value) c.gcd-common.result = subst₂ (λ (a b : ℕ). IsGcd a b c.gcd-common.result) (simp to_z-of_z at c.unsigned_abs.ensures.value) (simp to_z-of_z at c.unsigned_abs-2.ensures.value) c.gcd-common.ensures in
    let some : 0 < c.gcd-common.result = common_positive c.args.by value _ c.requires.positive gcd in
    (some, quotient_fits value c.gcd-common.result f2 some (common_fits c.args.by value _ f1 c.requires.positive gcd))

pub scale-requires-clause-small : goal.scale-requires-clause-small
scale-requires-clause-small c = λ k kl.
    let value : ℤ = at c.args.numbers.now c.args.column in
    let f1 : FitsSigned w128 c.args.by = c.ranges.by in
    let f2 : FitsSigned w128 value = search rules in
    let gcd : IsGcd (unsigned_abs c.args.by) (unsigned_abs value) c.gcd-common.result = subst₂ (λ (a b : ℕ). IsGcd a b c.gcd-common.result) (simp to_z-of_z at c.unsigned_abs.ensures.value) (simp to_z-of_z at c.unsigned_abs-2.ensures.value) c.gcd-common.ensures in
    let some : 0 < c.gcd-common.result = common_positive c.args.by value _ c.requires.positive gcd in
    let is = quotient_is c.args.by c.gcd-common.result f1 some (common_fits c.args.by value _ f1 c.requires.positive gcd) in
    subst (λ (y : ℤ). unsigned_abs (y *ℤ at c.args.numbers.now k) < 2 ^ 125) (sym is)
    (part_small c.gcd-common.result (int_div c.args.by (pos c.gcd-common.result)) c.args.by (at c.args.numbers.now k) some (quotient_exact c.args.by c.gcd-common.result gcd.0) (c.requires.done k kl))

pub returns-clause-more : goal.returns-clause-more
returns-clause-more c = λ first so.
    let value : ℤ = at c.args.numbers.now c.args.column in
    let g : ℕ = c.gcd-common.result in
    let f1 : FitsSigned w128 c.args.by = c.ranges.by in
    let f2 : FitsSigned w128 value = search rules in
    let gcd : IsGcd (unsigned_abs c.args.by) (unsigned_abs value) g = subst₂ (λ (a b : ℕ). IsGcd a b g) (simp to_z-of_z at c.unsigned_abs.ensures.value) (simp to_z-of_z at c.unsigned_abs-2.ensures.value) c.gcd-common.ensures in
    let some : 0 < g = common_positive c.args.by value _ c.requires.positive gcd in
    let small : g < 2 ^ 127 = common_fits c.args.by value _ f1 c.requires.positive gcd in
    let ratio = quotient_is c.args.by g f1 some small in
    let quotient = quotient_is value g f2 some small in
    let plain : to_z w128 g ≡ pos g = to_z_pos w128 g small in
    subst₂ (λ (q y : ℤ). DividedSoFar first (slice_set c.scale.new.numbers c.args.column q) y (c.args.column + 1)) (sym quotient) (sym (c.divisor_of.ensures.value ∙ plain))
    (divided_shrunk first c.args.numbers.now c.scale.new.numbers c.args.by (int_div c.args.by (pos g)) value (int_div value (pos g)) g c.args.column
    c.requires.column (let a = c.scale.auto.numbers in omega arith) refl (quotient_exact c.args.by g gcd.0) (quotient_exact value g gcd.1) gcd some
    (λ k kl. c.scale.ensures.done k kl ∙ ap (λ (y : ℤ). y *ℤ at c.args.numbers.now k) ratio) c.scale.ensures.left so)
