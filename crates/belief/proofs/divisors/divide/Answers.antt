use Rattle.std.proofs.Common.{◌∙◌, ◌/◌, ◌<◌, ℕ, ap, arith, get_or, length, rules, set, sym}
use Rattle.std.specs.Prelude.{ℤ, pos, FitsSigned, unsigned_abs}
use Rattle.std.specs.Int.{w128}
use Rattle.std.proofs.lemmas.Int.{to_z-of_z}
use Rattle.std.proofs.lemmas.List.{get_or_default}
use Rattle.std.proofs.lemmas.List.Edits.{map_over_more}
use Rattle.belief.specs.Quotients.{quotients}
use Rattle.belief.proofs.Lowest.{whole}
use Rattle.belief.proofs.divisors.divide.Goals as goal

pub returns-then-divisor-eq1 : goal.returns-then-divisor-eq1
returns-then-divisor-eq1 c = whole c.args.numbers.now c.requires.each ∙ ap (λ (d : ℕ). quotients d c.args.numbers.now) (sym c.if-divisor-eq1.true)

pub loop-number-preserved : goal.loop-number-preserved
loop-number-preserved c =
    let x : ℤ = get_or c.loop-number.numbers c.loop-number.number-index (pos 0) in
    let fits : FitsSigned w128 x = search rules in
    let within : c.loop-number.number-index < length c.args.numbers.now = omega arith in
    let quotient_fits : FitsSigned w128 c.quotient.result = search rules in
    let is = simp to_z-of_z at c.quotient.ensures in
    let written = map_over_more (λ (y : ℤ). pos (unsigned_abs y / c.args.divisor)) c.args.numbers.now c.loop-number.numbers c.loop-number.number-index x within c.loop-number.invariant
    (get_or_default c.loop-number.numbers c.loop-number.number-index (pos 0) x (omega arith)) in
    simp to_z-of_z (ap (set c.loop-number.numbers c.loop-number.number-index) is ∙ written)
