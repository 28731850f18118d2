use Rattle.std.proofs.Common.{◌≡◌, ℕ, ap, get_or, rules, subst, ◌∙◌}
use Rattle.std.specs.Prelude.{ℤ, pos, unsigned_abs, FitsSigned}
use Rattle.std.specs.Int.{IsGcd, w128}
use Rattle.std.proofs.lemmas.Int.{to_z-of_z}
use Rattle.scaled_num.proofs.Divisors.{next-divisor}
use Rattle.scaled_num.proofs.lists.common_divisor.Goals as goal

pub loop-number-preserved : goal.loop-number-preserved
loop-number-preserved c =
    let x : ℤ = get_or c.args.numbers.now c.loop-number.number-index (pos 0) in
    let fits : FitsSigned w128 x = search rules in
    let size : c.unsigned_abs.result ≡ unsigned_abs x = c.unsigned_abs.ensures.value ∙ ap unsigned_abs (to_z-of_z w128 x fits) in
    next-divisor c.args.numbers.now c.loop-number.number-index (pos 0) c.loop-number.divisor _ c.loop-number-test.true c.loop-number.invariant
    (subst (λ (n : ℕ). IsGcd c.loop-number.divisor n c.gcd-divisor.result) size c.gcd-divisor.ensures)
