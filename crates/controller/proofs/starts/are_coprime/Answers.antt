use Rattle.std.proofs.Common.{◌≡◌, ℕ, ap, get_or, rules, subst, ◌∙◌}
use Rattle.std.specs.Prelude.{ℤ, unsigned_abs, FitsSigned}
use Rattle.std.specs.Int.{IsGcd, w128}
use Rattle.std.proofs.lemmas.Int.{to_z-of_z}
use Rattle.controller.proofs.StartTests.{coprime-from, divisor-one, next-weight, no_start}
use Rattle.controller.proofs.starts.are_coprime.Goals as goal

pub loop-start-preserved : goal.loop-start-preserved
loop-start-preserved c =
    let x : ℤ = (get_or c.args.starts.now c.loop-start.start-index no_start).1 in
    let fits : FitsSigned w128 x = search rules in
    let size : c.unsigned_abs.result ≡ unsigned_abs x = c.unsigned_abs.ensures.value ∙ ap unsigned_abs (to_z-of_z w128 x fits) in
    next-weight c.args.starts.now c.loop-start.start-index c.loop-start.divisor _ c.loop-start-test.true c.loop-start.invariant
    (subst (λ (n : ℕ). IsGcd c.loop-start.divisor n c.gcd-divisor.result) size c.gcd-divisor.ensures)

pub returns : goal.returns
returns c = (
  λ t. let one : c.loop-start.divisor ≡ 1 = search rules in coprime-from c.args.starts.now c.loop-start.start-index c.loop-start.divisor c.loop-start-test.false c.loop-start.invariant one,
  λ h. let one : c.loop-start.divisor ≡ 1 = divisor-one c.args.starts.now c.loop-start.start-index c.loop-start.divisor c.loop-start-test.false c.loop-start.invariant h in search rules,
)
