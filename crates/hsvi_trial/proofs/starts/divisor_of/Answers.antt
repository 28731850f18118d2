use Rattle.std.proofs.Common.{ap, arith, length, rules, subst, ◌<◌, ◌≡◌, ◌∙◌, ℕ}
use Rattle.std.specs.Prelude.{FitsSigned, unsigned_abs}
use Rattle.std.specs.Int.{IsGcd, w128}
use Rattle.std.proofs.lemmas.Int.{to_z-of_z}
use Rattle.hsvi_trial.proofs.Weights.{divisor-divides, divisor-greatest, divisor-next}
use Rattle.hsvi_trial.proofs.starts.divisor_of.Goals as goal

pub loop-i-preserved : goal.loop-i-preserved
loop-i-preserved c =
    let fits : FitsSigned w128 c.item.result.1 = search rules in
    let size : c.unsigned_abs.result ≡ unsigned_abs c.item.result.1 = c.unsigned_abs.ensures.value ∙ ap unsigned_abs (to_z-of_z w128 c.item.result.1 fits) in
    let inside : c.loop-i.i < length c.args.split.now = omega arith in
    divisor-next c.args.split.now c.loop-i.i c.loop-i.divisor _ c.item.result inside c.item.ensures c.loop-i.invariant
    (subst (λ (n : ℕ). IsGcd c.loop-i.divisor n c.gcd-divisor.result) size c.gcd-divisor.ensures)

pub returns-clause-divides : goal.returns-clause-divides
returns-clause-divides c = divisor-divides c.args.split.now c.loop-i.i c.loop-i.divisor (omega arith) c.loop-i.invariant

pub returns-clause-greatest : goal.returns-clause-greatest
returns-clause-greatest c = divisor-greatest c.args.split.now c.loop-i.i c.loop-i.divisor (omega arith) c.loop-i.invariant
