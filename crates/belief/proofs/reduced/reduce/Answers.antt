use Rattle.std.proofs.Common.{refl, subst, true≢false}
use Rattle.std.specs.Prelude.{ℕ}
use Rattle.std.proofs.Math.Nat.{eq-zero_of_zero-dvd}
use Rattle.std.specs.List.{AllByRecursion}
use Rattle.scaled_num.proofs.Divisors.{Divides}
use Rattle.belief.proofs.Lowest.{zeros-divided, zeros-from}
use Rattle.belief.proofs.reduced.reduce.Goals as goal

pub returns-then-divisor-eq0-clause-none : goal.returns-then-divisor-eq0-clause-none
returns-then-divisor-eq0-clause-none c =
    (λ none. zeros-from c.args.mass.now (subst (λ (d : ℕ). AllByRecursion (Divides d) c.args.mass.now) c.if-divisor-eq0.true c.common_divisor-divisor.ensures.divides), λ zeros. refl)

pub returns-clause-none : goal.returns-clause-none
returns-clause-none c =
    (λ none. absurd (true≢false none), λ zeros. absurd (c.if-divisor-eq0.false (eq-zero_of_zero-dvd (c.common_divisor-divisor.ensures.greatest 0 (zeros-divided c.args.mass.now 0 zeros)))))
