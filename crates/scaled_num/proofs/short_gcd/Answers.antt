use Rattle.std.proofs.Common.{arith}
use Rattle.std.proofs.lemmas.Nat.Gcd.{IsGcd-from_zero, IsGcd-from_mod}
use Rattle.scaled_num.proofs.Divisors.{IsGcd-from_one}
use Rattle.scaled_num.proofs.short_gcd.Goals as goal

pub loop-y-preserved : goal.loop-y-preserved
loop-y-preserved c g h = c.loop-y.invariant g (IsGcd-from_mod _ _ g h)

pub returns-then-y-eq1 : goal.returns-then-y-eq1
returns-then-y-eq1 c = c.loop-y.invariant 1 (IsGcd-from_one _ _ (omega arith))

pub returns-else-y-eq1 : goal.returns-else-y-eq1
returns-else-y-eq1 c = c.loop-y.invariant _ (IsGcd-from_zero _ _ (omega arith))
