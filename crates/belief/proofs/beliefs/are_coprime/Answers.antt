use Rattle.std.proofs.Common.{rules, ◌≡◌, ℕ, subst}
use Rattle.std.specs.Int.{◌∣◌}
use Rattle.std.proofs.Math.Nat.{eq-one_of_dvd-one}
use Rattle.belief.proofs.beliefs.are_coprime.Goals as goal

pub returns : goal.returns
returns c = (λ one d h. eq-one_of_dvd-one (subst (λ (n : ℕ). d ∣ n) (search rules) (c.common_divisor.ensures.greatest d h)), λ coprime. let one : c.common_divisor.result ≡ 1 = coprime c.common_divisor.result c.common_divisor.ensures.divides in search rules)
