-- Fractions are told apart by their numbers.
use Rattle.std.proofs.Common.{◌≡◌, ℤ, pos, ◌<ℤ◌, ap, subst}
use lib.Dec.{T_prop}
use Rattle.scaled_num.specs.declared.fractions.Fraction.{Fraction}

abbrev with_numbers : (num den : ℤ) → pos 0 <ℤ den → Fraction
with_numbers num den above = record { num = num; den = den; positive = above }

one_proof : (den : ℤ) → IsProp (pos 0 <ℤ den)
one_proof den = hlevel T_prop

pub same_fraction : (f g : Fraction) → f.num ≡ g.num → f.den ≡ g.den → f ≡ g
same_fraction f g n d =
    subst (λ num. f ≡ with_numbers num g.den g.positive) n
    (subst (λ den. (above : pos 0 <ℤ den) → f ≡ with_numbers f.num den above) d (λ above. ap (with_numbers f.num f.den) (one_proof f.den f.positive above)) g.positive)
