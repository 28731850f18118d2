-- The belief of a mass has as many places as the mass.
use Rattle.std.proofs.Common.{◌≡◌, List, length, ap, sym, ◌∙◌, arith}
use Rattle.std.proofs.lemmas.Int.{by_lt_z, ints}
use Rattle.std.proofs.lemmas.List.{length-map, length-set}
use Rattle.std.specs.Prelude.{ℤ, pos, ◌+ℤ◌, ◌-ℤ◌, ◌*ℤ◌, ◌<ℤ◌}
use Rattle.scaled_num.specs.Share.{at}
use Rattle.scaled_num.specs.Sums.{sum_of}
use Rattle.belief.specs.Reduced.{AreLowest, IsReduced, IsSharedOut, most_total}

lowest-long : (numbers lowest : List ℤ) → AreLowest numbers lowest → length lowest ≡ length numbers
lowest-long numbers lowest h = sym (length-map lowest (λ x. pos h.divisor *ℤ x)) ∙ sym (ap length h.times)

shared-long : (weights parts : List ℤ) → most_total <ℤ sum_of weights → IsSharedOut weights parts → length parts ≡ length weights
shared-long weights parts l h =
    let top = h.shared.some (above (sum_of weights) l) in
    lowest-long h.shares parts h.lowest ∙ ap length top.topped ∙ length-set top.floors top.place (at top.floors top.place +ℤ (most_total -ℤ sum_of top.floors)) ∙ top.are_floors.same_length
  where
    above : (x : ℤ) → most_total <ℤ x → pos 0 <ℤ x
    above x l = omega (arith, ints)

pub reduced-long : (mass parts : List ℤ) → IsReduced mass parts → length parts ≡ length mass
reduced-long mass parts h =
    by_lt_z most_total (sum_of h.lowest)
    (λ l. shared-long h.lowest parts l (h.heavy l) ∙ lowest-long mass h.lowest h.are_lowest)
    (λ l. ap length (h.light l) ∙ lowest-long mass h.lowest h.are_lowest)
