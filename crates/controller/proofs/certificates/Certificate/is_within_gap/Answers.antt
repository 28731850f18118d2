use Rattle.std.proofs.Common.{List, ℕ, ◌≡◌, ◌≤◌, ◌^◌, ◌*◌, arith, rules, subst, sym}
use Rattle.std.specs.Prelude.{ℤ, pos, unsigned_abs, FitsSigned, ◌+ℤ◌, ◌*ℤ◌, ◌≤ℤ◌}
use Rattle.std.specs.List.{AllByRecursion}
use Rattle.std.specs.Int.{w128}
use Rattle.std.proofs.lemmas.Int.{ints, to_z-of_z}
use Rattle.game_model.specs.Game.{GameData, IsWithin, unit}
use Rattle.controller.specs.Certificates.{first_total}
use Rattle.controller.specs.Starts.{most_from}
use Rattle.controller.proofs.StartSums.{from-within}
use Rattle.controller.proofs.Gap.{TimesFits, gap-from, gap-to, times-fits, within-size}
use Rattle.controller.proofs.Remainders.{numbers-from, numbers-to}
use Rattle.controller.proofs.certificates.Certificate.is_within_gap.Goals as goal

size : (x : ℤ) → pos 1 ≤ℤ x → x ≤ℤ pos (2 ^ 36) → unsigned_abs x ≤ 2 ^ 36
size x low high = omega (arith, ints)

positive : (x : ℤ) (n : ℕ) → x ≡ pos n → pos 1 ≤ℤ x → 1 ≤ n
positive x n e low = omega (arith, ints, e, low)

room : (x b : ℤ) → IsWithin (pos 0) (pos (2 ^ 40)) x → pos 1 ≤ℤ b → b ≤ℤ pos (2 ^ 36) → TimesFits x b
room x b w low high = times-fits x b (2 ^ 40) (2 ^ 36) (within-size x 0 (2 ^ 40) w) (size b low high) (omega arith) (omega arith) (omega arith)

pub sum_of_weights-from-requires : goal.sum_of_weights-from-requires
sum_of_weights-from-requires c =
    let fits = rw (← c.self.view_is) at c.requires.fits in
    subst (λ (starts : List (ℕ × ℤ)). AllByRecursion (λ (start : ℕ × ℤ). IsWithin (pos 1) (pos most_from) start.1) starts) (sym c.deref.ensures.value)
    (from-within _ _ (pos most_from) fits.starts.from)

pub overflow_mul-self-inside : goal.overflow_mul-self-inside
overflow_mul-self-inside c =
    let fits = rw (← c.self.view_is) at c.requires.fits in
    let f = room c.self.inside.gap.num c.bound_scale.result fits.gap.0 c.bound_scale.ensures.low c.bound_scale.ensures.small in
    let first = f.first in
    let second = f.second in
    simp to_z-of_z f.product

pub divided-gap-requires-clause-over : goal.divided-gap-requires-clause-over
divided-gap-requires-clause-over c =
    let fits = rw (← c.self.view_is) at c.requires.fits in
    let f = room c.self.inside.gap.num c.bound_scale.result fits.gap.0 c.bound_scale.ensures.low c.bound_scale.ensures.small in
    let first = f.first in
    let second = f.second in
    let product = f.product in
    simp to_z-of_z f.small

pub returns : goal.returns
returns c =
    let g : GameData = c.args.game.now in
    let k = c.self.inside in
    let fits = rw (← c.self.view_is) at c.requires.fits in
    let bounds = rw (← c.self.view_is) at c.requires.bounds in
    let f = room k.gap.num c.bound_scale.result fits.gap.0 c.bound_scale.ensures.low c.bound_scale.ensures.small in
    let gap_fits = f.first in
    let scale_fits = f.second in
    let product = f.product in
    let lower_fits : FitsSigned w128 k.lower.num = search rules in
    let upper_fits : FitsSigned w128 k.upper.num = search rules in
    let under_fits : FitsSigned w128 k.gap.den = search rules in
    let multiple_fits : FitsSigned w128 k.multiple = search rules in
    let from_fits : FitsSigned w128 c.sum_of_weights-from.result = search rules in
    let lower = simp to_z-of_z at c.divided-lower.ensures in
    let upper = simp to_z-of_z at c.divided-upper.ensures in
    let gap = simp to_z-of_z at c.divided-gap.ensures in
    let scale : c.bound_scale.result ≡ pos (first_total g * unit) = c.bound_scale.ensures.exact in
    let from = c.sum_of_weights-from.ensures in
    let some : 1 ≤ first_total g * unit = positive c.bound_scale.result (first_total g * unit) scale c.bound_scale.ensures.low in
    let lower_den : k.lower.den ≡ c.sum_of_weights-from.result *ℤ pos (first_total g * unit) = simp (c.deref.ensures.value, from) bounds.0.1 in
    let U = k.upper.num in
    let L = k.lower.num in
    let X = c.sum_of_weights-from.result in
    let N = k.multiple in
    let h = k.gap.den in
    rw (← c.self.view_is) (
      λ t. gap-from U L k.gap.num h X N k.upper.den k.lower.den (first_total g * unit) bounds.1.1 lower_den
          (subst (λ (z : ℤ). (U *ℤ (X *ℤ h)) ≤ℤ (L *ℤ (N *ℤ h) +ℤ (k.gap.num *ℤ z) *ℤ (N *ℤ X))) scale
          (numbers-from c.divided-upper.result c.divided-lower.result c.divided-gap.result U N L X (k.gap.num *ℤ c.bound_scale.result) h upper lower gap (c.is_at_most_sum.ensures.0 t))),
      λ within. c.is_at_most_sum.ensures.1
          (numbers-to c.divided-upper.result c.divided-lower.result c.divided-gap.result U N L X (k.gap.num *ℤ c.bound_scale.result) h upper lower gap
          (subst (λ (z : ℤ). (U *ℤ (X *ℤ h)) ≤ℤ (L *ℤ (N *ℤ h) +ℤ (k.gap.num *ℤ z) *ℤ (N *ℤ X))) (sym scale)
          (gap-to U L k.gap.num h X N k.upper.den k.lower.den (first_total g * unit) bounds.1.1 lower_den some within))),
    )
