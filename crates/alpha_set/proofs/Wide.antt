-- The width rule, and how large both sides of the node rule are under it.
use Rattle.std.proofs.Common.{◌≡◌, ℕ, ◌-◌, ◌*◌, ◌^◌, ◌≤◌, ◌⊎◌, inl, inr, max, List, [], ◌∷◌, refl, ap, arith, subst, ◌∙◌}
use Rattle.std.specs.Prelude.{ℤ, pos, ◌+ℤ◌, ◌*ℤ◌, ◌≤ℤ◌, unsigned_abs, FitsSigned, fold}
use Rattle.std.specs.List.{AllByRecursion}
use Rattle.std.specs.Int.{w128}
use Rattle.std.proofs.Math.Nat.{mul-le-mul_left, mul-le-mul_right}
use Rattle.std.proofs.lemmas.Int.{ints, fits_signed_from_abs, unsigned_abs-mul}
use Rattle.std.proofs.lemmas.Nat.{mul-le}
use Rattle.game_model.specs.Game.{GameData, IsGame, IsNarrow, IsRewardInRange, greatest_reward, span, unit}
use Rattle.game_model.specs.Branches.{mix_total}
use Rattle.game_model.proofs.Worth.{divisor-is, span-small, ceil-small}
use Rattle.alpha_set.proofs.Rows.{most}
use Rattle.alpha_set.proofs.Totals.{abs-within}
use Rattle.scaled_num.proofs.Products.{abs-add, magnitude-is}

abbrev whole : GameData → ℕ
whole g = unsigned_abs g.shape.row_total

abbrev over : GameData → ℕ
over g = unsigned_abs g.shape.discount.0

abbrev under : GameData → ℕ
under g = unsigned_abs g.shape.discount.1

-- the width rule in plain numbers
narrow-abs : (g : GameData) → IsGame g → (r : ℤ) → IsNarrow g.shape r → whole g * under g * under g * max 1 (unsigned_abs r) ≤ 2 ^ 72
narrow-abs g h r narrow =
    let d = h.shape.row_total.0 in
    let p = h.shape.discount.0 in
    let q = h.shape.discount.1 in
    let m : ℕ = max 1 (unsigned_abs r) in
    let first : g.shape.row_total ≡ pos (whole g) = magnitude-is g.shape.row_total (omega (arith, ints)) in
    let second : g.shape.discount.1 ≡ pos (under g) = magnitude-is g.shape.discount.1 (omega (arith, ints)) in
    let is : g.shape.row_total *ℤ g.shape.discount.1 *ℤ g.shape.discount.1 *ℤ pos m ≡ pos (whole g * under g * under g * m) =
    ap (λ (z : ℤ). z *ℤ g.shape.discount.1 *ℤ g.shape.discount.1 *ℤ pos m) first ∙ ap (λ (z : ℤ). pos (whole g) *ℤ z *ℤ z *ℤ pos m) second in
    plain (subst (λ (z : ℤ). z ≤ℤ pos (2 ^ 72)) is narrow)
  where
    plain : {n : ℕ} → pos n ≤ℤ pos (2 ^ 72) → n ≤ 2 ^ 72
    plain {n} h = omega (arith, ints)

greater : (n r : ℕ) → (max n r ≤ n) ⊎ (max n r ≤ max 1 r)
greater n r = search arith

fold-narrow : (w : ℕ) (rewards : List ℤ) (n : ℕ) → w * n ≤ 2 ^ 72 → AllByRecursion (λ r. w * max 1 (unsigned_abs r) ≤ 2 ^ 72) rewards → w * fold (λ most r. max most (unsigned_abs r)) n rewards ≤ 2 ^ 72
fold-narrow w [] n l h = l
fold-narrow w (r ∷ rs) n l h = fold-narrow w rs (max n (unsigned_abs r)) (both (greater n (unsigned_abs r))) h.1
  where
    both : (max n (unsigned_abs r) ≤ n) ⊎ (max n (unsigned_abs r) ≤ max 1 (unsigned_abs r)) → w * max n (unsigned_abs r) ≤ 2 ^ 72
    both (inl b) = omega (arith, mul-le-mul_left w b)
    both (inr b) = omega (arith, mul-le-mul_left w b, h.0)

each-narrow : (g : GameData) → IsGame g → (rewards : List ℤ) → AllByRecursion (λ r. IsRewardInRange r × IsNarrow g.shape r) rewards → AllByRecursion (λ r. whole g * under g * under g * max 1 (unsigned_abs r) ≤ 2 ^ 72) rewards
each-narrow g h [] all = tt
each-narrow g h (r ∷ rs) all = (narrow-abs g h r all.0.1, each-narrow g h rs all.1)

-- the row total times the span times the discount's denominator
pub wide : (g : GameData) → IsGame g → whole g * span g * under g ≤ 2 ^ 88
wide g h =
    let p = h.shape.discount.0 in
    let q = h.shape.discount.1 in
    let some : 1 ≤ under g - over g = omega (arith, ints) in
    let n : ℕ = unit * greatest_reward g * under g in
    let spans : span g ≤ n = ceil-small n (under g - over g) some in
    let rule : whole g * under g * under g * greatest_reward g ≤ 2 ^ 72 = fold-narrow (whole g * under g * under g) g.rewards 0 (omega arith) (each-narrow g h g.rewards h.rewards) in
    let up : whole g * span g * under g ≤ whole g * n * under g = mul-le-mul_right (under g) (mul-le-mul_left (whole g) spans) in
    plain (whole g) (under g) (greatest_reward g) (span g) up rule
  where
    plain : (d q r s : ℕ) → d * s * q ≤ d * (unit * r * q) * q → d * q * q * r ≤ 2 ^ 72 → d * s * q ≤ 2 ^ 88
    plain d q r s up rule = omega arith

-- both sides of the node rule as the code finds them
abbrev pub scale : GameData → ℤ
scale g = g.shape.row_total *ℤ g.shape.discount.1

abbrev pub right_side : GameData → ℤ → ℤ → ℤ
right_side g paid later = (pos 65536 *ℤ scale g) *ℤ paid +ℤ g.shape.discount.0 *ℤ later

pub record SidesFit (g : GameData) (entry paid later : ℤ) : Type 0 where
  pub whole_fits : FitsSigned w128 g.shape.row_total
  pub over_fits : FitsSigned w128 g.shape.discount.0
  pub under_fits : FitsSigned w128 g.shape.discount.1
  pub entry_fits : FitsSigned w128 entry
  pub paid_fits : FitsSigned w128 paid
  pub later_fits : FitsSigned w128 later
  pub scale_fits : FitsSigned w128 (scale g)
  pub units_fits : FitsSigned w128 (pos 65536 *ℤ scale g)
  pub earned_fits : FitsSigned w128 ((pos 65536 *ℤ scale g) *ℤ paid)
  pub rest_fits : FitsSigned w128 (g.shape.discount.0 *ℤ later)
  pub right_fits : FitsSigned w128 (right_side g paid later)
  pub left_fits : FitsSigned w128 (entry *ℤ (pos 65536 *ℤ scale g))

rest-plain : (P Q D V m x : ℕ) → P ≤ Q → x ≤ 6 * (D * (m * V)) → m ≡ 65536 → D * V * Q ≤ 2 ^ 88 → P * x ≤ 2 ^ 107
rest-plain P Q D V m x less upto e rule =
    let first : P * x ≤ Q * x = mul-le-mul_right x less in
    let second : Q * x ≤ Q * (6 * (D * (m * V))) = mul-le-mul_left Q upto in
    let third : Q * (6 * (D * (m * V))) ≡ Q * (6 * (D * (65536 * V))) = ap (λ (k : ℕ). Q * (6 * (D * (k * V)))) e in
    omega arith

left-plain : (Q D V x : ℕ) → x ≤ V → D * V * Q ≤ 2 ^ 88 → x * (65536 * (D * Q)) ≤ 2 ^ 104
left-plain Q D V x upto rule =
    let first : x * (65536 * (D * Q)) ≤ V * (65536 * (D * Q)) = mul-le-mul_right (65536 * (D * Q)) upto in
    omega arith

pub sides-fit : (g : GameData) → IsGame g → (entry paid later : ℤ) → unsigned_abs entry ≤ span g → unsigned_abs paid ≤ 2 ^ 49 → unsigned_abs later ≤ 6 * (whole g * most g) → SidesFit g entry paid later
sides-fit g h entry paid later e_small p_small l_small =
    let p = h.shape.discount.0 in
    let q = h.shape.discount.1 in
    let u = h.shape.discount.2 in
    let d_size : whole g ≤ 2 ^ 30 = abs-within g.shape.row_total (2 ^ 30) h.shape.row_total in
    let q_size : under g ≤ 2 ^ 20 = omega (arith, ints) in
    let p_less : over g ≤ under g = omega (arith, ints) in
    let v_size : span g ≤ 2 ^ 66 = span-small g h in
    let rule = wide g h in
    let scale_is : unsigned_abs (scale g) ≡ whole g * under g = unsigned_abs-mul g.shape.row_total g.shape.discount.1 in
    let scale_size : unsigned_abs (scale g) ≤ 2 ^ 50 = rw scale_is (mul-le (whole g) (under g) (2 ^ 30) (2 ^ 20) d_size q_size) in
    let units_is : unsigned_abs (pos 65536 *ℤ scale g) ≡ 65536 * (whole g * under g) = unsigned_abs-mul (pos 65536) (scale g) ∙ ap (λ (k : ℕ). 65536 * k) scale_is in
    let units_size : unsigned_abs (pos 65536 *ℤ scale g) ≤ 2 ^ 66 = rw units_is (omega (arith, scale_is)) in
    let earned_size : unsigned_abs ((pos 65536 *ℤ scale g) *ℤ paid) ≤ 2 ^ 115 =
    rw (unsigned_abs-mul (pos 65536 *ℤ scale g) paid) (mul-le (unsigned_abs (pos 65536 *ℤ scale g)) (unsigned_abs paid) (2 ^ 66) (2 ^ 49) units_size p_small) in
    let rest_size : unsigned_abs (g.shape.discount.0 *ℤ later) ≤ 2 ^ 107 =
    rw (unsigned_abs-mul g.shape.discount.0 later) (rest-plain (over g) (under g) (whole g) (span g) mix_total (unsigned_abs later) p_less l_small refl rule) in
    let left_size : unsigned_abs (entry *ℤ (pos 65536 *ℤ scale g)) ≤ 2 ^ 104 =
    rw (unsigned_abs-mul entry (pos 65536 *ℤ scale g), units_is) (left-plain (under g) (whole g) (span g) (unsigned_abs entry) e_small rule) in
    let later_size : unsigned_abs later ≤ 2 ^ 115 = omega (arith, mul-le (whole g) (most g) (2 ^ 30) (2 ^ 82) d_size (omega arith)) in
    record {
      whole_fits = fits_signed_from_abs w128 g.shape.row_total (omega arith);
      over_fits = fits_signed_from_abs w128 g.shape.discount.0 (omega arith);
      under_fits = fits_signed_from_abs w128 g.shape.discount.1 (omega arith);
      entry_fits = fits_signed_from_abs w128 entry (omega arith);
      paid_fits = fits_signed_from_abs w128 paid (omega arith);
      later_fits = fits_signed_from_abs w128 later (omega arith);
      scale_fits = fits_signed_from_abs w128 (scale g) (omega arith);
      units_fits = fits_signed_from_abs w128 (pos 65536 *ℤ scale g) (omega arith);
      earned_fits = fits_signed_from_abs w128 ((pos 65536 *ℤ scale g) *ℤ paid) (omega arith);
      rest_fits = fits_signed_from_abs w128 (g.shape.discount.0 *ℤ later) (omega arith);
      right_fits = fits_signed_from_abs w128 (right_side g paid later) (omega (arith, abs-add ((pos 65536 *ℤ scale g) *ℤ paid) (g.shape.discount.0 *ℤ later)));
      left_fits = fits_signed_from_abs w128 (entry *ℤ (pos 65536 *ℤ scale g)) (omega arith);
    }

-- the sides are those of the rule
pub units-are : (g : GameData) → IsGame g → pos 65536 *ℤ scale g ≡ pos (65536 * whole g * under g)
units-are g h = ap (λ (z : ℤ). pos 65536 *ℤ z) (divisor-is g h) ∙ ap pos (plain (whole g) (under g))
  where
    plain : (d q : ℕ) → 65536 * (d * q) ≡ 65536 * d * q
    plain d q = omega arith

pub right-is : (g : GameData) → IsGame g → (paid later : ℤ) → right_side g paid later ≡ pos (unit * whole g * under g) *ℤ paid +ℤ pos (over g) *ℤ later
right-is g h paid later =
    ap (λ (z : ℤ). z *ℤ paid +ℤ g.shape.discount.0 *ℤ later) (units-are g h)
    ∙ ap (λ (z : ℤ). pos (unit * whole g * under g) *ℤ paid +ℤ z *ℤ later) (magnitude-is g.shape.discount.0 h.shape.discount.0)

pub left-is : (g : GameData) → IsGame g → (entry : ℤ) → entry *ℤ (pos 65536 *ℤ scale g) ≡ entry *ℤ pos (mix_total * whole g * under g)
left-is g h entry = ap (λ (z : ℤ). entry *ℤ z) (units-are g h)
