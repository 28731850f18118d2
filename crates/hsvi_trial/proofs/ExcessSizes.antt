-- How large an excess is.
use Rattle.std.proofs.Common.{◌≡◌, ℕ, ◌*◌, ◌^◌, ◌≤◌, List, sym, subst, arith}
use Rattle.std.specs.Prelude.{ℤ, pos, neg_ℤ, FitsSigned, unsigned_abs, ◌-ℤ◌, ◌*ℤ◌, ◌≤ℤ◌}
use Rattle.std.specs.Int.{w128}
use Rattle.std.proofs.Math.Nat.{mul-le-mul, mul-le-mul_left, mul-le-mul_right}
use Rattle.std.proofs.lemmas.Int.{fits_signed_from_abs, ints, unsigned_abs-mul}
use Rattle.scaled_num.specs.Share.{IsFloor}
use Rattle.scaled_num.specs.Sums.{sum_of}
use Rattle.scaled_num.proofs.Products.{magnitude-is}
use Rattle.game_model.specs.Game.{GameData, IsGame, IsMass, IsWithin, greatest_reward, span, unit}
use Rattle.game_model.specs.Spans.{IsWithinSpan}
use Rattle.point_set.proofs.Worth.{Widths, widths}
use Rattle.hsvi_trial.proofs.ZeroSums.{sum-low}

-- what an excess is made of fits
pub record ExcessFits (high low threshold total : ℤ) : Type 0 where
  pub allowed : FitsSigned w128 (threshold *ℤ total)
  pub apart : FitsSigned w128 (high -ℤ low)
  pub beyond : FitsSigned w128 (high -ℤ low -ℤ threshold *ℤ total)
  pub weighted : (own whole : ℤ) → IsWithin (pos 0) (pos 65536) own → IsFloor whole (high -ℤ low -ℤ threshold *ℤ total) (pos unit) → FitsSigned w128 (own *ℤ whole)

room : (D P Q R V : ℕ) → Widths D P Q R V → 2 ^ 36 * D * V ≤ 2 ^ 124
room D P Q R V w =
    let narrow = w.narrow in
    let more : 2 ^ 36 * D * V ≤ 2 ^ 36 * D * (65536 * R * Q) = mul-le-mul_left (2 ^ 36 * D) w.spans in
    let once : D * Q * R * 1 ≤ D * Q * R * Q = mul-le-mul_left (D * Q * R) w.some in
    omega arith

-- the span times a mass
pub span-mass : (g : GameData) → IsGame g → (mass : List ℤ) → IsMass g mass → pos 0 ≤ℤ sum_of mass → span g * unsigned_abs (sum_of mass) ≤ 2 ^ 124
span-mass g game mass right low =
    let D : ℕ = unsigned_abs g.shape.row_total in
    let some = game.shape.row_total.0 in
    let row : g.shape.row_total ≡ pos D = magnitude-is g.shape.row_total (omega (arith, ints)) in
    let few : unsigned_abs (sum_of mass) ≤ 2 ^ 36 * D = plain (sum_of mass) D low (subst (λ (z : ℤ). sum_of mass ≤ℤ (pos (2 ^ 36) *ℤ z)) row right.most) in
    let more : span g * unsigned_abs (sum_of mass) ≤ span g * (2 ^ 36 * D) = mul-le-mul_left (span g) few in
    let all = room D (unsigned_abs g.shape.discount.0) (unsigned_abs g.shape.discount.1) (greatest_reward g) (span g) (widths g game) in
    omega arith
  where
    plain : (x : ℤ) (d : ℕ) → pos 0 ≤ℤ x → x ≤ℤ (pos (2 ^ 36) *ℤ pos d) → unsigned_abs x ≤ 2 ^ 36 * d
    plain x d l h = omega (arith, ints)

pub sizes : (K : ℕ) (high low allowed : ℤ) → K ≤ 2 ^ 124 → IsWithin (neg_ℤ (pos K)) (pos K) high → IsWithin (neg_ℤ (pos K)) (pos K) low → IsWithin (pos 0) (pos (2 * K)) allowed → unsigned_abs (high -ℤ low -ℤ allowed) ≤ 2 ^ 126
sizes K high low allowed l h k m =
    let a = h.0 in let b = h.1 in let c = k.0 in let d = k.1 in let e = m.0 in let f = m.1 in omega (arith, ints)

apart-size : (K : ℕ) (high low : ℤ) → K ≤ 2 ^ 124 → IsWithin (neg_ℤ (pos K)) (pos K) high → IsWithin (neg_ℤ (pos K)) (pos K) low → unsigned_abs (high -ℤ low) ≤ 2 ^ 126
apart-size K high low l h k = let a = h.0 in let b = h.1 in let c = k.0 in let d = k.1 in omega (arith, ints)

floor-size : (q x : ℤ) → IsFloor q x (pos 65536) → unsigned_abs x ≤ 2 ^ 126 → unsigned_abs q ≤ 2 ^ 110
floor-size q x f h = let a = f.low in let b = f.high in omega (arith, ints)

weighted-size : (own whole : ℤ) → IsWithin (pos 0) (pos 65536) own → unsigned_abs whole ≤ 2 ^ 110 → unsigned_abs (own *ℤ whole) ≤ 2 ^ 126
weighted-size own whole h l =
    let small : unsigned_abs own ≤ 65536 = let a = h.0 in let b = h.1 in omega (arith, ints) in
    let both : unsigned_abs own * unsigned_abs whole ≤ 65536 * 2 ^ 110 = mul-le-mul {n₁ = unsigned_abs own} small l in
    rw (unsigned_abs-mul own whole) (omega arith)

sum-fits : (g : GameData) → IsGame g → (mass : List ℤ) → IsMass g mass → pos 0 ≤ℤ sum_of mass → (high low threshold : ℤ) → IsWithinSpan g mass high → IsWithinSpan g mass low → IsWithin (pos 0) (pos (2 * span g)) threshold →
    ExcessFits high low threshold (sum_of mass)
sum-fits g game mass right positive high low threshold h k t = record {
  allowed = fits_signed_from_abs w128 (threshold *ℤ sum_of mass) (let a = allowed.0 in let b = allowed.1 in omega (arith, ints, few));
  apart = fits_signed_from_abs w128 (high -ℤ low) (omega (arith, apart-size K high low few up down));
  beyond = fits_signed_from_abs w128 (high -ℤ low -ℤ threshold *ℤ sum_of mass) (omega (arith, size));
  weighted = λ own whole within floor. fits_signed_from_abs w128 (own *ℤ whole) (omega (arith, weighted-size own whole within (floor-size whole _ floor size)));
}
  where
    n : ℕ
    n = unsigned_abs (sum_of mass)

    K : ℕ
    K = span g * n

    few : K ≤ 2 ^ 124
    few = span-mass g game mass right positive

    is : sum_of mass ≡ pos n
    is = magnitude-is (sum_of mass) positive

    up : IsWithin (neg_ℤ (pos K)) (pos K) high
    up = subst (λ (z : ℤ). IsWithin (neg_ℤ (pos (span g) *ℤ z)) (pos (span g) *ℤ z) high) is h

    down : IsWithin (neg_ℤ (pos K)) (pos K) low
    down = subst (λ (z : ℤ). IsWithin (neg_ℤ (pos (span g) *ℤ z)) (pos (span g) *ℤ z) low) is k

    within : (V m : ℕ) (x : ℤ) → IsWithin (pos 0) (pos (2 * V)) x → IsWithin (pos 0) (pos (2 * (V * m))) (x *ℤ pos m)
    within V m x i =
        let a = i.0 in
        let b = i.1 in
        let abs : x ≡ pos (unsigned_abs x) = magnitude-is x a in
        let most : unsigned_abs x * m ≤ 2 * V * m = mul-le-mul_right m (omega (arith, ints)) in
        subst (λ (y : ℤ). IsWithin (pos 0) (pos (2 * (V * m))) (y *ℤ pos m)) (sym abs) (omega (arith, ints), omega (arith, ints))

    allowed : IsWithin (pos 0) (pos (2 * K)) (threshold *ℤ sum_of mass)
    allowed = subst (λ (z : ℤ). IsWithin (pos 0) (pos (2 * K)) (threshold *ℤ z)) (sym is) (within (span g) n threshold t)

    size : unsigned_abs (high -ℤ low -ℤ threshold *ℤ sum_of mass) ≤ 2 ^ 126
    size = sizes K high low (threshold *ℤ sum_of mass) few up down allowed

-- what an excess is made of fits, where a mass is of the game
pub excess-fits : (g : GameData) → IsGame g → (mass : List ℤ) → IsMass g mass → (high low threshold sum : ℤ) → sum ≡ sum_of mass →
    IsWithinSpan g mass high → IsWithinSpan g mass low → IsWithin (pos 0) (pos (2 * span g)) threshold → ExcessFits high low threshold sum
excess-fits g game mass right high low threshold sum same h k t = subst (λ (z : ℤ). ExcessFits high low threshold z) (sym same) (sum-fits g game mass right (sum-low mass right.each) high low threshold h k t)
