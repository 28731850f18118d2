-- A quotient rounded up is the least number whose product with the divisor is no less.
use Rattle.std.proofs.Common.{◌≡◌, ℕ, zero, suc, ◌^◌, ◌+◌, ◌-◌, ◌*◌, ◌/◌, ◌≤◌, ap, arith, refl}
use Rattle.game_model.specs.Bounds.{span_from}
use Rattle.game_model.specs.Game.{IsShape}
use Rattle.game_model.specs.declared.parts.Shape.{Shape}
use Rattle.std.specs.Prelude.{ℤ, pos, negsuc, unsigned_abs, FitsSigned, ◌-ℤ◌, ◌+ℤ◌, ◌*ℤ◌, ◌≤ℤ◌, ◌<ℤ◌}
use Rattle.std.specs.Int.{w128}
use Rattle.std.proofs.lemmas.Int.{ints, fits_signed_from_abs, unsigned_abs-mul}
use Rattle.std.proofs.lemmas.Nat.{le-div, div_below, mul-le}
use Rattle.scaled_num.proofs.Products.{magnitude-is}

pub ceil-is : (w : ℤ) (n room : ℕ) → 1 ≤ room → pos n ≤ℤ (w *ℤ pos room) → (w *ℤ pos room) <ℤ (pos n +ℤ pos room) → w ≡ pos ((n + room - 1) / room)
ceil-is (pos k) n room some high low =
    let up = le-div k (n + room - 1) room some (omega (arith, ints)) in
    let down = div_below (n + room - 1) room (suc k) some (omega (arith, ints)) in
    ap pos (omega arith)
ceil-is (negsuc k) n zero some high low = absurd (omega arith)
ceil-is (negsuc k) n (suc r) some high low = absurd (omega (arith, ints))

pub span-is : (shape : Shape) (most w : ℤ) → IsShape shape → pos 0 ≤ℤ most →
    ((pos 65536 *ℤ most) *ℤ shape.discount.1) ≤ℤ (w *ℤ (shape.discount.1 -ℤ shape.discount.0)) →
    (w *ℤ (shape.discount.1 -ℤ shape.discount.0)) <ℤ ((pos 65536 *ℤ most) *ℤ shape.discount.1 +ℤ (shape.discount.1 -ℤ shape.discount.0)) →
    w ≡ pos (span_from shape (unsigned_abs most))
span-is shape most w h positive high low =
    let p = h.discount.0 in
    let q = h.discount.1 in
    let under : ℤ = shape.discount.1 in
    let over : ℤ = shape.discount.0 in
    let room : ℕ = unsigned_abs under - unsigned_abs over in
    let room-is : under -ℤ over ≡ pos room = omega (arith, ints) in
    let n-is : (pos 65536 *ℤ most) *ℤ under ≡ pos (65536 * unsigned_abs most * unsigned_abs under) = rw (magnitude-is most positive, magnitude-is under (omega (arith, ints))) refl in
    ceil-is w (65536 * unsigned_abs most * unsigned_abs under) room (omega (arith, ints))
    (rw (n-is, room-is) at high) (rw (n-is, room-is) at low)

-- what the code forms on the way fits
pub record SpanFits (shape : Shape) (most : ℤ) : Type 0 where
  pub over : FitsSigned w128 shape.discount.0
  pub under : FitsSigned w128 shape.discount.1
  pub two : FitsSigned w128 (pos 65536 *ℤ most)
  pub three : FitsSigned w128 ((pos 65536 *ℤ most) *ℤ shape.discount.1)
  pub room : FitsSigned w128 (shape.discount.1 -ℤ shape.discount.0)

room-small : (p q : ℤ) → pos 0 ≤ℤ p → p <ℤ q → q ≤ℤ pos (2 ^ 20) → unsigned_abs (q -ℤ p) ≤ 2 ^ 20
room-small p q low mid high = omega (arith, ints)

pub span-fits : (shape : Shape) (most : ℤ) → IsShape shape → pos 0 ≤ℤ most → most ≤ℤ pos (2 ^ 30) → SpanFits shape most
span-fits shape most h low high =
    let p = h.discount.0 in
    let q = h.discount.1 in
    let r = h.discount.2 in
    let over : ℤ = shape.discount.0 in
    let under : ℤ = shape.discount.1 in
    let two : unsigned_abs (pos 65536 *ℤ most) ≤ 2 ^ 46 = rw (unsigned_abs-mul (pos 65536) most) (omega (arith, ints)) in
    let three : unsigned_abs ((pos 65536 *ℤ most) *ℤ under) ≤ 2 ^ 66 =
    rw (unsigned_abs-mul (pos 65536 *ℤ most) under) (mul-le (unsigned_abs (pos 65536 *ℤ most)) (unsigned_abs under) (2 ^ 46) (2 ^ 20) two (omega (arith, ints))) in
    record {
      over = fits_signed_from_abs w128 over (omega (arith, ints));
      under = fits_signed_from_abs w128 under (omega (arith, ints));
      two = fits_signed_from_abs w128 (pos 65536 *ℤ most) (omega arith);
      three = fits_signed_from_abs w128 ((pos 65536 *ℤ most) *ℤ under) (omega arith);
      room = fits_signed_from_abs w128 (under -ℤ over) (omega (arith, room-small over under p q r));
    }
