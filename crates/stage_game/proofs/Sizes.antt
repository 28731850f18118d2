-- How large the numbers of stage programs are: nothing negative is divided, and no quotient is above the scale.
use Rattle.std.proofs.Common.{◌≡◌, ℕ, suc, ◌+◌, ◌-◌, ◌*◌, ◌^◌, ◌<◌, ◌≤◌, max, ap, arith, sym, ◌∙◌, subst}
use Rattle.std.specs.Prelude.{ℤ, pos, negsuc, neg_ℤ, ◌+ℤ◌, ◌*ℤ◌, ◌≤ℤ◌, ◌<ℤ◌, unsigned_abs, FitsSigned}
use Rattle.std.specs.Int.{w128}
use Rattle.std.proofs.lemmas.Int.{ints, fits_signed_from_abs}
use Rattle.std.proofs.lemmas.Nat.{mul-le}
use Rattle.std.proofs.Math.Nat.{mul-le-mul_left, mul-le-mul_right}
use Rattle.scaled_num.proofs.Products.{magnitude-is}
use Rattle.game_model.specs.Game.{GameData, IsGame, reward_at, span, unit}
use Rattle.game_model.proofs.Games.{keeps-span}
use Rattle.game_model.proofs.Worth.{span-small}
use Rattle.alpha_set.proofs.Wide.{wide}
use Rattle.stage_game.specs.Scaling.{most_scale, paid_above, pay_width, scale, width}

abbrev pub whole : GameData → ℕ
whole g = unsigned_abs g.shape.row_total

abbrev pub over : GameData → ℕ
over g = unsigned_abs g.shape.discount.0

abbrev pub under : GameData → ℕ
under g = unsigned_abs g.shape.discount.1

-- the width as a number
abbrev pub wideness : GameData → ℕ
wideness g = max 1 (2 * span g)

-- the limits of a game as bounds of plain numbers
pub record Limits (g : GameData) : Type 0 where
  pub row_total : g.shape.row_total ≡ pos (whole g)
  pub numerator : g.shape.discount.0 ≡ pos (over g)
  pub denominator : g.shape.discount.1 ≡ pos (under g)
  pub some_whole : 1 ≤ whole g
  pub whole_small : whole g ≤ 2 ^ 30
  pub below : over g < under g
  pub under_small : under g ≤ 2 ^ 20
  pub span_small : span g ≤ 2 ^ 66
  pub rule : whole g * span g * under g ≤ 2 ^ 88

pub limits : (g : GameData) → IsGame g → Limits g
limits g h =
    let d = h.shape.row_total.0 in
    let e = h.shape.row_total.1 in
    let p = h.shape.discount.0 in
    let q = h.shape.discount.1 in
    let u = h.shape.discount.2 in
    record {
      row_total = magnitude-is g.shape.row_total (omega (arith, ints));
      numerator = magnitude-is g.shape.discount.0 p;
      denominator = magnitude-is g.shape.discount.1 (omega (arith, ints));
      some_whole = omega (arith, ints);
      whole_small = omega (arith, ints);
      below = omega (arith, ints);
      under_small = omega (arith, ints);
      span_small = span-small g h;
      rule = wide g h;
    }

-- a scaled number of times at most the width: positive divisor, not negative, at most the scale times the divisor
pub record IsQuotient (k : ℕ) (a b : ℤ) : Type 0 where
  pub divisor : pos 0 <ℤ b
  pub low : pos 0 ≤ℤ a
  pub high : a ≤ℤ (pos k *ℤ b)
  pub small : unsigned_abs a ≤ 2 ^ 110
  pub divisor_small : unsigned_abs b ≤ 2 ^ 100

pub roomy : {k : ℕ} {a b : ℤ} → IsQuotient k a b → a ≤ℤ pos (2 ^ 126)
roomy q = let small = q.small in omega (arith, ints)

quotient-of : (k n m : ℕ) → 1 ≤ m → n ≤ k * m → n ≤ 2 ^ 110 → m ≤ 2 ^ 100 → IsQuotient k (pos n) (pos m)
quotient-of k n m some most small divisor_small = record {
  divisor = omega (arith, ints);
  low = omega (arith, ints);
  high = omega (arith, ints);
  small = small;
  divisor_small = divisor_small;
}

-- what a stage pays, raised, is at least 0 and at most twice what the span loses by the discount
pub paid-bounds : (r : ℤ) (u q v l : ℕ) → u * unsigned_abs r * q ≤ v * l → (pos 0 ≤ℤ (pos (u * q) *ℤ r +ℤ pos (v * l))) × (unsigned_abs (pos (u * q) *ℤ r +ℤ pos (v * l)) ≤ 2 * (v * l))
paid-bounds (pos r) u q v l h =
    let e : pos (u * q) *ℤ pos r ≡ pos (u * r * q) = ap pos (omega arith) in
    (omega (arith, ints, e), omega (arith, ints, e))
paid-bounds (negsuc r) u q v l h =
    let e : pos (u * q) *ℤ negsuc r ≡ neg_ℤ (pos (u * suc r * q)) = turned (u * q) r ∙ ap (λ (n : ℕ). neg_ℤ (pos n)) (omega arith) in
    (omega (arith, ints, e), omega (arith, ints, e))
  where
    turned : (k r : ℕ) → pos k *ℤ negsuc r ≡ neg_ℤ (pos (k * suc r))
    turned k r = omega (arith, ints)

pub paid-quotient : (g : GameData) → IsGame g → (bits s a c : ℕ) → 2 ^ bits ≤ most_scale → s < g.shape.states → a < g.shape.own_actions → c < g.shape.informed_actions →
    IsQuotient (2 ^ bits) (paid_above g bits s a c) (pay_width g)
paid-quotient g h bits s a c few ls la lc =
    let n = limits g h in
    let v : ℕ = span g in
    let q : ℕ = under g in
    let l : ℕ = q - over g in
    let k : ℕ = 2 ^ bits in
    let inner : ℤ = pos (unit * q) *ℤ reward_at g s a c +ℤ pos (v * l) in
    let b = paid-bounds (reward_at g s a c) unit q v l ((keeps-span g h).rewards s a c ls la lc) in
    let most : unsigned_abs inner ≤ 2 * (v * l) = b.1 in
    let is : paid_above g bits s a c ≡ pos (k * unsigned_abs inner) = ap (λ (z : ℤ). pos k *ℤ z) (magnitude-is inner b.0) in
    let less : v * l ≤ v * q = mul-le-mul_left v (omega arith) in
    let upto : unsigned_abs inner ≤ q * wideness g = plain (unsigned_abs inner) v l q most less in
    let all : k * unsigned_abs inner ≤ k * (q * wideness g) = mul-le-mul_left k upto in
    let some : 1 ≤ q * wideness g = mul-le 1 1 q (wideness g) (omega arith) (omega arith) in
    let span_size : v * q ≤ 2 ^ 66 * 2 ^ 20 = mul-le v q (2 ^ 66) (2 ^ 20) n.span_small n.under_small in
    let whole_size : k * unsigned_abs inner ≤ 2 ^ 10 * (2 * (2 ^ 66 * 2 ^ 20)) = mul-le k (unsigned_abs inner) (2 ^ 10) (2 * (2 ^ 66 * 2 ^ 20)) few (omega arith) in
    let width_size : q * wideness g ≤ 2 ^ 20 * 2 ^ 68 = mul-le q (wideness g) (2 ^ 20) (2 ^ 68) n.under_small (omega arith) in
    let made : IsQuotient k (pos (k * unsigned_abs inner)) (pos (q * wideness g)) = quotient-of k (k * unsigned_abs inner) (q * wideness g) some all (omega arith) (omega arith) in
    subst (λ (z : ℤ). IsQuotient k z (pay_width g)) (sym is) made
  where
    plain : (i v l q : ℕ) → i ≤ 2 * (v * l) → v * l ≤ v * q → i ≤ q * max 1 (2 * v)
    plain i v l q most less = let up : q * (2 * v) ≤ q * max 1 (2 * v) = mul-le-mul_left q (omega arith) in omega arith

pub width-small : (g : GameData) → IsGame g → whole g * under g * wideness g ≤ 2 ^ 90
width-small g h =
    let n = limits g h in
    let both : whole g * under g ≤ 2 ^ 30 * 2 ^ 20 = mul-le (whole g) (under g) (2 ^ 30) (2 ^ 20) n.whole_small n.under_small in
    plain (whole g) (under g) (span g) n.rule both
  where
    plain : (d q v : ℕ) → d * v * q ≤ 2 ^ 88 → d * q ≤ 2 ^ 50 → d * q * max 1 (2 * v) ≤ 2 ^ 90
    plain d q v rule both =
        let up : d * q * max 1 (2 * v) ≤ d * q * (1 + 2 * v) = mul-le-mul_left (d * q) (omega arith) in
        omega arith

-- what going on with a node brings, where the entries raised by the span and averaged give n
pub brings-quotient : (g : GameData) → IsGame g → (bits : ℕ) → 2 ^ bits ≤ most_scale → (sum : ℤ) → pos 0 ≤ℤ sum → unsigned_abs sum ≤ whole g * (2 * span g) →
    IsQuotient (2 ^ bits) (scale bits *ℤ pos (over g) *ℤ sum) (pos (whole g * under g) *ℤ width g)
brings-quotient g h bits few sum low high =
    let n = limits g h in
    let k : ℕ = 2 ^ bits in
    let i : ℕ = unsigned_abs sum in
    let is : scale bits *ℤ pos (over g) *ℤ sum ≡ pos (k * over g * i) = ap (λ (z : ℤ). pos (k * over g) *ℤ z) (magnitude-is sum low) in
    let some : 1 ≤ whole g * under g * wideness g = mul-le 1 1 (whole g * under g) (wideness g) (mul-le 1 1 (whole g) (under g) n.some_whole (omega arith)) (omega arith) in
    let first : over g * i ≤ under g * (whole g * (2 * span g)) = mul-le (over g) i (under g) (whole g * (2 * span g)) (omega arith) high in
    let upto : over g * i ≤ whole g * under g * wideness g = plain (over g * i) (whole g) (under g) (span g) first in
    let all : k * over g * i ≤ k * (whole g * under g * wideness g) = turned k (over g) i (whole g * under g * wideness g) (mul-le-mul_left k upto) in
    let size : k * (over g * i) ≤ 2 ^ 10 * 2 ^ 90 = mul-le k (over g * i) (2 ^ 10) (2 ^ 90) few (omega (arith, width-small g h)) in
    let made : IsQuotient k (pos (k * over g * i)) (pos (whole g * under g * wideness g)) =
    quotient-of k (k * over g * i) (whole g * under g * wideness g) some all (omega arith) (omega (arith, width-small g h)) in
    subst (λ (z : ℤ). IsQuotient k z (pos (whole g * under g) *ℤ width g)) (sym is) made
  where
    plain : (x d q v : ℕ) → x ≤ q * (d * (2 * v)) → x ≤ d * q * max 1 (2 * v)
    plain x d q v l = let up : d * q * (2 * v) ≤ d * q * max 1 (2 * v) = mul-le-mul_left (d * q) (omega arith) in omega arith

    turned : (k p i m : ℕ) → k * (p * i) ≤ k * m → k * p * i ≤ k * m
    turned k p i m l = omega arith

-- what going on with a next state of this weight brings
pub state-quotient : (g : GameData) → IsGame g → (bits : ℕ) → 2 ^ bits ≤ most_scale → (weight : ℕ) → weight ≤ whole g →
    IsQuotient (2 ^ bits) (scale bits *ℤ pos (over g * weight)) (pos (under g * whole g))
state-quotient g h bits few weight light =
    let n = limits g h in
    let k : ℕ = 2 ^ bits in
    let upto : over g * weight ≤ under g * whole g = mul-le (over g) weight (under g) (whole g) (omega arith) light in
    let divisor : under g * whole g ≤ 2 ^ 20 * 2 ^ 30 = mul-le (under g) (whole g) (2 ^ 20) (2 ^ 30) n.under_small n.whole_small in
    let some : 1 ≤ under g * whole g = mul-le 1 1 (under g) (whole g) (omega arith) n.some_whole in
    let size : k * (over g * weight) ≤ 2 ^ 10 * (2 ^ 20 * 2 ^ 30) = mul-le k (over g * weight) (2 ^ 10) (2 ^ 20 * 2 ^ 30) few (omega arith) in
    quotient-of k (k * (over g * weight)) (under g * whole g) some (mul-le-mul_left k upto) (omega arith) (omega arith)

-- a part of a belief over its total
pub share-quotient : (bits : ℕ) → 2 ^ bits ≤ most_scale → (part whole : ℤ) → pos 0 ≤ℤ part → part ≤ℤ whole → pos 1 ≤ℤ whole → whole ≤ℤ pos (2 ^ 20) →
    IsQuotient (2 ^ bits) (scale bits *ℤ part) whole
share-quotient bits few (pos p) (pos w) low high some most =
    let size : 2 ^ bits * p ≤ 2 ^ 10 * 2 ^ 20 = mul-le (2 ^ bits) p (2 ^ 10) (2 ^ 20) few (omega (arith, ints)) in
    let upto : p ≤ w = omega (arith, ints) in
    quotient-of (2 ^ bits) (2 ^ bits * p) w (omega (arith, ints)) (mul-le-mul_left (2 ^ bits) upto) (omega arith) (omega (arith, ints))
share-quotient bits few (pos p) (negsuc w) low high some most = absurd (omega (arith, ints))
share-quotient bits few (negsuc p) whole low high some most = absurd (omega (arith, ints))

-- what a point's belief is worth over its total, where its value is within the span
pub worth-quotient : (g : GameData) → IsGame g → (bits : ℕ) → 2 ^ bits ≤ most_scale → (value whole : ℤ) → pos 1 ≤ℤ whole → whole ≤ℤ pos (2 ^ 20) →
    neg_ℤ (pos (span g) *ℤ whole) ≤ℤ value → value ≤ℤ (pos (span g) *ℤ whole) →
    IsQuotient (2 ^ bits) (scale bits *ℤ (value +ℤ pos (span g) *ℤ whole)) (width g *ℤ whole)
worth-quotient g h bits few value (negsuc w) some most low high = absurd (omega (arith, ints))
worth-quotient g h bits few value (pos w) some most low high =
    let n = limits g h in
    let k : ℕ = 2 ^ bits in
    let raised : ℤ = value +ℤ pos (span g * w) in
    let i : ℕ = unsigned_abs raised in
    let is : scale bits *ℤ raised ≡ pos (k * i) = ap (λ (z : ℤ). pos k *ℤ z) (magnitude-is raised (omega (arith, ints))) in
    let double : i ≤ 2 * (span g * w) = omega (arith, ints) in
    let upto : i ≤ wideness g * w = plain i (span g) w double in
    let some_width : 1 ≤ wideness g * w = mul-le 1 1 (wideness g) w (omega arith) (omega (arith, ints)) in
    let width_size : wideness g * w ≤ 2 ^ 68 * 2 ^ 20 = mul-le (wideness g) w (2 ^ 68) (2 ^ 20) (omega arith) (omega (arith, ints)) in
    let size : k * i ≤ 2 ^ 10 * (2 ^ 68 * 2 ^ 20) = mul-le k i (2 ^ 10) (2 ^ 68 * 2 ^ 20) few (omega arith) in
    let made : IsQuotient k (pos (k * i)) (pos (wideness g * w)) = quotient-of k (k * i) (wideness g * w) some_width (mul-le-mul_left k upto) (omega arith) (omega arith) in
    subst (λ (z : ℤ). IsQuotient k z (pos (wideness g * w))) (sym is) made
  where
    plain : (i v w : ℕ) → i ≤ 2 * (v * w) → i ≤ max 1 (2 * v) * w
    plain i v w l = let up : 2 * v * w ≤ max 1 (2 * v) * w = mul-le-mul_right w (omega arith) in omega arith

-- numbers and products that the code forms fit
pub number-fits : (a : ℤ) (m : ℕ) → a ≡ pos m → m ≤ 2 ^ 120 → FitsSigned w128 a
number-fits a m e h = subst (λ (z : ℤ). FitsSigned w128 z) (sym e) (fits_signed_from_abs w128 (pos m) (omega arith))

pub product-is : (a b : ℤ) (m n : ℕ) → a ≡ pos m → b ≡ pos n → a *ℤ b ≡ pos (m * n)
product-is a b m n e f = ap (λ (z : ℤ). z *ℤ b) e ∙ ap (λ (z : ℤ). pos m *ℤ z) f

pub product-fits : (a b : ℤ) (m n : ℕ) → a ≡ pos m → b ≡ pos n → m * n ≤ 2 ^ 120 → FitsSigned w128 (a *ℤ b)
product-fits a b m n e f h = number-fits (a *ℤ b) (m * n) (product-is a b m n e f) h
