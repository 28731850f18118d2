-- What the code forms on the way to what a stage pays.
use Rattle.std.proofs.Common.{◌≡◌, ℕ, ◌-◌, ◌*◌, ◌^◌, ◌<◌, ◌≤◌, refl, ap, arith, ◌∙◌}
use Rattle.std.specs.Prelude.{ℤ, pos, neg_ℤ, ◌+ℤ◌, ◌-ℤ◌, ◌*ℤ◌, ◌≤ℤ◌, unsigned_abs, FitsSigned}
use Rattle.std.specs.Int.{w128}
use Rattle.std.proofs.lemmas.Int.{ints, fits_signed_from_abs, unsigned_abs-mul}
use Rattle.std.proofs.lemmas.Nat.{mul-le}
use Rattle.game_model.specs.Game.{GameData, IsGame, reward_at, span, unit}
use Rattle.game_model.proofs.Games.{keeps-span, reward-in}
use Rattle.stage_game.specs.Scaling.{most_scale, paid_above, scale}
use Rattle.stage_game.proofs.Sizes.{limits, number-fits, over, paid-bounds, under}

abbrev pub earned : GameData → ℕ → ℕ → ℕ → ℤ
earned g s a c = pos 65536 *ℤ g.shape.discount.1 *ℤ reward_at g s a c

abbrev pub raise : GameData → ℤ
raise g = pos (span g) *ℤ (g.shape.discount.1 -ℤ g.shape.discount.0)

pub record PaidFits (g : GameData) (bits s a c : ℕ) : Type 0 where
  pub span_fits : FitsSigned w128 (pos (span g))
  pub over_fits : FitsSigned w128 g.shape.discount.0
  pub under_fits : FitsSigned w128 g.shape.discount.1
  pub reward_fits : FitsSigned w128 (reward_at g s a c)
  pub scale_fits : FitsSigned w128 (scale bits)
  pub room_fits : FitsSigned w128 (g.shape.discount.1 -ℤ g.shape.discount.0)
  pub raise_fits : FitsSigned w128 (raise g)
  pub units_fits : FitsSigned w128 (pos 65536 *ℤ g.shape.discount.1)
  pub earned_fits : FitsSigned w128 (earned g s a c)
  pub sum_fits : FitsSigned w128 (earned g s a c +ℤ raise g)
  pub all_fits : FitsSigned w128 (scale bits *ℤ (earned g s a c +ℤ raise g))
  pub is : scale bits *ℤ (earned g s a c +ℤ raise g) ≡ paid_above g bits s a c

pub paid-fits : (g : GameData) → IsGame g → (bits s a c : ℕ) → 2 ^ bits ≤ most_scale → s < g.shape.states → a < g.shape.own_actions → c < g.shape.informed_actions → PaidFits g bits s a c
paid-fits g h bits s a c few ls la lc =
    let n = limits g h in
    let v : ℕ = span g in
    let q : ℕ = under g in
    let l : ℕ = q - over g in
    let r : ℤ = reward_at g s a c in
    let range = (reward-in g h s a c ls la lc).0 in
    let r_size : unsigned_abs r ≤ 2 ^ 30 = small r range.0 range.1 in
    let room : g.shape.discount.1 -ℤ g.shape.discount.0 ≡ pos l = difference g.shape.discount.1 g.shape.discount.0 q (over g) n.denominator n.numerator n.below in
    let raise_is : raise g ≡ pos (v * l) = ap (λ (z : ℤ). pos v *ℤ z) room in
    let raise_size : v * l ≤ 2 ^ 66 * 2 ^ 20 = mul-le v l (2 ^ 66) (2 ^ 20) n.span_small (omega (arith, n.under_small)) in
    let units_is : pos 65536 *ℤ g.shape.discount.1 ≡ pos (65536 * q) = ap (λ (z : ℤ). pos 65536 *ℤ z) n.denominator in
    let units_abs : unsigned_abs (pos 65536 *ℤ g.shape.discount.1) ≤ 2 ^ 36 = rw units_is (omega (arith, n.under_small)) in
    let earned_size : unsigned_abs (earned g s a c) ≤ 2 ^ 36 * 2 ^ 30 =
    rw (unsigned_abs-mul (pos 65536 *ℤ g.shape.discount.1) r) (mul-le (unsigned_abs (pos 65536 *ℤ g.shape.discount.1)) (unsigned_abs r) (2 ^ 36) (2 ^ 30) units_abs r_size) in
    let inner : ℤ = pos (unit * q) *ℤ r +ℤ pos (v * l) in
    let b = paid-bounds r unit q v l ((keeps-span g h).rewards s a c ls la lc) in
    let sum_is : earned g s a c +ℤ raise g ≡ inner = ap (λ (z : ℤ). z *ℤ r +ℤ raise g) units_is ∙ ap (λ (z : ℤ). pos (65536 * q) *ℤ r +ℤ z) raise_is in
    let inner_size : unsigned_abs inner ≤ 2 * (2 ^ 66 * 2 ^ 20) = omega (arith, b.1) in
    let sum_size : unsigned_abs (earned g s a c +ℤ raise g) ≤ 2 * (2 ^ 66 * 2 ^ 20) = rw sum_is inner_size in
    let all_size : unsigned_abs (scale bits *ℤ (earned g s a c +ℤ raise g)) ≤ 2 ^ 10 * (2 * (2 ^ 66 * 2 ^ 20)) =
    rw (unsigned_abs-mul (scale bits) (earned g s a c +ℤ raise g)) (mul-le (2 ^ bits) (unsigned_abs (earned g s a c +ℤ raise g)) (2 ^ 10) (2 * (2 ^ 66 * 2 ^ 20)) few sum_size) in
    record {
      span_fits = number-fits (pos v) v refl (omega (arith, n.span_small));
      over_fits = number-fits g.shape.discount.0 (over g) n.numerator (omega (arith, n.below, n.under_small));
      under_fits = number-fits g.shape.discount.1 q n.denominator (omega (arith, n.under_small));
      reward_fits = fits_signed_from_abs w128 r (omega arith);
      scale_fits = number-fits (scale bits) (2 ^ bits) refl (omega arith);
      room_fits = number-fits _ l room (omega (arith, n.under_small));
      raise_fits = number-fits (raise g) (v * l) raise_is (omega arith);
      units_fits = fits_signed_from_abs w128 (pos 65536 *ℤ g.shape.discount.1) (omega arith);
      earned_fits = fits_signed_from_abs w128 (earned g s a c) (omega arith);
      sum_fits = fits_signed_from_abs w128 (earned g s a c +ℤ raise g) (omega arith);
      all_fits = fits_signed_from_abs w128 (scale bits *ℤ (earned g s a c +ℤ raise g)) (omega arith);
      is = ap (λ (z : ℤ). scale bits *ℤ z) sum_is;
    }
  where
    small : (r : ℤ) → (neg_ℤ (pos (2 ^ 30))) ≤ℤ r → r ≤ℤ (pos (2 ^ 30)) → unsigned_abs r ≤ 2 ^ 30
    small r l h = omega (arith, ints)

    difference : (x y : ℤ) (q p : ℕ) → x ≡ pos q → y ≡ pos p → p < q → x -ℤ y ≡ pos (q - p)
    difference x y q p e f l = omega (arith, ints)
