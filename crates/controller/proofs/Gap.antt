-- The gap of both bounds, over a common scale.
use Rattle.std.proofs.Common.{◌≡◌, ℕ, ◌*◌, ◌^◌, ◌≤◌, ap, arith, sym, subst, ◌∙◌}
use Rattle.std.specs.Prelude.{ℤ, pos, ◌+ℤ◌, ◌-ℤ◌, ◌*ℤ◌, ◌≤ℤ◌, ◌<ℤ◌, unsigned_abs, FitsSigned}
use Rattle.std.specs.Int.{w128}
use Rattle.std.proofs.lemmas.Int.{fits_signed_from_abs, ints, unsigned_abs-mul}
use Rattle.std.proofs.lemmas.Nat.{mul-le}
use Rattle.game_model.specs.Game.{IsWithin}
use Rattle.scaled_num.proofs.Products.{add-mulℤ, le-mulℤ, lt-mulℤ_cancel, mul-addℤ, products, sums}

-- a positive factor of both sides goes
pub le-cancel : (k : ℕ) (a b : ℤ) → 1 ≤ k → (pos k *ℤ a) ≤ℤ (pos k *ℤ b) → a ≤ℤ b
le-cancel k a b some h =
    let one : pos k *ℤ pos 1 ≡ pos k = omega (arith, ints) in
    let more : pos k *ℤ (b +ℤ pos 1) ≡ pos k *ℤ b +ℤ pos k = mul-addℤ (pos k) b (pos 1) ∙ ap (λ (z : ℤ). pos k *ℤ b +ℤ z) one in
    let strict : (pos k *ℤ a) <ℤ (pos k *ℤ (b +ℤ pos 1)) = subst (λ (z : ℤ). (pos k *ℤ a) <ℤ z) (sym more) (omega (arith, ints)) in
    let less : a <ℤ (b +ℤ pos 1) = lt-mulℤ_cancel k a (b +ℤ pos 1) strict in
    omega (arith, ints)

-- upper less lower, and the gap, over the scale T
cross : (U L g h X N T : ℤ) → (U *ℤ (X *ℤ T) -ℤ L *ℤ (N *ℤ T)) *ℤ h +ℤ T *ℤ (L *ℤ (N *ℤ h)) ≡ T *ℤ (U *ℤ (X *ℤ h))
cross U L g h X N T =
    let d : ℤ = U *ℤ (X *ℤ T) -ℤ L *ℤ (N *ℤ T) in
    let back : d +ℤ L *ℤ (N *ℤ T) ≡ U *ℤ (X *ℤ T) = omega (arith, sums) in
    let spread : d *ℤ h +ℤ (L *ℤ (N *ℤ T)) *ℤ h ≡ (U *ℤ (X *ℤ T)) *ℤ h = sym (add-mulℤ d (L *ℤ (N *ℤ T)) h) ∙ ap (λ (z : ℤ). z *ℤ h) back in
    omega (arith, sums, spread, turn L N T h, turn U X T h)
  where
    turn : (L N T h : ℤ) → (L *ℤ (N *ℤ T)) *ℤ h ≡ T *ℤ (L *ℤ (N *ℤ h))
    turn L N T h = simp products (omega (arith, sums))

right : (g X N T : ℤ) → (g *ℤ (N *ℤ T)) *ℤ (X *ℤ T) ≡ T *ℤ ((g *ℤ T) *ℤ (N *ℤ X))
right g X N T = simp products (omega (arith, sums))

pub gap-from : (U L g h X N uden lden : ℤ) (T : ℕ) → uden ≡ N *ℤ pos T → lden ≡ X *ℤ pos T → (U *ℤ (X *ℤ h)) ≤ℤ (L *ℤ (N *ℤ h) +ℤ (g *ℤ pos T) *ℤ (N *ℤ X)) →
    ((U *ℤ lden -ℤ L *ℤ uden) *ℤ h) ≤ℤ (g *ℤ uden *ℤ lden)
gap-from U L g h X N uden lden T eu el most =
    let scaled = le-mulℤ T (U *ℤ (X *ℤ h)) (L *ℤ (N *ℤ h) +ℤ (g *ℤ pos T) *ℤ (N *ℤ X)) most in
    rw (eu, el) (omega (arith, sums, scaled, cross U L g h X N (pos T), right g X N (pos T), mul-addℤ (pos T) (L *ℤ (N *ℤ h)) ((g *ℤ pos T) *ℤ (N *ℤ X))))

pub gap-to : (U L g h X N uden lden : ℤ) (T : ℕ) → uden ≡ N *ℤ pos T → lden ≡ X *ℤ pos T → 1 ≤ T → ((U *ℤ lden -ℤ L *ℤ uden) *ℤ h) ≤ℤ (g *ℤ uden *ℤ lden) →
    (U *ℤ (X *ℤ h)) ≤ℤ (L *ℤ (N *ℤ h) +ℤ (g *ℤ pos T) *ℤ (N *ℤ X))
gap-to U L g h X N uden lden T eu el some within =
    let at : ((U *ℤ (X *ℤ pos T) -ℤ L *ℤ (N *ℤ pos T)) *ℤ h) ≤ℤ (g *ℤ (N *ℤ pos T) *ℤ (X *ℤ pos T)) =
    subst (λ (l : ℤ). ((U *ℤ l -ℤ L *ℤ (N *ℤ pos T)) *ℤ h) ≤ℤ (g *ℤ (N *ℤ pos T) *ℤ l)) el (subst (λ (u : ℤ). ((U *ℤ lden -ℤ L *ℤ u) *ℤ h) ≤ℤ (g *ℤ u *ℤ lden)) eu within) in
    le-cancel T (U *ℤ (X *ℤ h)) (L *ℤ (N *ℤ h) +ℤ (g *ℤ pos T) *ℤ (N *ℤ X)) some
    (omega (arith, sums, at, cross U L g h X N (pos T), right g X N (pos T), mul-addℤ (pos T) (L *ℤ (N *ℤ h)) ((g *ℤ pos T) *ℤ (N *ℤ X))))

-- ---- what the tests form
pub record TimesFits (x y : ℤ) : Type 0 where
  pub first : FitsSigned w128 x
  pub second : FitsSigned w128 y
  pub product : FitsSigned w128 (x *ℤ y)
  pub small : unsigned_abs (x *ℤ y) ≤ 2 ^ 120

pub times-fits : (x y : ℤ) (m n : ℕ) → unsigned_abs x ≤ m → unsigned_abs y ≤ n → m ≤ 2 ^ 120 → n ≤ 2 ^ 120 → m * n ≤ 2 ^ 120 → TimesFits x y
times-fits x y m n lx ly lm ln h =
    let small : unsigned_abs (x *ℤ y) ≤ 2 ^ 120 = rw (unsigned_abs-mul x y) (omega (arith, mul-le (unsigned_abs x) (unsigned_abs y) m n lx ly, h)) in
    record {
      first = fits_signed_from_abs w128 x (omega arith);
      second = fits_signed_from_abs w128 y (omega arith);
      product = fits_signed_from_abs w128 (x *ℤ y) (omega arith);
      small = small;
    }

pub within-size : (x : ℤ) (low most : ℕ) → IsWithin (pos low) (pos most) x → unsigned_abs x ≤ most
within-size x low most w = let first = w.0 in let last = w.1 in omega (arith, ints)

pub within-wider : (x : ℤ) (low high most : ℕ) → high ≤ most → IsWithin (pos low) (pos high) x → IsWithin (pos 0) (pos most) x
within-wider x low high most l w = let first = w.0 in let last = w.1 in (omega (arith, ints), omega (arith, ints))
