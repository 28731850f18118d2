-- Whether the bounds of a start are near: a test without the start's own numbers.
use Rattle.std.proofs.Common.{◌≡◌, ap, ap₂, sym, subst, ◌∙◌, arith, [], ◌∷◌}
use Rattle.std.proofs.lemmas.Int.{ints}
use Rattle.std.specs.Prelude.{ℤ, pos, ◌-ℤ◌, ◌*ℤ◌, ◌≤ℤ◌, ◌<ℤ◌, ◌↔◌}
use Rattle.scaled_num.proofs.Floors.{cancel, product_le}
use Rattle.scaled_num.proofs.Ring.{ring, x, ◌⊖◌, ◌⊗◌}
use Rattle.controller.specs.Certificates.{FractionData}
use Rattle.hsvi_trial.specs.Starts.{AreNear}

left-is : (y w low units e G : ℤ) →
    ((y *ℤ units -ℤ low *ℤ (w *ℤ units)) *ℤ G) *ℤ e ≡ ((e *ℤ y -ℤ low *ℤ (e *ℤ w)) *ℤ G) *ℤ units
left-is y w low units e G =
    ring (y ∷ w ∷ low ∷ units ∷ e ∷ G ∷ [])
    ((((x 0 ⊗ x 3) ⊖ (x 2 ⊗ (x 1 ⊗ x 3))) ⊗ x 5) ⊗ x 4)
    ((((x 4 ⊗ x 0) ⊖ (x 2 ⊗ (x 4 ⊗ x 1))) ⊗ x 5) ⊗ x 3) (omega arith)

right-is : (w units e A : ℤ) → (A *ℤ (w *ℤ units) *ℤ units) *ℤ e ≡ (A *ℤ ((e *ℤ w) *ℤ units)) *ℤ units
right-is w units e A =
    ring (w ∷ units ∷ e ∷ A ∷ []) (((x 3 ⊗ (x 0 ⊗ x 1)) ⊗ x 1) ⊗ x 2) ((x 3 ⊗ ((x 2 ⊗ x 0) ⊗ x 1)) ⊗ x 1) (omega arith)

weaker : (z : ℤ) → pos 0 <ℤ z → pos 0 ≤ℤ z
weaker z l = omega (arith, ints)

both-times : (a b c d e u : ℤ) → a *ℤ e ≡ c *ℤ u → b *ℤ e ≡ d *ℤ u → pos 0 <ℤ e → pos 0 <ℤ u → c ≤ℤ d → a ≤ℤ b
both-times a b c d e u p q le lu h =
    cancel a b e le (subst (λ (z : ℤ). z ≤ℤ (b *ℤ e)) (sym p) (subst (λ (z : ℤ). (c *ℤ u) ≤ℤ z) (sym q) (product_le c d u (weaker u lu) h)))

-- the test: high is e times the cost y, and whole is e times the multiple w
pub near-test : (y w low units e high whole : ℤ) (gap : FractionData) → pos 0 <ℤ e → pos 0 <ℤ units → e *ℤ y ≡ high → e *ℤ w ≡ whole →
    (((high -ℤ low *ℤ whole) *ℤ gap.den) ≤ℤ (gap.num *ℤ (whole *ℤ units)))
    ↔ AreNear (record { num = low; den = units }) (record { num = y; den = w *ℤ units }) gap
near-test y w low units e high whole gap le lu is_high is_whole = (
  λ h. both-times l r L R e units lefts rights le lu h,
  λ h. both-times L R l r units e (sym lefts) (sym rights) lu le h,
)
  where
    L : ℤ
    L = (high -ℤ low *ℤ whole) *ℤ gap.den

    R : ℤ
    R = gap.num *ℤ (whole *ℤ units)

    l : ℤ
    l = (y *ℤ units -ℤ low *ℤ (w *ℤ units)) *ℤ gap.den

    r : ℤ
    r = gap.num *ℤ (w *ℤ units) *ℤ units

    lefts : l *ℤ e ≡ L *ℤ units
    lefts = left-is y w low units e gap.den ∙ ap₂ (λ (a b : ℤ). ((a -ℤ low *ℤ b) *ℤ gap.den) *ℤ units) is_high is_whole

    rights : r *ℤ e ≡ R *ℤ units
    rights = right-is w units e gap.num ∙ ap (λ (b : ℤ). (gap.num *ℤ (b *ℤ units)) *ℤ units) is_whole
