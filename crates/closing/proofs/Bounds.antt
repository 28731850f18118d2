-- Certificates whose bounds are no worse.
use Rattle.std.proofs.Common.{◌≡◌, ◌≤◌, arith, refl, sym, subst, ◌∙◌}
use Rattle.std.specs.Prelude.{ℤ, pos, unsigned_abs, ◌*ℤ◌, ◌≤ℤ◌}
use Rattle.std.proofs.lemmas.Int.{ints}
use Rattle.scaled_num.proofs.Products.{le-mulℤ, magnitude-is, mulℤ_comm, products, sums}
use Rattle.controller.specs.Certificates.{CertificateData, CertificateFits, CertificateStands, FractionData, IsShort}
use Rattle.controller.specs.Concluded.{EndsByGap}
use Rattle.controller.proofs.Gap.{le-cancel}
use Rattle.game_model.specs.Game.{GameData}
use Rattle.closing.specs.Closer.{IsBetter, IsNoWorse}

-- ---- the order of fractions
-- a fraction is at most itself, and at most one of the same denominator with a numerator that is not less
at-most-same : (f g : FractionData) → f ≡ g → (f.num *ℤ g.den) ≤ℤ (g.num *ℤ f.den)
at-most-same f g e = rw e (itself (g.num *ℤ g.den))
  where
    itself : (z : ℤ) → z ≤ℤ z
    itself z = omega (arith, ints)

pub at-most-by : (f g : FractionData) → pos 0 ≤ℤ g.den → f.den ≡ g.den → f.num ≤ℤ g.num → (f.num *ℤ g.den) ≤ℤ (g.num *ℤ f.den)
at-most-by f g positive e l =
    let scaled : (pos (unsigned_abs g.den) *ℤ f.num) ≤ℤ (pos (unsigned_abs g.den) *ℤ g.num) = le-mulℤ (unsigned_abs g.den) f.num g.num l in
    let turned : (g.den *ℤ f.num) ≤ℤ (g.den *ℤ g.num) = subst (λ (d : ℤ). (d *ℤ f.num) ≤ℤ (d *ℤ g.num)) (sym (magnitude-is g.den positive)) scaled in
    rw e (omega (arith, sums, turned, mulℤ_comm g.den f.num, mulℤ_comm g.den g.num))

-- through a fraction between two others
at-most-through : (p q r s t u : ℤ) → pos 0 ≤ℤ q → pos 1 ≤ℤ s → pos 0 ≤ℤ u → (p *ℤ s) ≤ℤ (r *ℤ q) → (r *ℤ u) ≤ℤ (t *ℤ s) → (p *ℤ u) ≤ℤ (t *ℤ q)
at-most-through p q r s t u lq ls lu first last =
    let one : (u *ℤ (p *ℤ s)) ≤ℤ (u *ℤ (r *ℤ q)) = scaled u (p *ℤ s) (r *ℤ q) lu first in
    let other : (q *ℤ (r *ℤ u)) ≤ℤ (q *ℤ (t *ℤ s)) = scaled q (r *ℤ u) (t *ℤ s) lq last in
    let whole : (s *ℤ (p *ℤ u)) ≤ℤ (s *ℤ (t *ℤ q)) = omega (arith, sums, one, other, turn u p s, turn u r q, turn-last q r u, turn q t s) in
    le-cancel (unsigned_abs s) (p *ℤ u) (t *ℤ q) (some s ls) (subst (λ (z : ℤ). (z *ℤ (p *ℤ u)) ≤ℤ (z *ℤ (t *ℤ q))) (magnitude-is s (low s ls)) whole)
  where
    scaled : (k a b : ℤ) → pos 0 ≤ℤ k → a ≤ℤ b → (k *ℤ a) ≤ℤ (k *ℤ b)
    scaled k a b h l = subst (λ (z : ℤ). (z *ℤ a) ≤ℤ (z *ℤ b)) (sym (magnitude-is k h)) (le-mulℤ (unsigned_abs k) a b l)

    turn : (u p s : ℤ) → u *ℤ (p *ℤ s) ≡ s *ℤ (p *ℤ u)
    turn u p s = simp products (omega (arith, sums))

    turn-last : (q r u : ℤ) → q *ℤ (r *ℤ u) ≡ q *ℤ (r *ℤ u)
    turn-last q r u = refl

    some : (s : ℤ) → pos 1 ≤ℤ s → 1 ≤ unsigned_abs s
    some s l = omega (arith, ints)

    low : (s : ℤ) → pos 1 ≤ℤ s → pos 0 ≤ℤ s
    low s l = omega (arith, ints)

pub no-worse-same : (given k : CertificateData) → k.lower ≡ given.lower → k.upper ≡ given.upper → IsNoWorse given k
no-worse-same given k lower upper = record {
  lower = at-most-same given.lower k.lower (sym lower);
  upper = at-most-same k.upper given.upper upper;
}

positive : (f : FractionData) → IsShort f → pos 0 ≤ℤ f.den
positive f short = let low = short.1 in omega (arith, ints)

pub no-worse-through : (g : GameData) (first next last : CertificateData) → CertificateFits g first → CertificateFits g next → CertificateFits g last → IsNoWorse first next → IsNoWorse next last → IsNoWorse first last
no-worse-through g first next last ff fn fl one other = record {
  lower = at-most-through first.lower.num first.lower.den next.lower.num next.lower.den last.lower.num last.lower.den
      (positive first.lower ff.short.0) fn.short.0.1 (positive last.lower fl.short.0) one.lower other.lower;
  upper = at-most-through last.upper.num last.upper.den next.upper.num next.upper.den first.upper.num first.upper.den
      (positive last.upper fl.short.1) fn.short.1.1 (positive first.upper ff.short.1) other.upper one.upper;
}

-- ---- better certificates
pub better-through : (g : GameData) (first next last : CertificateData) → CertificateFits g first → IsBetter g first next → IsBetter g next last → IsBetter g first last
better-through g first next last fits one other = record {
  stands = other.stands;
  gap = other.gap ∙ one.gap;
  no_worse = no-worse-through g first next last fits one.stands.fits other.stands.fits one.no_worse other.no_worse;
  ends = other.ends;
}

-- a certificate that stands with the bounds, the gap and the outcome of another
pub better-same : (g : GameData) (given k : CertificateData) → CertificateStands g k → k.gap ≡ given.gap → k.lower ≡ given.lower → k.upper ≡ given.upper → k.outcome ≡ given.outcome → EndsByGap given → IsBetter g given k
better-same g given k stands gap lower upper outcome ends = record {
  stands = stands;
  gap = gap;
  no_worse = no-worse-same given k lower upper;
  ends = rw (gap, lower, upper, outcome) ends;
}
