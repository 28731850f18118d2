-- The rule of each place of a certificate holds or does not, so a certificate stands, or fails first at one place.
use Rattle.std.proofs.Common.{◌≡◌, ◌⊎◌, ℕ, suc, zero, ◌<◌, List, [], ◌∷◌, arith, subst, sym, inl, inr}
use Rattle.std.proofs.Math.Nat.{eq-or-lt_of_le}
use Rattle.std.specs.Prelude.{ℤ, ◌≤ℤ◌, ◌<ℤ◌}
use Rattle.std.specs.List.{AllByRecursion}
use Rattle.std.proofs.lemmas.Int.{by_lt_z, ints}
use Rattle.std.proofs.lemmas.Bool.{cases_order}
use Rattle.scaled_num.proofs.First.{first-head, first-right}
use Rattle.scaled_num.specs.First.{FirstIn}
use Rattle.cert_check.specs.Verdicts.{StandsOrFails}
use Rattle.controller.specs.Certificates.{BoundAt, CertificateData, CertificateFits, CertificateStands, Closed, CornerAt, Ending, FailsFirst, FractionData, Full, Holds, IsFraction, NodeAt, OutcomeAt, OutcomeHolds, Place, SplitAt, StartAt, Trials, ValueAt, places}
use Rattle.game_model.specs.Game.{GameData}

abbrev pub IsDecided : Type 0 → Type 0
IsDecided P = P ⊎ (P → ⊥)

-- ---- what is decided
both : {P Q : Type 0} → IsDecided P → IsDecided Q → IsDecided (P × Q)
both (inl p) (inl q) = inl (p, q)
both (inl p) (inr n) = inr (λ h. n h.1)
both (inr n) q = inr (λ h. n h.0)

three : {P Q R : Type 0} → IsDecided P → IsDecided Q → IsDecided R → IsDecided (P × Q × R)
three (inl p) (inl q) (inl r) = inl (p, q, r)
three (inl p) (inl q) (inr n) = inr (λ h. n h.2)
three (inl p) (inr n) r = inr (λ h. n h.1)
three (inr n) q r = inr (λ h. n h.0)

negated : {P : Type 0} → IsDecided P → IsDecided (P → ⊥)
negated (inl p) = inr (λ n. n p)
negated (inr n) = inl n

le : (x y : ℤ) → IsDecided (x ≤ℤ y)
le x y = by_lt_z y x (λ l. inr (λ h. less x y h l)) (λ h. inl h)
  where
    less : (x y : ℤ) → x ≤ℤ y → y <ℤ x → ⊥
    less x y h l = omega (arith, ints)

same : (x y : ℤ) → IsDecided (x ≡ y)
same x y = by_lt_z x y (λ l. inr (λ e. below x y e l)) (λ h. by_lt_z y x (λ l. inr (λ e. above x y e l)) (λ k. inl (equal x y h k)))
  where
    below : (x y : ℤ) → x ≡ y → x <ℤ y → ⊥
    below x y e l = omega (arith, ints, e)

    above : (x y : ℤ) → x ≡ y → y <ℤ x → ⊥
    above x y e l = omega (arith, ints, e)

    equal : (x y : ℤ) → y ≤ℤ x → x ≤ℤ y → x ≡ y
    equal x y h k = omega (arith, ints)

same_nat : (n m : ℕ) → IsDecided (n ≡ m)
same_nat n m = elim (cases_order n m) [ inl e ↦ inl e | inr l ↦ inr (apart l) ]
  where
    apart : (n < m) ⊎ (m < n) → n ≡ m → ⊥
    apart (inl l) e = omega (arith, e)
    apart (inr l) e = omega (arith, e)

each_below : (P : ℕ → Type 0) → ((n : ℕ) → IsDecided (P n)) → (n : ℕ) → IsDecided ((s : ℕ) → s < n → P s)
each_below P decided zero = inl (λ s l. absurd (omega arith))
each_below P decided (suc n) = step (decided n) (each_below P decided n)
  where
    more : P n → ((s : ℕ) → s < n → P s) → (s : ℕ) → s < suc n → P s
    more last before s l = elim (eq-or-lt_of_le {n = s} {m = n} (omega arith)) [ inl e ↦ subst P (sym e) last | inr m ↦ before s m ]

    step : IsDecided (P n) → IsDecided ((s : ℕ) → s < n → P s) → IsDecided ((s : ℕ) → s < suc n → P s)
    step (inl last) (inl before) = inl (more last before)
    step (inl last) (inr fails) = inr (λ h. fails (λ s l. h s (omega arith)))
    step (inr fails) before = inr (λ h. fails (h n (omega arith)))

-- ---- the places of a certificate
fraction : (f : FractionData) (num den : ℤ) → IsDecided (IsFraction f num den)
fraction f num den = both (same f.num num) (same f.den den)

outcome : (k : CertificateData) (ending : Ending) → IsDecided (OutcomeHolds k ending)
outcome k Closed = le _ _
outcome k Trials = negated (le _ _)
outcome k Full = negated (le _ _)

place_decided : (g : GameData) (k : CertificateData) (place : Place) → IsDecided (Holds g k place)
place_decided g k (NodeAt i s c) = le _ _
place_decided g k (CornerAt j) = each_below _ (λ s. same_nat _ _) g.shape.states
place_decided g k (SplitAt j a o s) = same_nat _ _
place_decided g k (ValueAt j a) = le _ _
place_decided g k StartAt = each_below _ (λ s. same _ _) g.shape.states
place_decided g k BoundAt = three (fraction k.lower _ _) (fraction k.upper _ _) (fraction k.tail _ _)
place_decided g k OutcomeAt = outcome k k.outcome

first_some : {X : Type 0} (P : X → Type 0) → ((x : X) → IsDecided (P x)) → (xs : List X) → AllByRecursion P xs ⊎ ((x : X) × FirstIn P xs x)
first_some P decided [] = inl tt
first_some {X} P decided (x ∷ xs) = step (decided x) (first_some P decided xs)
  where
    step : IsDecided (P x) → AllByRecursion P xs ⊎ ((y : X) × FirstIn P xs y) → AllByRecursion P (x ∷ xs) ⊎ ((y : X) × FirstIn P (x ∷ xs) y)
    step (inr fails) rest = inr (x, first-head P x xs fails)
    step (inl here) (inl all) = inl (here, all)
    step (inl here) (inr (y, first)) = inr (y, first-right P (x ∷ []) xs y (here, tt) first)

-- a certificate that fits stands, or fails first at a place
pub stands-or-fails : StandsOrFails
stands-or-fails g k fits = found (first_some (Holds g k) (place_decided g k) (places g k))
  where
    found : AllByRecursion (Holds g k) (places g k) ⊎ ((place : Place) × FailsFirst g k place) → CertificateStands g k ⊎ ((place : Place) × FailsFirst g k place)
    found (inl all) = inl (record { fits = fits; holds = all })
    found (inr fails) = inr fails
