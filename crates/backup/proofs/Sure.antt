-- A belief of total 1 is sure of a state, and one of a greater total is sure of none.
use Rattle.std.proofs.Common.{◌≡◌, Bool, true, false, zero, suc, List, [], ◌∷◌, length, replicate, refl, ap, arith, sym, subst, ◌∙◌, inl, inr, ◌⊎◌}
use Rattle.std.specs.Prelude.{ℤ, pos, negsuc, ◌+ℤ◌, ◌≤ℤ◌, ◌<ℤ◌, not}
use Rattle.std.specs.List.{AllByRecursion}
use Rattle.std.proofs.lemmas.Int.{ints}
use Rattle.std.specs.Int.Signed.{lt_z, lt_z_no, lt_z_yes}
use Rattle.std.proofs.Math.Dec.{T}
use Rattle.scaled_num.specs.Sums.{sum_of}
use Rattle.backup.specs.Seeds.{IsSure}
use Rattle.backup.proofs.Placed.{placed-sum}

abbrev NotNegative : List ℤ → Type 0
NotNegative xs = AllByRecursion (λ x. pos 0 ≤ℤ x) xs

sum-low : (xs : List ℤ) → NotNegative xs → pos 0 ≤ℤ sum_of xs
sum-low [] h = omega (arith, ints)
sum-low (x ∷ xs) h = omega (arith, ints, h.0, sum-low xs h.1)

none-left : (xs : List ℤ) → NotNegative xs → sum_of xs ≡ pos 0 → xs ≡ replicate (length xs) (pos 0)
none-left [] h e = refl
none-left (x ∷ xs) h e =
    ap (λ (y : ℤ). y ∷ xs) (zero-first x (sum_of xs) h.0 (sum-low xs h.1) e)
    ∙ ap (λ (ys : List ℤ). pos 0 ∷ ys) (none-left xs h.1 (zero-rest x (sum_of xs) h.0 (sum-low xs h.1) e))
  where
    zero-first : (x y : ℤ) → pos 0 ≤ℤ x → pos 0 ≤ℤ y → x +ℤ y ≡ pos 0 → x ≡ pos 0
    zero-first x y h k e = omega (arith, ints)

    zero-rest : (x y : ℤ) → pos 0 ≤ℤ x → pos 0 ≤ℤ y → x +ℤ y ≡ pos 0 → y ≡ pos 0
    zero-rest x y h k e = omega (arith, ints)

pub total-one : (xs : List ℤ) → NotNegative xs → sum_of xs ≡ pos 1 → IsSure xs
total-one [] h e = absurd (omega (arith, ints, e))
total-one (x ∷ xs) h e =
    elim (either x (sum_of xs) h.0 (sum-low xs h.1) e) [
      | inl k ↦ (0, omega arith, ap (λ (y : ℤ). y ∷ xs) k.0 ∙ ap (λ (ys : List ℤ). pos 1 ∷ ys) (none-left xs h.1 k.1))
      | inr k ↦ let rest = total-one xs h.1 k.1 in
          (suc rest.0, omega (arith, rest.1), ap (λ (y : ℤ). y ∷ xs) k.0 ∙ ap (λ (ys : List ℤ). pos 0 ∷ ys) rest.2)
    ]
  where
    either : (x y : ℤ) → pos 0 ≤ℤ x → pos 0 ≤ℤ y → x +ℤ y ≡ pos 1 → ((x ≡ pos 1) × (y ≡ pos 0)) ⊎ ((x ≡ pos 0) × (y ≡ pos 1))
    either (pos zero) y h k e = inr (refl, omega (arith, ints))
    either (pos (suc n)) y h k e = inl (omega (arith, ints), omega (arith, ints))
    either (negsuc n) y h k e = absurd (omega (arith, ints))

pub total-more : (xs : List ℤ) → pos 1 <ℤ sum_of xs → IsSure xs → ⊥
total-more xs h (s, l, e) = apart (sum_of xs) h (ap sum_of e ∙ placed-sum (length xs) s 1 l)
  where
    apart : (x : ℤ) → pos 1 <ℤ x → x ≡ pos 1 → ⊥
    apart x h e = omega (arith, ints)

-- the test of the code
pub above-one : (x y : ℤ) → x ≡ y → lt_z (pos 1) x ≡ true → pos 1 <ℤ y
above-one x y e test = subst (λ (z : ℤ). pos 1 <ℤ z) e (lt_z_yes (subst T (sym test) tt))

pub upto-one : (x y : ℤ) → x ≡ y → lt_z (pos 1) x ≡ false → y ≤ℤ pos 1
upto-one x y e test = subst (λ (z : ℤ). z ≤ℤ pos 1) e (lt_z_no (subst (λ (b : Bool). T (not b)) (sym test) tt))
