-- The greatest common divisor of the weights of items, and items with their weights divided.
use Rattle.std.proofs.Common.{◌≡◌, ℕ, ◌+◌, ◌/◌, ◌^◌, ◌<◌, ◌≤◌, List, [], ◌∷◌, ◌++◌, length, map, take, ap, ap₂, sym, subst, ◌∙◌, arith, add-one}
use Rattle.std.proofs.Math.Seq.{take-length, take-suc}
use Rattle.std.proofs.lemmas.List.{length-map}
use Rattle.std.proofs.Math.Nat.{div-le_self}
use Rattle.std.proofs.lemmas.Int.{ints}
use Rattle.std.specs.Int.{IsGcd, w128, ◌∣◌}
use Rattle.std.specs.List.{AllByRecursion}
use Rattle.std.specs.Prelude.{ℤ, FitsSigned, pos, negsuc, slice_index_or, unsigned_abs, ◌≤ℤ◌}
use Rattle.scaled_num.proofs.Divisors.{DivisorSoFar, next-divisor}
use Rattle.scaled_num.proofs.Each.{each-of-map, get-map}
use Rattle.scaled_num.proofs.Sums.{each-map}
use Rattle.hsvi_trial.specs.Founds.{lowest_items}

abbrev pub weights : List (ℕ × ℤ) → List ℤ
weights items = map (λ item. item.1) items

pub divisor-next : (items : List (ℕ × ℤ)) (i divisor g : ℕ) (item : ℕ × ℤ) → i < length items → item ≡ slice_index_or items i (0, pos 0) → DivisorSoFar (weights items) i divisor →
    IsGcd divisor (unsigned_abs item.1) g → DivisorSoFar (weights items) (i + 1) g
divisor-next items i divisor g item l is so_far h =
    next-divisor (weights items) i (pos 0) divisor g (subst (λ (n : ℕ). i < n) (sym (length-map items (λ item. item.1))) l) so_far
    (subst (λ (x : ℤ). IsGcd divisor (unsigned_abs x) g) (ap (λ (p : ℕ × ℤ). p.1) is ∙ sym (get-map (λ (item : ℕ × ℤ). item.1) items i (0, pos 0) (pos 0) l)) h)

all-taken : (items : List (ℕ × ℤ)) (n : ℕ) → n ≡ length items → take n (weights items) ≡ weights items
all-taken items n e = subst (λ (m : ℕ). take m (weights items) ≡ weights items) (length-map items (λ item. item.1) ∙ sym e) (take-length (weights items))

pub divisor-divides : (items : List (ℕ × ℤ)) (n d : ℕ) → n ≡ length items → DivisorSoFar (weights items) n d → AllByRecursion (λ item. d ∣ unsigned_abs item.1) items
divisor-divides items n d e h = each-of-map (λ x. d ∣ unsigned_abs x) (λ item. item.1) items (subst (AllByRecursion (λ x. d ∣ unsigned_abs x)) (all-taken items n e) h.divides)

pub divisor-greatest : (items : List (ℕ × ℤ)) (n d : ℕ) → n ≡ length items → DivisorSoFar (weights items) n d → (e : ℕ) → AllByRecursion (λ item. e ∣ unsigned_abs item.1) items → e ∣ d
divisor-greatest items n d is h e all = h.greatest e (subst (AllByRecursion (λ x. e ∣ unsigned_abs x)) (sym (all-taken items n is)) (each-map (λ x. e ∣ unsigned_abs x) (λ item. item.1) items all))

abbrev lowered : ℕ → ℕ × ℤ → ℕ × ℤ
lowered d item = (item.0, pos (unsigned_abs item.1 / d))

pub lowest-more : (d : ℕ) (items taken : List (ℕ × ℤ)) (i : ℕ) (item : ℕ × ℤ) → i < length items → item ≡ slice_index_or items i (0, pos 0) → taken ≡ take i (lowest_items d items) →
    taken ++ (item.0, pos (unsigned_abs item.1 / d)) ∷ [] ≡ take (i + 1) (lowest_items d items)
lowest-more d items taken i item l is so_far =
    ap₂ (λ (xs : List (ℕ × ℤ)) (x : ℕ × ℤ). xs ++ x ∷ []) so_far (ap (lowered d) is ∙ sym (get-map (lowered d) items i (0, pos 0) (0, pos 0) l))
    ∙ sym (ap (λ (n : ℕ). take n (lowest_items d items)) (add-one i) ∙ take-suc (lowest_items d items) i (0, pos 0) (subst (λ (n : ℕ). i < n) (sym (length-map items (lowered d))) l))

pub lowest-all : (d : ℕ) (items taken : List (ℕ × ℤ)) (n : ℕ) → n ≡ length items → taken ≡ take n (lowest_items d items) → taken ≡ lowest_items d items
lowest-all d items taken n e h = h ∙ subst (λ (m : ℕ). take m (lowest_items d items) ≡ lowest_items d items) (length-map items (lowered d) ∙ sym e) (take-length (lowest_items d items))

-- a weight's part fits into an i128
pub small-part : (x : ℤ) (divisor : ℕ) → pos 1 ≤ℤ x → FitsSigned w128 x → unsigned_abs x / divisor < 2 ^ 127
small-part (pos n) divisor some fits =
    let part : n / divisor ≤ n = div-le_self n divisor in
    omega (arith, part, fits.sfits)
small-part (negsuc n) divisor some fits = absurd (omega (arith, ints, some))
