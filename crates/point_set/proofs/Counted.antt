-- How many items there are at most: no more than corners among the rising numbers, and few others.
use Rattle.std.proofs.Common.{◌≡◌, ℕ, zero, suc, ◌+◌, ◌*◌, ◌<◌, ◌≤◌, not, cond, ◌==◌, ltb, List, [], ◌∷◌, length, refl, arith, sym, subst, ◌∙◌, inl, inr}
use Rattle.std.specs.Prelude.{ℤ, pos, ◌≤ℤ◌, ◌<ℤ◌, count_by, sum_by}
use Rattle.std.specs.List.{AllByRecursion}
use Rattle.std.proofs.lemmas.Bool.{lt-ltb}
use Rattle.std.proofs.lemmas.Bool.Decides.{eqb_tells}
use Rattle.std.proofs.lemmas.Int.{ints}
use Rattle.std.proofs.lemmas.List.Filters.{length-filter_both}
use Rattle.std.proofs.lemmas.List.Sums.{length-filter, sum_by-cons}
use Rattle.scaled_num.specs.Sums.{below, total}
use Rattle.scaled_num.proofs.Sums.{each, total-below-le, total-le, total-pos, total-swap}
use Rattle.belief.proofs.Sums.{sum-below-most}
use Rattle.point_set.specs.Corners.{IsCurrentCorner}
use Rattle.point_set.specs.Points.{PointData}
use Rattle.point_set.specs.Split.{AreRisingPairs, is_corner}
use Rattle.point_set.specs.Takes.{inserted, others}
use Rattle.point_set.proofs.Items.{count-inserted, later, rest-rises}

-- one number stands at most once
none : (c : ℕ) (xs : List (ℕ × ℤ)) → AllByRecursion (λ x. c < x.0) xs → count_by (λ x. c == x.0) xs ≡ 0
none c [] h = refl
none c (x ∷ xs) h = sum_by-cons (λ (x : ℕ × ℤ). cond (c == x.0) 1 0) x xs ∙ elim (eqb_tells c x.0) [ inl t ↦ absurd (omega (arith, h.0, t.1)) | inr t ↦ rw (t.0) (omega (arith, none c xs h.1)) ]

once : (c : ℕ) (xs : List (ℕ × ℤ)) → AreRisingPairs xs → count_by (λ x. c == x.0) xs ≤ 1
once c [] h = omega arith
once c (x ∷ xs) h =
    rw (sum_by-cons (λ (x : ℕ × ℤ). cond (c == x.0) 1 0) x xs)
    (elim (eqb_tells c x.0) [
      | inl t ↦ rw (t.0) (omega (arith, none c xs (subst (λ (n : ℕ). AllByRecursion (λ (y : ℕ × ℤ). n < y.0) xs) (sym t.1) (later x xs h))))
      | inr t ↦ rw (t.0) (omega (arith, once c xs (rest-rises x xs h)))
    ])

-- so the numbers of corners among rising ones are at most as many as there are states
pub corners-few : (corners : ℕ → ℕ) (states : ℕ) (xs : List (ℕ × ℤ)) → AreRisingPairs xs → count_by (λ x. is_corner corners states x.0) xs ≤ states
corners-few corners states xs h =
    let f : ℕ × ℤ → ℕ → ℤ = λ x s. pos (cond (corners s == x.0) 1 0) in
    let left : (total (λ x. pos (cond (is_corner corners states x.0) 1 0)) xs) ≤ℤ (total (λ x. total (f x) (below states)) xs) =
    total-le _ _ xs (each (λ x. tested x) xs) in
    let right : (total (λ s. total (λ x. f x s) xs) (below states)) ≤ℤ (total (λ s. pos 1) (below states)) =
    total-below-le states _ (λ s. pos 1) (λ s l. single s) in
    joined (count_by (λ x. is_corner corners states x.0) xs) (sum_by (λ s. 1) (below states)) _ _ _ _
    (total-pos (λ x. cond (is_corner corners states x.0) 1 0) xs) left (total-swap f xs (below states)) right (total-pos (λ s. 1) (below states)) (sum-below-most (λ s. 1) states 1 (λ i l. omega arith))
  where
    tested : (x : ℕ × ℤ) → pos (cond (is_corner corners states x.0) 1 0) ≤ℤ (total (λ s. pos (cond (corners s == x.0) 1 0)) (below states))
    tested x = rw (total-pos (λ s. cond (corners s == x.0) 1 0) (below states)) (tells (count_by (λ s. corners s == x.0) (below states)))
      where
        tells : (n : ℕ) → pos (cond (ltb 0 n) 1 0) ≤ℤ pos n
        tells zero = omega (arith, ints)
        tells (suc n) = let some : 0 < suc n = omega arith in rw (lt-ltb 0 (suc n) some) (omega (arith, ints))

    single : (s : ℕ) → (total (λ x. pos (cond (corners s == x.0) 1 0)) xs) ≤ℤ pos 1
    single s = rw (total-pos (λ (x : ℕ × ℤ). cond (corners s == x.0) 1 0) xs) (small (count_by (λ x. corners s == x.0) xs) (once (corners s) xs h))
      where
        small : (n : ℕ) → n ≤ 1 → pos n ≤ℤ pos 1
        small n l = omega (arith, ints)

    joined : (a n : ℕ) (u v w z : ℤ) → u ≡ pos a → u ≤ℤ v → v ≡ w → w ≤ℤ z → z ≡ pos n → n ≤ states * 1 → a ≤ states
    joined a n u v w z p q r s t k = omega (arith, ints)

pub few-items : (corners : ℕ → ℕ) (states : ℕ) (xs : List (ℕ × ℤ)) → AreRisingPairs xs → others corners states xs ≤ 8 → states ≤ 16 → length xs ≤ 24
few-items corners states xs h few l =
    omega (
      arith,
      length-filter_both (λ (x : ℕ × ℤ). is_corner corners states x.0) (λ (x : ℕ × ℤ). not (is_corner corners states x.0)) (λ x. refl) xs,
      length-filter (λ (x : ℕ × ℤ). is_corner corners states x.0) xs,
      corners-few corners states xs h,
    )

-- one more weight
pub others-inserted : (corners : ℕ → ℕ) (states k : ℕ) (w : ℤ) (xs : List (ℕ × ℤ)) → others corners states (inserted k w xs) ≤ others corners states xs + cond (not (is_corner corners states k)) 1 0
others-inserted corners states k w xs =
    omega (
      arith,
      length-filter (λ (x : ℕ × ℤ). not (is_corner corners states x.0)) xs,
      length-filter (λ (x : ℕ × ℤ). not (is_corner corners states x.0)) (inserted k w xs),
      count-inserted (λ n. not (is_corner corners states n)) k w xs,
    )

-- the current corner of a state is one point
pub same-corner : (points : List PointData) (s i j : ℕ) → IsCurrentCorner points s i → IsCurrentCorner points s j → i ≡ j
same-corner points s i j h k = apart i j (λ l. less (k.first i l h.corner) (h.least j k.inside k.corner)) (λ l. less (h.first j l k.corner) (k.least i h.inside h.corner))
  where
    less : {a b : ℤ} → a <ℤ b → b ≤ℤ a → ⊥
    less p q = omega (arith, ints)

    apart : (i j : ℕ) → (i < j → ⊥) → (j < i → ⊥) → i ≡ j
    apart i j p q = omega arith
