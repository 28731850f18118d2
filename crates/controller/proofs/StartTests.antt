-- Tests of starts: numbers that rise, coprime weights, and sums.
use Rattle.std.proofs.Common.{◌≡◌, ℕ, zero, suc, ◌+◌, ◌-◌, ◌<◌, ◌≤◌, List, [], ◌∷◌, length, map, get_or, refl, ap, arith, sym, subst}
use Rattle.std.specs.Prelude.{ℤ, pos, unsigned_abs}
use Rattle.std.specs.List.{AllByRecursion}
use Rattle.std.specs.Int.{IsGcd, ◌∣◌}
use Rattle.std.proofs.Math.Nat.{eq-one_of_dvd-one}
use Rattle.std.proofs.lemmas.Int.{ints}
use Rattle.std.proofs.lemmas.List.{take_all}
use Rattle.scaled_num.proofs.Divisors.{Divides, DivisorSoFar, next-divisor}
use Rattle.scaled_num.proofs.Each.{get-map}
use Rattle.game_model.specs.Game.{AreCoprime, IsWithin}
use Rattle.game_model.proofs.Pay.{each-from}
use Rattle.point_set.specs.Split.{AreRisingPairs}

abbrev pub no_start : ℕ × ℤ
no_start = (0, pos 0)

-- the weights of starts
abbrev pub weights_of : List (ℕ × ℤ) → List ℤ
weights_of starts = map (λ (start : ℕ × ℤ). start.1) starts

-- starts rise each before the next
pub pairs_rise-from : (xs : List (ℕ × ℤ)) → ((k : ℕ) → suc k < length xs → (get_or xs k no_start).0 < (get_or xs (suc k) no_start).0) → AreRisingPairs xs
pairs_rise-from [] h = tt
pairs_rise-from (x ∷ []) h = tt
pairs_rise-from (x ∷ y ∷ rest) h = (h 0 (omega arith), pairs_rise-from (y ∷ rest) (λ k l. h (suc k) (omega arith)))

pairs_rise-at : (xs : List (ℕ × ℤ)) → AreRisingPairs xs → (k : ℕ) → suc k < length xs → (get_or xs k no_start).0 < (get_or xs (suc k) no_start).0
pairs_rise-at [] h k l = absurd (omega arith)
pairs_rise-at (x ∷ []) h k l = absurd (omega arith)
pairs_rise-at (x ∷ y ∷ rest) h zero l = h.0
pairs_rise-at (x ∷ y ∷ rest) h (suc k) l = pairs_rise-at (y ∷ rest) h.1 k (omega arith)

pub pair-before : (xs : List (ℕ × ℤ)) (i : ℕ) → 1 ≤ i → i < length xs → AreRisingPairs xs → (get_or xs (i - 1) no_start).0 < (get_or xs i no_start).0
pair-before xs i some l h =
    let next : suc (i - 1) ≡ i = omega arith in
    subst (λ (k : ℕ). (get_or xs (i - 1) no_start).0 < (get_or xs k no_start).0) next (pairs_rise-at xs h (i - 1) (omega arith))

len-weights : (xs : List (ℕ × ℤ)) → length (weights_of xs) ≡ length xs
len-weights [] = refl
len-weights (x ∷ xs) = ap suc (len-weights xs)

-- the greatest common divisor of one more weight
pub next-weight : (starts : List (ℕ × ℤ)) (i divisor g : ℕ) → i < length starts → DivisorSoFar (weights_of starts) i divisor →
    IsGcd divisor (unsigned_abs (get_or starts i no_start).1) g → DivisorSoFar (weights_of starts) (i + 1) g
next-weight starts i divisor g l so_far h =
    let inside : i < length (weights_of starts) = subst (λ (n : ℕ). i < n) (sym (len-weights starts)) l in
    next-divisor (weights_of starts) i (pos 0) divisor g inside so_far
    (subst (λ (x : ℤ). IsGcd divisor (unsigned_abs x) g) (sym (get-map (λ (start : ℕ × ℤ). start.1) starts i no_start (pos 0) l)) h)

-- weights are coprime where their greatest common divisor is 1
pub coprime-from : (starts : List (ℕ × ℤ)) (i divisor : ℕ) → length starts ≤ i → DivisorSoFar (weights_of starts) i divisor → divisor ≡ 1 → AreCoprime (weights_of starts)
coprime-from starts i divisor all so_far one d h =
    let same = take_all i (weights_of starts) (subst (λ (n : ℕ). n ≤ i) (sym (len-weights starts)) all) in
    eq-one_of_dvd-one (subst (λ (n : ℕ). d ∣ n) one (so_far.greatest d (subst (λ (xs : List ℤ). AllByRecursion (Divides d) xs) (sym same) h)))

pub divisor-one : (starts : List (ℕ × ℤ)) (i divisor : ℕ) → length starts ≤ i → DivisorSoFar (weights_of starts) i divisor → AreCoprime (weights_of starts) → divisor ≡ 1
divisor-one starts i divisor all so_far coprime =
    let same = take_all i (weights_of starts) (subst (λ (n : ℕ). n ≤ i) (sym (len-weights starts)) all) in
    coprime divisor (subst (λ (xs : List ℤ). AllByRecursion (Divides divisor) xs) same so_far.divides)

-- weights of 1 to 65536 are 0 to 65536
pub starts-within : (xs : List (ℕ × ℤ)) → AllByRecursion (λ x. IsWithin (pos 1) (pos 65536) x.1) xs → AllByRecursion (λ x. IsWithin (pos 0) (pos 65536) x.1) xs
starts-within xs h = each-from (λ (x : ℕ × ℤ). IsWithin (pos 1) (pos 65536) x.1) _ xs (λ x k. lower x.1 k) h
  where
    lower : (x : ℤ) → IsWithin (pos 1) (pos 65536) x → IsWithin (pos 0) (pos 65536) x
    lower x w = let low = w.0 in (omega (arith, ints), w.1)
