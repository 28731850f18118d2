-- The greatest whole number of times that a belief fits into a mass.
use Rattle.std.proofs.Common.{◌≡◌, ℕ, suc, ◌+◌, ◌^◌, ◌<◌, ◌≤◌, List, [], ◌∷◌, length, refl, arith, sym, subst, below_more}
use Rattle.std.specs.Prelude.{ℤ, pos, ◌*ℤ◌, ◌≤ℤ◌, ◌<ℤ◌, unsigned_abs, FitsSigned}
use Rattle.std.specs.Int.{w128}
use Rattle.std.specs.List.{AllByRecursion}
use Rattle.std.proofs.lemmas.Int.{ints, by_lt_z, fits_signed_from_abs, unsigned_abs-mul}
use Rattle.std.proofs.lemmas.Nat.{mul-le}
use Rattle.scaled_num.specs.Share.{at, IsFloor}
use Rattle.scaled_num.specs.Sums.{sum_of}
use Rattle.scaled_num.proofs.Floors.{floor-none_negative, product_le}
use Rattle.scaled_num.proofs.OneShare.{floor-most}
use Rattle.scaled_num.proofs.Products.{mulℤ_comm}
use Rattle.scaled_num.proofs.Sums.{each-at}
use Rattle.game_model.specs.Game.{IsBelief, IsWithin}
use Rattle.point_set.specs.Sawtooth.{FitsTimes, IsMostTimes}

-- a list of zeros sums to 0
pub zeros-sum : (xs : List ℤ) → ((s : ℕ) → s < length xs → at xs s ≡ pos 0) → sum_of xs ≡ pos 0
zeros-sum [] h = refl
zeros-sum (x ∷ xs) h = omega (arith, ints, h 0 (omega arith), zeros-sum xs (λ s l. h (suc s) (omega arith)))

pub some-weight : (belief : List ℤ) → IsBelief (length belief) belief → ((s : ℕ) → s < length belief → at belief s ≡ pos 0) → ⊥
some-weight belief h zeros = let low = h.sums.0 in omega (arith, ints, zeros-sum belief zeros)

pub floor-small : (q a b : ℤ) → pos 1 ≤ℤ b → pos 0 ≤ℤ a → IsFloor q a b → q ≤ℤ a
floor-small q a b p l f =
    let low = floor-none_negative q a b l (omega (arith, ints)) f in
    omega (arith, ints, f.low, product_le (pos 1) b q low p, mulℤ_comm q b)

-- the number of times that fits into the first places
pub record TimesSoFar (mass belief : List ℤ) (s : ℕ) (times : ℤ) : Type 0 where
  pub low : pos 0 ≤ℤ times
  pub high : times ≤ℤ pos (2 ^ 100)
  pub fits : (t : ℕ) → t < s → (times *ℤ at belief t) ≤ℤ at mass t
  pub most : (more : ℤ) → FitsTimes mass belief more → more ≤ℤ times

zero-fits : (times x part : ℤ) → x ≡ pos 0 → pos 0 ≤ℤ part → (times *ℤ x) ≤ℤ part
zero-fits times x part e p = subst (λ (z : ℤ). (times *ℤ z) ≤ℤ part) (sym e) (omega (arith, ints))

pub first-times : (mass belief : List ℤ) (first : ℕ) (times : ℤ) → AllByRecursion (λ x. pos 0 ≤ℤ x) mass → AllByRecursion (λ x. x ≤ℤ pos (2 ^ 100)) mass → first < length mass →
    pos 1 ≤ℤ at belief first → ((s : ℕ) → s < first → at belief s ≡ pos 0) → IsFloor times (at mass first) (at belief first) → TimesSoFar mass belief (first + 1) times
first-times mass belief first times low small l weight before f =
    let part : pos 0 ≤ℤ at mass first = each-at (λ x. pos 0 ≤ℤ x) (pos 0) mass first low l in
    let top : (at mass first) ≤ℤ pos (2 ^ 100) = each-at (λ x. x ≤ℤ pos (2 ^ 100)) (pos 0) mass first small l in
    record {
      low = floor-none_negative times (at mass first) (at belief first) part (omega (arith, ints)) f;
      high = omega (arith, ints, floor-small times (at mass first) (at belief first) weight part f);
      fits = below_more (λ t. (times *ℤ at belief t) ≤ℤ at mass t) first
          (λ t m. zero-fits times (at belief t) (at mass t) (before t m) (each-at (λ x. pos 0 ≤ℤ x) (pos 0) mass t low (omega arith))) f.low;
      most = λ more h. floor-most times (at mass first) (at belief first) more weight f (h first l);
    }

pub next-times : (mass belief : List ℤ) (s : ℕ) (times next : ℤ) → AllByRecursion (IsWithin (pos 0) (pos (2 ^ 20))) belief → s < length mass → length belief ≡ length mass → TimesSoFar mass belief s times →
    pos 0 ≤ℤ next → next ≤ℤ times → (next *ℤ at belief s) ≤ℤ at mass s → ((more : ℤ) → more ≤ℤ times → (more *ℤ at belief s) ≤ℤ at mass s → more ≤ℤ next) → TimesSoFar mass belief (s + 1) next
next-times mass belief s times next weights l long h low high fits most =
    record {
      low = low;
      high = omega (arith, ints, h.high);
      fits = below_more (λ t. (next *ℤ at belief t) ≤ℤ at mass t) s
          (λ t m. omega (arith, ints, h.fits t m, product_le next times (at belief t) (each-at (IsWithin (pos 0) (pos (2 ^ 20))) (pos 0) belief t weights (omega arith)).0 high)) fits;
      most = λ more f. most more (h.most more f) (f s l);
    }

-- no times fit where the number is down to 0
pub no-times : (mass belief : List ℤ) (s : ℕ) (times : ℤ) → AllByRecursion (λ x. pos 0 ≤ℤ x) mass → times ≡ pos 0 → TimesSoFar mass belief s times → IsMostTimes mass belief (pos 0)
no-times mass belief s times low e h = record {
  fits = λ t l. let part : pos 0 ≤ℤ at mass t = each-at (λ x. pos 0 ≤ℤ x) (pos 0) mass t low l in omega (arith, ints);
  most = λ more f. subst (λ (z : ℤ). more ≤ℤ z) e (h.most more f);
}

pub all-times : (mass belief : List ℤ) (s : ℕ) (times : ℤ) → length mass ≤ s → TimesSoFar mass belief s times → IsMostTimes mass belief times
all-times mass belief s times l h = record { fits = λ t m. h.fits t (omega arith); most = h.most }

-- a number of times that is lowered
pub times-fit : (times weight : ℤ) → IsWithin (pos 0) (pos (2 ^ 101)) times → IsWithin (pos 0) (pos (2 ^ 20)) weight → FitsSigned w128 (times *ℤ weight)
times-fit times weight t w =
    let tl = t.0 in
    let th = t.1 in
    let wl = w.0 in
    let wh = w.1 in
    let size : unsigned_abs (times *ℤ weight) ≤ 2 ^ 121 = rw (unsigned_abs-mul times weight) (mul-le (unsigned_abs times) (unsigned_abs weight) (2 ^ 101) (2 ^ 20) (omega (arith, ints)) (omega (arith, ints))) in
    fits_signed_from_abs w128 (times *ℤ weight) (omega arith)

pub floor-below : (q a b times : ℤ) → pos 1 ≤ℤ b → IsFloor q a b → a <ℤ (times *ℤ b) → q ≤ℤ times
floor-below q a b times p f h = by_lt_z times q (λ less. absurd (too_much less)) (λ most. most)
  where
    too_much : times <ℤ q → ⊥
    too_much less = omega (arith, ints, product_le times q b (omega (arith, ints)) (omega (arith, ints)), f.low)
