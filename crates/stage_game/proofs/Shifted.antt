-- How far a list of prices is shifted, and the weights that this leaves.
use Rattle.std.proofs.Common.{◌≡◌, ◌⊎◌, ℕ, zero, suc, ◌<◌, ◌≤◌, ◌+◌, ◌*◌, ◌/◌, ◌^◌, ◌∷◌, [], List, length, map, refl, ap, inl, inr, arith, below_more}
use Rattle.std.specs.Prelude.{pos, ◌≤ℤ◌, slice_index}
use Rattle.std.specs.List.{AllByRecursion}
use Rattle.std.proofs.lemmas.Int.{ints}
use Rattle.std.proofs.Math.Nat.{div-mul-le_self, mul-le-mul_left, pow-le-pow_right}
use Rattle.std.proofs.lemmas.Nat.{le-div, pow_pos}
use Rattle.scaled_num.proofs.Each.{each-by-place}
use Rattle.scaled_num.proofs.Floors.{All-from_recursion, NoneNegative}
use Rattle.scaled_num.proofs.Sums.{each-at, sum-most}
use Rattle.scaled_num.specs.Share.{at}
use Rattle.scaled_num.specs.Sums.{sum_of}
use Rattle.stage_game.specs.Reading.{FitShifted, IsLeastShift, shifted, weight_end}

-- what is shifted further is not greater
pub shifted-less : (x few more : ℕ) → few ≤ more → x / 2 ^ more ≤ x / 2 ^ few
shifted-less x few more l =
    let quotient : ℕ = x / 2 ^ more in
    let whole : quotient * 2 ^ more ≤ x = div-mul-le_self x (2 ^ more) in
    let lower : quotient * 2 ^ few ≤ quotient * 2 ^ more = mul-le-mul_left quotient (pow-le-pow_right (omega arith) l) in
    le-div quotient x (2 ^ few) (pow_pos few) (omega arith)

-- the shift of the first so many prices
pub record IsShiftSoFar (prices : List ℕ) (count bits : ℕ) : Type 0 where
  pub few : bits ≤ 32
  pub fits : (i : ℕ) → i < count → slice_index prices i / 2 ^ bits < weight_end
  pub least : (fewer : ℕ) → ((i : ℕ) → i < count → slice_index prices i / 2 ^ fewer < weight_end) → bits ≤ fewer

pub shift-none : (prices : List ℕ) → IsShiftSoFar prices 0 0
shift-none prices = record { few = omega arith; fits = λ i l. absurd (omega arith); least = λ fewer h. omega arith }

-- the greater one of the shift so far and the next price's own
pub shift-more : (prices : List ℕ) (count bits own both : ℕ) → IsShiftSoFar prices count bits → own ≤ 32 → slice_index prices count / 2 ^ own < weight_end
    → ((fewer : ℕ) → slice_index prices count / 2 ^ fewer < weight_end → own ≤ fewer) → bits ≤ both → own ≤ both → (both ≡ bits) ⊎ (both ≡ own) → IsShiftSoFar prices (count + 1) both
shift-more prices count bits own both before few fits least low own_low same = record {
  few = elim same [ inl e ↦ omega (arith, before.few) | inr e ↦ omega arith ];
  fits = below_more _ _
      (λ i l. let less : slice_index prices i / 2 ^ both ≤ slice_index prices i / 2 ^ bits = shifted-less (slice_index prices i) bits both low in omega (arith, before.fits i l))
      (let less : slice_index prices count / 2 ^ both ≤ slice_index prices count / 2 ^ own = shifted-less (slice_index prices count) own both own_low in omega arith);
  least = λ fewer h.
      let first : bits ≤ fewer = before.least fewer (λ i l. h i (omega arith)) in
      let last : own ≤ fewer = least fewer (h count (omega arith)) in
      elim same [ inl e ↦ omega arith | inr e ↦ omega arith ];
}

pub shift-all : (prices : List ℕ) (bits : ℕ) → IsShiftSoFar prices (length prices) bits → IsLeastShift prices bits
shift-all prices bits all = record {
  fits = each-by-place (λ x. x / 2 ^ bits < weight_end) 0 prices all.fits;
  least = λ fewer h. all.least fewer (λ i l. each-at (λ x. x / 2 ^ fewer < weight_end) 0 prices i h l);
}

-- the weights that are left are 0 to 2^30
pub left-within : (prices : List ℕ) (bits : ℕ) → FitShifted prices bits → AllByRecursion (λ x. (pos 0 ≤ℤ x) × (x ≤ℤ pos weight_end)) (map pos (shifted bits prices))
left-within [] bits h = tt
left-within (x ∷ xs) bits h = ((omega (arith, ints), omega (arith, ints, h.0)), left-within xs bits h.1)

pub left-not-negative : (prices : List ℕ) (bits : ℕ) → FitShifted prices bits → NoneNegative (map pos (shifted bits prices))
left-not-negative prices bits h = All-from_recursion (λ x. pos 0 ≤ℤ x) (map pos (shifted bits prices)) (each prices h)
  where
    each : (prices : List ℕ) → FitShifted prices bits → AllByRecursion (λ x. pos 0 ≤ℤ x) (map pos (shifted bits prices))
    each [] h = tt
    each (x ∷ xs) h = (omega (arith, ints), each xs h.1)

pub length-left : (prices : List ℕ) (bits : ℕ) → length (map pos (shifted bits prices)) ≡ length prices
length-left [] bits = refl
length-left (x ∷ xs) bits = ap suc (length-left xs bits)

pub left-small : (prices : List ℕ) (bits : ℕ) → length prices < 2 ^ 32 → FitShifted prices bits → sum_of (map pos (shifted bits prices)) ≤ℤ pos (2 ^ 100)
left-small prices bits short h =
    let most : sum_of (map pos (shifted bits prices)) ≤ℤ pos (length (map pos (shifted bits prices)) * weight_end) = sum-most weight_end (map pos (shifted bits prices)) (left-within prices bits h) in
    let long : length (map pos (shifted bits prices)) ≡ length prices = length-left prices bits in
    omega (arith, ints, most)

pub left-at : (prices : List ℕ) (bits i : ℕ) → i < length prices → at (map pos (shifted bits prices)) i ≡ pos (slice_index prices i / 2 ^ bits)
left-at [] bits i l = absurd (omega arith)
left-at (x ∷ xs) bits zero l = refl
left-at (x ∷ xs) bits (suc i) l = left-at xs bits i (omega arith)
