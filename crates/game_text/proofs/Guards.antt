-- What each test of a line says.
use Rattle.std.proofs.Common.{◌≡◌, ℕ, ◌^◌, ◌<◌, ◌≤◌, true, ◌&&◌, ◌||◌, eqb, ltb, List, Option, Some, None, Ok, ℤ, pos, refl, ap, ◌∙◌, arith, inl, inr, ◌⊎◌}
use Rattle.game_model.specs.Limits.{most_belief, most_discount}
use Rattle.std.specs.Prelude.{◌≤ℤ◌, ◌<ℤ◌, ◌+ℤ◌, ◌*ℤ◌, unsigned_abs, max, int_le, int_lt, ◌==◌, nat_lt}
use Rattle.std.proofs.lemmas.Int.{ints}
use Rattle.std.proofs.lemmas.Bool.{eqb-true, ltb-true}
use Rattle.std.proofs.lemmas.Bool.Decides.{nat_tests}
use Rattle.scaled_num.specs.Sums.{sum_of}
use Rattle.text_words.specs.Forms.{is_within}
use Rattle.text_words.proofs.Limits.{cond_ok, and_true, true_and, or_true, or_last, le_from, le_to, lt_from, lt_to, within_from, within_to, pos_abs}
use Rattle.game_model.specs.declared.parts.Shape.{Shape}
use Rattle.game_model.specs.Game.{IsWithin, IsNarrow}
use Rattle.game_text.specs.declared.fault.Kind.TheVariants as kinds
use Rattle.game_text.specs.Forms.{within, discount_within, total_within, state_at, own_at, informed_at, next_triple, full_row, narrow_reward, later_pair, fits_row}

-- the tests of numbers

pub within-ok : (low high : ℕ) (x : ℤ) (n : ℕ) → within low high x ≡ Ok n → (low ≤ n) × (n ≤ high) × (x ≡ pos n)
unfolding within
within-ok low high x n h =
    let p = cond_ok (is_within (pos low) (pos high) x) (unsigned_abs x) n kinds.Range h in
    let q = within_from (pos low) (pos high) x p.0 in
    let e : x ≡ pos n = pos_abs x (omega (arith, ints, q.0)) ∙ ap pos p.1 in
    (omega (arith, ints, q.0, e), omega (arith, ints, q.1, e), e)

pub within-to : (low high n : ℕ) → low ≤ n → n ≤ high → within low high (pos n) ≡ Ok n
unfolding within
within-to low high n l m = rw (within_to (pos low) (pos high) (pos n) (omega (arith, ints), omega (arith, ints))) refl

-- the tests of a line of the header

pub discount_within-ok : (over under : ℤ) (d : ℤ × ℤ) → discount_within over under ≡ Ok d → (pos 0 ≤ℤ over) × (over <ℤ under) × (under ≤ℤ pos most_discount) × ((over, under) ≡ d)
unfolding discount_within
discount_within-ok over under d h =
    let p = cond_ok (int_le (pos 0) over && int_lt over under && int_le under (pos most_discount)) (over, under) d kinds.Range h in
    let q = and_true (int_le (pos 0) over && int_lt over under) (int_le under (pos most_discount)) p.0 in
    let r = and_true (int_le (pos 0) over) (int_lt over under) q.0 in
    (le_from (pos 0) over r.0, lt_from over under r.1, le_from under (pos most_discount) q.1, p.1)

pub discount_within-to : (over under : ℤ) → pos 0 ≤ℤ over → over <ℤ under → under ≤ℤ pos most_discount → discount_within over under ≡ Ok (over, under)
unfolding discount_within
discount_within-to over under a b c =
    rw (true_and (int_le (pos 0) over && int_lt over under) (int_le under (pos most_discount)) (true_and (int_le (pos 0) over) (int_lt over under) (le_to (pos 0) over a) (lt_to over under b)) (le_to under (pos most_discount) c)) refl

pub total_within-ok : (weights : List ℤ) (u : Unit {0}) → total_within weights ≡ Ok u → IsWithin (pos 1) (pos most_belief) (sum_of weights)
unfolding total_within
total_within-ok weights u h = within_from (pos 1) (pos most_belief) (sum_of weights) (cond_ok (is_within (pos 1) (pos most_belief) (sum_of weights)) tt u kinds.Belief h).0

pub total_within-to : (weights : List ℤ) → IsWithin (pos 1) (pos most_belief) (sum_of weights) → total_within weights ≡ Ok tt
unfolding total_within
total_within-to weights h = rw (within_to (pos 1) (pos most_belief) (sum_of weights) h) refl

-- the tests of a line of the rows

pub next_triple-ok : (shape : Shape) (k s a c : ℕ) (u : Unit {0}) → next_triple shape k s a c ≡ Ok u → (s ≡ state_at shape k) × (a ≡ own_at shape k) × (c ≡ informed_at shape k)
unfolding next_triple
next_triple-ok shape k s a c u h =
    let p = cond_ok ((s == state_at shape k) && (a == own_at shape k) && (c == informed_at shape k)) tt u kinds.Order h in
    let q = and_true ((s == state_at shape k) && (a == own_at shape k)) (c == informed_at shape k) p.0 in
    let r = and_true (s == state_at shape k) (a == own_at shape k) q.0 in
    (eqb-true s (state_at shape k) r.0, eqb-true a (own_at shape k) r.1, eqb-true c (informed_at shape k) q.1)

pub next_triple-to : (shape : Shape) (k : ℕ) → next_triple shape k (state_at shape k) (own_at shape k) (informed_at shape k) ≡ Ok tt
unfolding next_triple
next_triple-to shape k = rw (eqb_same (state_at shape k)) (rw (eqb_same (own_at shape k)) (rw (eqb_same (informed_at shape k)) refl))
  where
    eqb_same : (n : ℕ) → eqb n n ≡ true
    eqb_same n = grind (arith, nat_tests)

pub squeezed : (x y : ℤ) → IsWithin y y x → x ≡ y
squeezed x y h = omega (arith, ints, h.0, h.1)

pub full_row-ok : (shape : Shape) (begun : ℕ) (sum : ℤ) (u : Unit {0}) → full_row shape begun sum ≡ Ok u → (begun ≡ 0) ⊎ (sum ≡ shape.row_total)
unfolding full_row
full_row-ok shape begun sum u h =
    let p = cond_ok ((begun == 0) || is_within shape.row_total shape.row_total sum) tt u kinds.Total h in
    elim (or_true (begun == 0) (is_within shape.row_total shape.row_total sum) p.0) [
      | inl e ↦ inl (eqb-true begun 0 e)
      | inr e ↦ inr (squeezed sum shape.row_total (within_from shape.row_total shape.row_total sum e))
    ]

pub full_row-none : (shape : Shape) (sum : ℤ) → full_row shape 0 sum ≡ Ok tt
unfolding full_row
full_row-none shape sum = refl

pub full_row-to : (shape : Shape) (begun : ℕ) (sum : ℤ) → sum ≡ shape.row_total → full_row shape begun sum ≡ Ok tt
unfolding full_row
full_row-to shape begun sum e =
    let same : IsWithin shape.row_total shape.row_total sum = (omega (arith, ints, e), omega (arith, ints, e)) in
    rw (or_last (begun == 0) (is_within shape.row_total shape.row_total sum) (within_to shape.row_total shape.row_total sum same)) refl

pub narrow_reward-ok : (shape : Shape) (reward : ℤ) (u : Unit {0}) → narrow_reward shape reward ≡ Ok u → IsNarrow shape reward
unfolding narrow_reward
narrow_reward-ok shape reward u h =
    le_from (shape.row_total *ℤ shape.discount.1 *ℤ shape.discount.1 *ℤ pos (max 1 (unsigned_abs reward))) (pos (2 ^ 72))
    (cond_ok (int_le (shape.row_total *ℤ shape.discount.1 *ℤ shape.discount.1 *ℤ pos (max 1 (unsigned_abs reward))) (pos (2 ^ 72))) tt u kinds.Wide h).0

pub narrow_reward-to : (shape : Shape) (reward : ℤ) → IsNarrow shape reward → narrow_reward shape reward ≡ Ok tt
unfolding narrow_reward
narrow_reward-to shape reward h =
    rw (le_to (shape.row_total *ℤ shape.discount.1 *ℤ shape.discount.1 *ℤ pos (max 1 (unsigned_abs reward))) (pos (2 ^ 72)) h) refl

-- the pair is greater than the one before
abbrev pub IsAfter : Option (ℕ × ℕ) → ℕ → ℕ → Type 0
IsAfter None seen to = Unit {0}
IsAfter (Some pair) seen to = (pair.0 < seen) ⊎ ((pair.0 ≡ seen) × (pair.1 < to))

pub lt_true : (a b : ℕ) → a < b → ltb a b ≡ true
lt_true a b h = grind (arith, nat_tests)

pub eq_true : (a b : ℕ) → a ≡ b → eqb a b ≡ true
eq_true a b h = grind (arith, nat_tests)

pub later_pair-ok : (pair : Option (ℕ × ℕ)) (seen to : ℕ) (u : Unit {0}) → later_pair pair seen to ≡ Ok u → IsAfter pair seen to
unfolding later_pair
later_pair-ok None seen to u h = tt
later_pair-ok (Some pair) seen to u h =
    elim (or_true (nat_lt pair.0 seen) ((pair.0 == seen) && nat_lt pair.1 to) (cond_ok (nat_lt pair.0 seen || ((pair.0 == seen) && nat_lt pair.1 to)) tt u kinds.Order h).0) [
      | inl e ↦ inl (ltb-true pair.0 seen e)
      | inr e ↦ let p = and_true (pair.0 == seen) (nat_lt pair.1 to) e in inr (eqb-true pair.0 seen p.0, ltb-true pair.1 to p.1)
    ]

pub later_pair-to : (pair : Option (ℕ × ℕ)) (seen to : ℕ) → IsAfter pair seen to → later_pair pair seen to ≡ Ok tt
unfolding later_pair
later_pair-to None seen to h = refl
later_pair-to (Some pair) seen to (inl l) = rw (lt_true pair.0 seen l) refl
later_pair-to (Some pair) seen to (inr p) = rw (or_last (nat_lt pair.0 seen) ((pair.0 == seen) && nat_lt pair.1 to) (true_and (pair.0 == seen) (nat_lt pair.1 to) (eq_true pair.0 seen p.0) (lt_true pair.1 to p.1))) refl

pub fits_row-ok : (shape : Shape) (sum weight : ℤ) (u : Unit {0}) → fits_row shape sum weight ≡ Ok u → (sum +ℤ weight) ≤ℤ shape.row_total
unfolding fits_row
fits_row-ok shape sum weight u h = le_from (sum +ℤ weight) shape.row_total (cond_ok (int_le (sum +ℤ weight) shape.row_total) tt u kinds.Total h).0

pub fits_row-to : (shape : Shape) (sum weight : ℤ) → (sum +ℤ weight) ≤ℤ shape.row_total → fits_row shape sum weight ≡ Ok tt
unfolding fits_row
fits_row-to shape sum weight h = rw (le_to (sum +ℤ weight) shape.row_total h) refl
