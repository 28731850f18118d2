-- The reader's tests: each gives its value exactly where its rule is kept, and else its kind.
use Rattle.std.proofs.Common.{◌≡◌, ℕ, ◌^◌, Bool, true, ◌&&◌, ◌||◌, List, Option, Some, None, ℤ, pos, refl, arith, inl, inr, ◌⊎◌}
use Rattle.game_model.specs.Limits.{most_belief, most_discount}
use Rattle.std.specs.Prelude.{◌≤ℤ◌, ◌<ℤ◌, ◌+ℤ◌, ◌*ℤ◌, unsigned_abs, max, int_le, int_lt, ◌==◌, nat_lt}
use Rattle.std.proofs.lemmas.Int.{ints}
use Rattle.std.proofs.lemmas.Bool.{eqb-true, ltb-true}
use Rattle.scaled_num.specs.Sums.{sum_of}
use Rattle.text_words.specs.Forms.{is_within}
use Rattle.text_words.proofs.Limits.{and_true, true_and, or_true, or_last, le_from, le_to, lt_from, lt_to, within_from, within_to}
use Rattle.text_words.proofs.Chains.{Tests, cond_tests}
use Rattle.game_model.specs.declared.parts.Shape.{Shape}
use Rattle.game_model.specs.Game.{IsWithin}
use Rattle.game_text.specs.declared.fault.Kind.TheVariants as kinds
use Rattle.game_text.specs.Forms.{within, discount_within, total_within, state_at, own_at, informed_at, next_triple, full_row, narrow_reward, later_pair, fits_row}
use Rattle.game_text.proofs.Guards.{IsAfter, squeezed, eq_true, lt_true}

pub within-tests : (low high : ℕ) (x : ℤ) → Tests (within low high x) kinds.Range (unsigned_abs x) (IsWithin (pos low) (pos high) x)
unfolding within
within-tests low high x = cond_tests (is_within (pos low) (pos high) x) (unsigned_abs x) kinds.Range (IsWithin (pos low) (pos high) x) (within_from (pos low) (pos high) x) (within_to (pos low) (pos high) x)

abbrev pub IsDiscountOf : ℤ → ℤ → Type 0
IsDiscountOf over under = (pos 0 ≤ℤ over) × (over <ℤ under) × (under ≤ℤ pos most_discount)

pub discount-tests : (over under : ℤ) → Tests (discount_within over under) kinds.Range (over, under) (IsDiscountOf over under)
unfolding discount_within
discount-tests over under =
    cond_tests (int_le (pos 0) over && int_lt over under && int_le under (pos most_discount)) (over, under) kinds.Range (IsDiscountOf over under)
    (λ e.
    (let q = and_true (int_le (pos 0) over && int_lt over under) (int_le under (pos most_discount)) e in
    let r = and_true (int_le (pos 0) over) (int_lt over under) q.0 in
    (le_from (pos 0) over r.0, lt_from over under r.1, le_from under (pos most_discount) q.1)))
    (λ p. true_and (int_le (pos 0) over && int_lt over under) (int_le under (pos most_discount)) (true_and (int_le (pos 0) over) (int_lt over under) (le_to (pos 0) over p.0) (lt_to over under p.1)) (le_to under (pos most_discount) p.2))

pub total-tests : (weights : List ℤ) → Tests (total_within weights) kinds.Belief tt (IsWithin (pos 1) (pos most_belief) (sum_of weights))
unfolding total_within
total-tests weights =
    cond_tests (is_within (pos 1) (pos most_belief) (sum_of weights)) tt kinds.Belief (IsWithin (pos 1) (pos most_belief) (sum_of weights)) (within_from (pos 1) (pos most_belief) (sum_of weights)) (within_to (pos 1) (pos most_belief) (sum_of weights))

abbrev pub IsTripleAt : Shape → ℕ → ℕ → ℕ → ℕ → Type 0
IsTripleAt shape k s a c = (s ≡ state_at shape k) × (a ≡ own_at shape k) × (c ≡ informed_at shape k)

pub triple-tests : (shape : Shape) (k s a c : ℕ) → Tests (next_triple shape k s a c) kinds.Order tt (IsTripleAt shape k s a c)
unfolding next_triple
triple-tests shape k s a c =
    cond_tests ((s == state_at shape k) && (a == own_at shape k) && (c == informed_at shape k)) tt kinds.Order (IsTripleAt shape k s a c)
    (λ e.
    (let q = and_true ((s == state_at shape k) && (a == own_at shape k)) (c == informed_at shape k) e in
    let r = and_true (s == state_at shape k) (a == own_at shape k) q.0 in
    (eqb-true s (state_at shape k) r.0, eqb-true a (own_at shape k) r.1, eqb-true c (informed_at shape k) q.1)))
    (λ p. true_and ((s == state_at shape k) && (a == own_at shape k)) (c == informed_at shape k) (true_and (s == state_at shape k) (a == own_at shape k) (eq_true s (state_at shape k) p.0) (eq_true a (own_at shape k) p.1)) (eq_true c (informed_at shape k) p.2))

abbrev pub IsFullAt : Shape → ℕ → ℤ → Type 0
IsFullAt shape begun sum = (begun ≡ 0) ⊎ (sum ≡ shape.row_total)

full_from : (shape : Shape) (begun : ℕ) (sum : ℤ) → ((begun == 0) || is_within shape.row_total shape.row_total sum) ≡ true → IsFullAt shape begun sum
full_from shape begun sum h = elim (or_true (begun == 0) (is_within shape.row_total shape.row_total sum) h) [
  | inl e ↦ inl (eqb-true begun 0 e)
  | inr e ↦ inr (squeezed sum shape.row_total (within_from shape.row_total shape.row_total sum e))
]

or_first : (a b : Bool) → a ≡ true → (a || b) ≡ true
or_first a b e = rw e refl

full_to : (shape : Shape) (begun : ℕ) (sum : ℤ) → IsFullAt shape begun sum → ((begun == 0) || is_within shape.row_total shape.row_total sum) ≡ true
full_to shape begun sum (inl e) = or_first (begun == 0) (is_within shape.row_total shape.row_total sum) (eq_true begun 0 e)
full_to shape begun sum (inr e) =
    or_last (begun == 0) (is_within shape.row_total shape.row_total sum) (within_to shape.row_total shape.row_total sum (omega (arith, ints, e), omega (arith, ints, e)))

pub full-tests : (shape : Shape) (begun : ℕ) (sum : ℤ) → Tests (full_row shape begun sum) kinds.Total tt (IsFullAt shape begun sum)
unfolding full_row
full-tests shape begun sum = cond_tests ((begun == 0) || is_within shape.row_total shape.row_total sum) tt kinds.Total (IsFullAt shape begun sum) (full_from shape begun sum) (full_to shape begun sum)

abbrev pub width_of : Shape → ℤ → ℤ
width_of shape reward = shape.row_total *ℤ shape.discount.1 *ℤ shape.discount.1 *ℤ pos (max 1 (unsigned_abs reward))

pub narrow-tests : (shape : Shape) (reward : ℤ) → Tests (narrow_reward shape reward) kinds.Wide tt (width_of shape reward ≤ℤ pos (2 ^ 72))
unfolding narrow_reward
narrow-tests shape reward = cond_tests (int_le (width_of shape reward) (pos (2 ^ 72))) tt kinds.Wide (width_of shape reward ≤ℤ pos (2 ^ 72)) (le_from (width_of shape reward) (pos (2 ^ 72))) (le_to (width_of shape reward) (pos (2 ^ 72)))

after_from : (pair : ℕ × ℕ) (seen to : ℕ) → (nat_lt pair.0 seen || ((pair.0 == seen) && nat_lt pair.1 to)) ≡ true → IsAfter (Some pair) seen to
after_from pair seen to h = elim (or_true (nat_lt pair.0 seen) ((pair.0 == seen) && nat_lt pair.1 to) h) [
  | inl e ↦ inl (ltb-true pair.0 seen e)
  | inr e ↦ let p = and_true (pair.0 == seen) (nat_lt pair.1 to) e in inr (eqb-true pair.0 seen p.0, ltb-true pair.1 to p.1)
]

after_to : (pair : ℕ × ℕ) (seen to : ℕ) → IsAfter (Some pair) seen to → (nat_lt pair.0 seen || ((pair.0 == seen) && nat_lt pair.1 to)) ≡ true
after_to pair seen to (inl l) = or_first (nat_lt pair.0 seen) ((pair.0 == seen) && nat_lt pair.1 to) (lt_true pair.0 seen l)
after_to pair seen to (inr p) =
    or_last (nat_lt pair.0 seen) ((pair.0 == seen) && nat_lt pair.1 to) (true_and (pair.0 == seen) (nat_lt pair.1 to) (eq_true pair.0 seen p.0) (lt_true pair.1 to p.1))

pub later-tests : (pair : Option (ℕ × ℕ)) (seen to : ℕ) → Tests (later_pair pair seen to) kinds.Order tt (IsAfter pair seen to)
unfolding later_pair
later-tests None seen to = inl (refl, tt)
later-tests (Some pair) seen to =
    cond_tests (nat_lt pair.0 seen || ((pair.0 == seen) && nat_lt pair.1 to)) tt kinds.Order (IsAfter (Some pair) seen to) (after_from pair seen to) (after_to pair seen to)

pub fits-tests : (shape : Shape) (sum weight : ℤ) → Tests (fits_row shape sum weight) kinds.Total tt ((sum +ℤ weight) ≤ℤ shape.row_total)
unfolding fits_row
fits-tests shape sum weight = cond_tests (int_le (sum +ℤ weight) shape.row_total) tt kinds.Total ((sum +ℤ weight) ≤ℤ shape.row_total) (le_from (sum +ℤ weight) shape.row_total) (le_to (sum +ℤ weight) shape.row_total)
