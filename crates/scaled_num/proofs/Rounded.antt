-- Quotients rounded down and up exist.
use Rattle.std.proofs.Common.{◌<◌, arith}
use Rattle.std.specs.Prelude.{ℤ, pos, ◌+ℤ◌, ◌-ℤ◌, ◌*ℤ◌, ◌≤ℤ◌, ◌<ℤ◌, unsigned_abs}
use Rattle.std.specs.Prelude.{int_div, int_rem}
use Rattle.std.proofs.lemmas.Int.{by_lt_z, ints, quot-rem, rem_below}
use Rattle.scaled_num.proofs.Quotient.{down_else, down_then, up_else, up_then}

abbrev pub IsRoundedDown : ℤ → ℤ → ℤ → Type 0
IsRoundedDown a b q = ((q *ℤ b) ≤ℤ a) × (a <ℤ (q *ℤ b +ℤ b))

abbrev pub IsRoundedUp : ℤ → ℤ → ℤ → Type 0
IsRoundedUp a b q = (a ≤ℤ (q *ℤ b)) × ((q *ℤ b) <ℤ (a +ℤ b))

small : (a b : ℤ) → pos 0 <ℤ b → unsigned_abs (int_rem a b) < unsigned_abs b
small a b p = rem_below a b (omega (arith, ints))

pub rounded-down : (a b : ℤ) → pos 0 <ℤ b → (q : ℤ) × IsRoundedDown a b q
rounded-down a b p =
    by_lt_z (int_rem a b) (pos 0) (λ n. (int_div a b -ℤ pos 1, down_then a b (int_div a b) (int_rem a b) (quot-rem a b) (small a b p) p n))
    (λ n. (int_div a b, down_else a b (int_div a b *ℤ b) (int_rem a b) (quot-rem a b) (small a b p) p n))

pub rounded-up : (a b : ℤ) → pos 0 <ℤ b → (q : ℤ) × IsRoundedUp a b q
rounded-up a b p =
    by_lt_z (pos 0) (int_rem a b) (λ n. (int_div a b +ℤ pos 1, up_then a b (int_div a b) (int_rem a b) (quot-rem a b) (small a b p) p n))
    (λ n. (int_div a b, up_else a b (int_div a b *ℤ b) (int_rem a b) (quot-rem a b) (small a b p) p n))
