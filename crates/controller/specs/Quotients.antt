-- Quotients with their remainders.
use Rattle.std.specs.Prelude.{ℤ, pos, ◌+ℤ◌, ◌*ℤ◌, ◌≤ℤ◌, ◌<ℤ◌, ◌≡◌, ◌≤◌, ◌^◌, unsigned_abs}
use Rattle.game_model.specs.Game.{IsWithin}
use Rattle.controller.specs.declared.quotients.Quotient.{Quotient}

-- the greatest divisor
abbrev pub most_under : ℤ
most_under = pos (2 ^ 20)

-- a quotient in its limits, with a remainder below its divisor
pub record IsNarrow (q : Quotient) : Type 0 where
  pub under : IsWithin (pos 1) most_under q.under
  pub rest : (pos 0 ≤ℤ q.rest) × (q.rest <ℤ q.under)
  pub whole : unsigned_abs q.whole ≤ 2 ^ 121

-- the number that is divided
abbrev pub over_of : Quotient → ℤ
over_of q = q.whole *ℤ q.under +ℤ q.rest

-- the quotient of a number by a divisor
pub record IsQuotient (over under : ℤ) (q : Quotient) : Type 0 where
  pub over_is : over_of q ≡ over
  pub under_is : q.under ≡ under
  pub narrow : IsNarrow q

-- upper <= lower + gap, over the product of all three divisors
abbrev pub IsAtMostSum : Quotient → Quotient → Quotient → Type 0
IsAtMostSum upper lower gap =
    (over_of upper *ℤ (lower.under *ℤ gap.under)) ≤ℤ (over_of lower *ℤ (upper.under *ℤ gap.under) +ℤ over_of gap *ℤ (upper.under *ℤ lower.under))
