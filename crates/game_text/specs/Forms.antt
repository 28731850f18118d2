-- What the words and numbers of one line say, or the least kind of fault.
use Rattle.std.specs.Prelude.{ℕ, ◌/◌, ◌%◌, ◌==◌, nat_lt, max, ◌&&◌, ◌||◌, List, [], ◌∷◌, Option, Some, None, Result, Ok, Err, ℤ, pos, ◌+ℤ◌, ◌*ℤ◌, int_lt, int_le, unsigned_abs, if◌then◌else◌, codes}
use Rattle.game_model.specs.Limits.{most_belief, most_discount, most_width}
use Rattle.std.specs.Str.{bytes_eq}
use Rattle.scaled_num.specs.Sums.{sum_of}
use Rattle.text_words.specs.Lines.{Line, Word}
use Rattle.text_words.specs.Forms.{is_within}
use Rattle.text_words.specs.Forms as forms
use Rattle.game_model.specs.declared.parts.Shape.{Shape}
use Rattle.game_text.specs.declared.fault.Kind.{Kind}
use Rattle.game_text.specs.declared.fault.Kind.TheVariants as kinds

-- the numbers of a line of this form: its first word, and how many numbers follow
abbrev pub numbers_after : Word → ℕ → Line → Result (List ℤ) Kind
numbers_after = forms.numbers_after kinds.Shape kinds.Number

-- a small number in its limits
unfoldable pub within : ℕ → ℕ → ℤ → Result ℕ Kind
within low high number = if is_within (pos low) (pos high) number then Ok (unsigned_abs number) else Err kinds.Range

-- the line is `osposg 1`
unfoldable pub version_line : Line → Result (Unit {0}) Kind
version_line [] = Err kinds.Version
version_line (name ∷ []) = Err kinds.Version
version_line (name ∷ number ∷ []) =
    if bytes_eq name (codes "osposg") && bytes_eq number (codes "1") then Ok tt else Err kinds.Version
version_line (name ∷ number ∷ more ∷ words) = Err kinds.Version

-- a discount: 0 <= over < under <= 2^20
unfoldable pub discount_within : ℤ → ℤ → Result (ℤ × ℤ) Kind
discount_within over under =
    if int_le (pos 0) over && int_lt over under && int_le under (pos most_discount) then Ok (over, under) else Err kinds.Range

-- the total of the first belief is in its limits
unfoldable pub total_within : List ℤ → Result (Unit {0}) Kind
total_within weights = if is_within (pos 1) (pos most_belief) (sum_of weights) then Ok tt else Err kinds.Belief

-- the triple of this number, in rising order
abbrev pub state_at : Shape → ℕ → ℕ
state_at shape k = k / shape.informed_actions / shape.own_actions

abbrev pub own_at : Shape → ℕ → ℕ
own_at shape k = k / shape.informed_actions % shape.own_actions

abbrev pub informed_at : Shape → ℕ → ℕ
informed_at shape k = k % shape.informed_actions

-- the triple is the next one, where so many were begun
unfoldable pub next_triple : Shape → ℕ → ℕ → ℕ → ℕ → Result (Unit {0}) Kind
next_triple shape begun s a c =
    if (s == state_at shape begun) && (a == own_at shape begun) && (c == informed_at shape begun) then Ok tt else Err kinds.Order

-- no row was begun, or the weights of the last one sum to the row total
unfoldable pub full_row : Shape → ℕ → ℤ → Result (Unit {0}) Kind
full_row shape begun sum =
    if (begun == 0) || is_within shape.row_total shape.row_total sum then Ok tt else Err kinds.Total

-- the width rule: D * Q * Q * max(1, |r|) <= 2^72
unfoldable pub narrow_reward : Shape → ℤ → Result (Unit {0}) Kind
narrow_reward shape reward =
    if int_le (shape.row_total *ℤ shape.discount.1 *ℤ shape.discount.1 *ℤ pos (max 1 (unsigned_abs reward))) (pos most_width) then Ok tt else Err kinds.Wide

-- the pair is greater than that of the `out` line just before, where there is one
unfoldable pub later_pair : Option (ℕ × ℕ) → ℕ → ℕ → Result (Unit {0}) Kind
later_pair None seen to = Ok tt
later_pair (Some pair) seen to =
    if nat_lt pair.0 seen || ((pair.0 == seen) && nat_lt pair.1 to) then Ok tt else Err kinds.Order

-- the row's sum stays within the row total
unfoldable pub fits_row : Shape → ℤ → ℤ → Result (Unit {0}) Kind
fits_row shape sum weight = if int_le (sum +ℤ weight) shape.row_total then Ok tt else Err kinds.Total
