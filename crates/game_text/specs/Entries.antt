-- What a line says after those before it, found by looking back.
use Rattle.std.specs.Prelude.{ℕ, ◌+◌, ◌==◌, List, [], ◌∷◌, Option, Some, None, Result, Ok, Err, ℤ, pos, ◌+ℤ◌, neg_ℤ, if◌then◌else◌, codes}
use Rattle.game_model.specs.Limits.{most_actions, most_belief, most_observations, most_reward, most_row_total, most_states}
use Rattle.text_words.specs.Lines.{Line}
use Rattle.text_words.specs.Forms.{◌>>=◌, number_at, begins, limited, below_limit, each_within}
use Rattle.game_model.specs.declared.parts.Shape.{Shape}
use Rattle.game_model.specs.declared.parts.Landing.{Landing}
use Rattle.game_model.specs.Game.{triples}
use Rattle.game_text.specs.declared.fault.Kind.{Kind}
use Rattle.game_text.specs.declared.fault.Kind.TheVariants as kinds
use Rattle.game_text.specs.Forms.{within, numbers_after, version_line, discount_within, total_within, next_triple, full_row, narrow_reward, later_pair, fits_row}

-- what a line says
pub data Entry : Type 0 where
  Version : Entry
  Size : (states own_actions informed_actions observations : ℕ) → Entry
  Total : (total : ℤ) → Entry
  Discount : (over under : ℤ) → Entry
  First : (weights : List ℤ) → Entry
  Step : (state own informed : ℕ) (reward : ℤ) → Entry
  Out : (landing : Landing) → Entry
  End : Entry

-- the shape, as far as the lines before say it; lists of entries have the latest first
abbrev pub shape_in : List Entry → Shape
shape_in [] = record { states = 0; own_actions = 0; informed_actions = 0; observations = 0; row_total = pos 0; discount = (pos 0, pos 0) }
shape_in (Size states own_actions informed_actions observations ∷ before) =
    record (shape_in before) { states = states; own_actions = own_actions; informed_actions = informed_actions; observations = observations }
shape_in (Total total ∷ before) = record (shape_in before) { row_total = total }
shape_in (Discount over under ∷ before) = record (shape_in before) { discount = (over, under) }
shape_in (entry ∷ before) = shape_in before

-- how many rows were begun
abbrev pub begun_in : List Entry → ℕ
begun_in [] = 0
begun_in (Step state own informed reward ∷ before) = begun_in before + 1
begun_in (entry ∷ before) = begun_in before

-- the sum of the weights of the row so far
abbrev pub sum_in : List Entry → ℤ
sum_in [] = pos 0
sum_in (Out landing ∷ before) = sum_in before +ℤ landing.weight
sum_in (entry ∷ before) = pos 0

-- the observation and the next state of an `out` line just before
abbrev pub pair_in : List Entry → Option (ℕ × ℕ)
pair_in (Out landing ∷ before) = Some (landing.seen, landing.to)
pair_in _ = None

unfoldable pub version_said : Line → Result Entry Kind
version_said line = do
  _ ← version_line line
  Ok Version

unfoldable pub size_said : Line → Result Entry Kind
size_said line = do
  ns ← numbers_after (codes "size") 4 line
  states ← within 1 most_states (number_at ns 0)
  own_actions ← within 1 most_actions (number_at ns 1)
  informed_actions ← within 1 most_actions (number_at ns 2)
  observations ← within 1 most_observations (number_at ns 3)
  Ok (Size states own_actions informed_actions observations)

unfoldable pub total_said : Line → Result Entry Kind
total_said line = do
  ns ← numbers_after (codes "total") 1 line
  total ← limited kinds.Range (pos 1) (pos most_row_total) (number_at ns 0)
  Ok (Total total)

unfoldable pub discount_said : Line → Result Entry Kind
discount_said line = do
  ns ← numbers_after (codes "discount") 2 line
  discount ← discount_within (number_at ns 0) (number_at ns 1)
  Ok (Discount discount.0 discount.1)

unfoldable pub first_said : ℕ → Line → Result Entry Kind
first_said states line = do
  ns ← numbers_after (codes "first") states line
  _ ← each_within kinds.Range (pos 0) (pos most_belief) ns
  _ ← total_within ns
  Ok (First ns)

-- a `step` line, where so many were begun, the last of which has this sum
unfoldable pub step_said : Shape → ℕ → ℤ → Line → Result Entry Kind
step_said shape begun sum line = do
  ns ← numbers_after (codes "step") 4 line
  s ← below_limit kinds.Range shape.states (number_at ns 0)
  a ← below_limit kinds.Range shape.own_actions (number_at ns 1)
  c ← below_limit kinds.Range shape.informed_actions (number_at ns 2)
  reward ← limited kinds.Range (neg_ℤ (pos most_reward)) (pos most_reward) (number_at ns 3)
  _ ← next_triple shape begun s a c
  _ ← full_row shape begun sum
  _ ← narrow_reward shape reward
  Ok (Step s a c reward)

-- an `out` line, in a row of this sum, after an `out` line of this pair
unfoldable pub out_said : Shape → ℤ → Option (ℕ × ℕ) → Line → Result Entry Kind
out_said shape sum pair line = do
  ns ← numbers_after (codes "out") 3 line
  seen ← below_limit kinds.Range shape.observations (number_at ns 0)
  to ← below_limit kinds.Range shape.states (number_at ns 1)
  weight ← limited kinds.Range (pos 1) shape.row_total (number_at ns 2)
  _ ← later_pair pair seen to
  _ ← fits_row shape sum weight
  Ok (Out (record { seen = seen; to = to; weight = weight }))

unfoldable pub end_said : Shape → ℕ → ℤ → Line → Result Entry Kind
end_said shape begun sum line = do
  _ ← numbers_after (codes "end") 0 line
  _ ← full_row shape begun sum
  Ok End

-- the next row's `step` line, or `end` where all were begun
unfoldable pub row_end_said : Shape → ℕ → ℤ → Line → Result Entry Kind
row_end_said shape begun sum line =
    if begun == triples shape then end_said shape begun sum line else step_said shape begun sum line

-- what a line says after these entries
unfoldable pub entry_of : List Entry → Line → Result Entry Kind
entry_of [] line = version_said line
entry_of (Version ∷ before) line = size_said line
entry_of (Size states own_actions informed_actions observations ∷ before) line = total_said line
entry_of (Total total ∷ before) line = discount_said line
entry_of (Discount over under ∷ before) line = first_said (shape_in before).states line
entry_of (First weights ∷ before) line = step_said (shape_in before) (begun_in before) (pos 0) line
entry_of (Step state own informed reward ∷ before) line = out_said (shape_in before) (pos 0) None line
entry_of (Out landing ∷ before) line =
    if begins (codes "out") line then out_said (shape_in before) (sum_in before +ℤ landing.weight) (Some (landing.seen, landing.to)) line
    else row_end_said (shape_in before) (begun_in before) (sum_in before +ℤ landing.weight) line
entry_of (End ∷ before) line = Err kinds.Trailing
