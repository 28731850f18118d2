-- How far the reader is in the rows, and what it reads there.
use Rattle.std.specs.Prelude.{ℕ, ◌+◌, List, [], ◌∷◌, Option, Some, None, Result, Ok, pos, ◌+ℤ◌, ◌≤ℤ◌, if◌then◌else◌, codes, ⊤}
use Rattle.text_words.specs.Lines.{Line}
use Rattle.text_words.specs.Forms.{◌>>=◌, begins, first_of}
use Rattle.game_model.specs.Game.{IsShape}
use Rattle.game_text.specs.declared.fault.Kind.{Kind}
use Rattle.game_text.specs.declared.fault.Kind.TheVariants as kinds
use Rattle.game_text.specs.declared.progress.Progress.{Progress}
use Rattle.game_text.specs.declared.progress.Latest.{Latest}
use Rattle.game_text.specs.declared.progress.Latest.TheVariants.{Start, Row, Pair}
use Rattle.game_text.specs.declared.progress.RowEntry.{RowEntry}
use Rattle.game_text.specs.declared.progress.RowEntry.TheVariants as row
use Rattle.game_text.specs.Entries.{Entry, First, Step, Out, End, shape_in, begun_in, sum_in, step_said, out_said, row_end_said}

-- the entry of a line of the rows
abbrev pub entry_in : RowEntry → Entry
entry_in (row.Step state own informed reward) = Step state own informed reward
entry_in (row.Out landing) = Out landing
entry_in row.End = End

abbrev pub pair_of : Latest → Option (ℕ × ℕ)
pair_of (Pair seen to) = Some (seen, to)
pair_of _ = None

-- what a line says where the reading is this far
unfoldable pub row_said : Progress → Line → Result Entry Kind
row_said progress line = line_after progress.latest
  where
    line_after : Latest → Result Entry Kind
    line_after Start = step_said progress.shape progress.begun progress.sum line
    line_after Row = out_said progress.shape progress.sum None line
    line_after (Pair seen to) = if begins (codes "out") line then out_said progress.shape progress.sum (Some (seen, to)) line else row_end_said progress.shape progress.begun progress.sum line

-- the same of the next line
unfoldable pub row_at : Progress → List Line → Result (Entry × List Line) Kind
row_at progress lines = do
  next ← first_of kinds.Missing lines
  entry ← row_said progress next.0
  Ok (entry, next.1)

-- a line of the rows, or the `end` line, is due
abbrev pub IsOpen : List Entry → Type 0
IsOpen (First weights ∷ before) = ⊤
IsOpen (Step state own informed reward ∷ before) = ⊤
IsOpen (Out landing ∷ before) = ⊤
IsOpen _ = ⊥

abbrev pub latest_of : List Entry → Latest
latest_of (Step state own informed reward ∷ before) = Row
latest_of (Out landing ∷ before) = Pair landing.seen landing.to
latest_of _ = Start

-- how far the reading is behind these entries
abbrev pub progress_of : List Entry → Progress
progress_of entries = record { shape = shape_in entries; begun = begun_in entries; sum = sum_in entries; latest = latest_of entries }

-- the progress keeps its limits
pub record IsProgress (progress : Progress) : Type 0 where
  pub shape : IsShape progress.shape
  pub low : pos 0 ≤ℤ progress.sum
  pub high : progress.sum ≤ℤ progress.shape.row_total

-- what a line says stays in its limits here
abbrev pub FitsProgress : Progress → RowEntry → Type 0
FitsProgress progress (row.Step state own informed reward) = Unit {0}
FitsProgress progress (row.Out landing) = (pos 0 ≤ℤ landing.weight) × ((progress.sum +ℤ landing.weight) ≤ℤ progress.shape.row_total)
FitsProgress progress row.End = Unit {0}

-- how far the reading is after a line
abbrev pub progress_after : Progress → RowEntry → Progress
progress_after progress (row.Step state own informed reward) = record progress { begun = progress.begun + 1; sum = pos 0; latest = Row }
progress_after progress (row.Out landing) = record progress { sum = progress.sum +ℤ landing.weight; latest = Pair landing.seen landing.to }
progress_after progress row.End = progress

-- the entries after these rows, the latest first
abbrev pub said : List RowEntry → List Entry → List Entry
said [] before = before
said (entry ∷ entries) before = said entries (entry_in entry ∷ before)
