-- How the reader goes through a text: what it reads line by line, and where it stops.
use Rattle.std.specs.Prelude.{◌≡◌, ◌⊎◌, ℕ, ◌+◌, List, [], ◌∷◌, ◌++◌, reverse, length, Result, Ok, Err, ⊤}
use Rattle.text_words.specs.Lines.{Line}
use Rattle.game_text.specs.Plain.{IsWordless, after_lines, lines_of, number_in}
use Rattle.text_words.specs.Forms.{◌>>=◌, first_of}
use Rattle.game_text.specs.declared.fault.Kind.{Kind}
use Rattle.game_text.specs.declared.fault.Kind.TheVariants as kinds
use Rattle.game_text.specs.declared.fault.TextFault.{TextFault}
use Rattle.game_text.specs.declared.fault.TextFault.TheVariants.{Line as LineOf, OutOfMemory}
use Rattle.game_text.specs.Entries.{Entry, End, entry_of}
use Rattle.game_text.specs.Reading.{IsUnfinished}

-- these lines say these entries; both have the latest first
abbrev pub Say : List Line → List Entry → Type 0
Say [] [] = ⊤
Say [] (entry ∷ entries) = ⊥
Say (line ∷ lines) [] = ⊥
Say (line ∷ lines) (entry ∷ entries) = (entry_of entries line ≡ Ok entry) × Say lines entries

-- what the next line says, and the lines after it
unfoldable pub line_at : List Entry → List Line → Result (Entry × List Line) Kind
line_at before lines = do
  next ← first_of kinds.Missing lines
  entry ← entry_of before next.0
  Ok (entry, next.1)

-- Of these lines, so many say these entries, the latest first, and the rest are left.
abbrev pub Reads : List Line → ℕ → List Entry → List Line → Type 0
Reads lines count entries rest =
    (before : List Line) × (lines ≡ reverse before ++ rest) × (length before ≡ count) × Say before entries

-- the reader stops at the line in this place, with this kind
abbrev pub Halts : List Line → ℕ → Kind → Type 0
Halts lines place kind =
    (count : ℕ) × (entries : List Entry) × (rest : List Line) × (place ≡ count + 1) × Reads lines count entries rest × IsUnfinished entries × (line_at entries rest ≡ Err kind)

-- the reader comes to the `end` line
abbrev pub ReadsAll : List Line → ℕ → List Entry → List Line → Type 0
ReadsAll lines count entries rest = Reads lines count (End ∷ entries) rest

-- the reader stops at the line of this number
abbrev pub Stops : List ℕ → ℕ → Kind → Type 0
Stops text number kind = (place : ℕ) × Halts (lines_of text) place kind × (number ≡ number_in place text)

-- words are left behind the `end` line
abbrev pub GoesPast : List ℕ → ℕ → Kind → Type 0
GoesPast text number kind =
    (count : ℕ) × (entries : List Entry) × (rest : List Line) × ReadsAll (lines_of text) count entries rest
    × (IsWordless (after_lines count text) → ⊥) × (number ≡ number_in (count + 1) text) × (kind ≡ kinds.Trailing)

-- the reader stops, or words are left behind the `end` line
abbrev pub StopsWhole : List ℕ → ℕ → Kind → Type 0
StopsWhole text number kind = Stops text number kind ⊎ GoesPast text number kind

-- the fault tells where the reader stops
abbrev pub IsStopped : List ℕ → TextFault → Type 0
IsStopped text (LineOf number kind) = Stops text number kind
IsStopped text OutOfMemory = ⊤
