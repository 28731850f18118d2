-- A text as the list of what its lines say: which texts are accepted, and where the others are refused.
use Rattle.std.specs.Prelude.{◌≡◌, ◌⊎◌, ℕ, ◌+◌, ◌==◌, ◌&&◌, if◌then◌else◌, List, [], ◌∷◌, ◌++◌, reverse, length, ⊤}
use Rattle.text_words.specs.Lines.{Line}
use Rattle.game_text.specs.Plain.{IsWordless, after_lines, completed, ends_open, lines_of, number_in, pieces_of}
use Rattle.game_text.specs.declared.fault.Kind.{Kind}
use Rattle.game_text.specs.declared.fault.Kind.TheVariants as kinds
use Rattle.game_text.specs.Entries.{Entry, End}
use Rattle.game_text.specs.Rules.{IsLeast, IsPassed}

-- these lines say these entries, and no kind applies to one of the lines; both have the latest first
abbrev pub ArePassed : List Line → List Entry → Type 0
ArePassed [] [] = ⊤
ArePassed [] (entry ∷ entries) = ⊥
ArePassed (line ∷ lines) [] = ⊥
ArePassed (line ∷ lines) (entry ∷ entries) = IsPassed entries line entry × ArePassed lines entries

-- Of these lines, so many are passed and say these entries, the latest first, and the rest are left.
abbrev pub Passes : List Line → ℕ → List Entry → List Line → Type 0
Passes lines count entries rest =
    (before : List Line) × (lines ≡ reverse before ++ rest) × (length before ≡ count) × ArePassed before entries

-- a further line is due
abbrev pub IsUnfinished : List Entry → Type 0
IsUnfinished (End ∷ before) = ⊥
IsUnfinished _ = ⊤

-- the line that is due is not there, or this is the least kind that applies to it
abbrev pub IsLineRefused : List Entry → List Line → Kind → Type 0
IsLineRefused before [] kind = kind ≡ kinds.Missing
IsLineRefused before (line ∷ rest) kind = IsLeast before line kind

-- the line in this place is the first refused one, and this is its least kind
abbrev pub Refuses : List Line → ℕ → Kind → Type 0
Refuses lines place kind =
    (count : ℕ) × (entries : List Entry) × (rest : List Line) × (place ≡ count + 1) × Passes lines count entries rest
    × IsUnfinished entries × IsLineRefused entries rest kind

-- the line of this number is the first refused one of the text, and this is its least kind
abbrev pub RefusesText : List ℕ → ℕ → Kind → Type 0
RefusesText text number kind = (place : ℕ) × Refuses (lines_of text) place kind × (number ≡ number_in place text)

-- the lines are a text, to its `end` line
abbrev pub Accepts : List Line → ℕ → List Entry → List Line → Type 0
Accepts lines count entries rest = Passes lines count (End ∷ entries) rest

-- a line that has words, or a piece of one, follows the `end` line
abbrev pub GoesOn : List ℕ → ℕ → Kind → Type 0
GoesOn text number kind =
    (count : ℕ) × (entries : List Entry) × (rest : List Line) × Accepts (lines_of text) count entries rest
    × (IsWordless (after_lines count text) → ⊥) × (number ≡ number_in (count + 1) text) × (kind ≡ kinds.Trailing)

-- a piece that is read as a whole `end` line is missing where `end` is not due
abbrev pub told_open : Kind → Kind
told_open kinds.Version = kinds.Missing
told_open kinds.Shape = kinds.Missing
told_open kind = kind

unfoldable pub told : List ℕ → ℕ → Kind → Kind
told text number kind = if ends_open text && (number == length (pieces_of text)) then told_open kind else kind

-- the whole of these bytes is refused: at a line that is refused, or as words follow the `end` line
abbrev pub RefusesWhole : List ℕ → ℕ → Kind → Type 0
RefusesWhole text number kind = RefusesText text number kind ⊎ GoesOn text number kind

-- the same of bytes whose last piece may be the `end` line
abbrev pub RefusesAlone : List ℕ → ℕ → Kind → Type 0
RefusesAlone text number kind = (found : Kind) × RefusesWhole (completed text) number found × (kind ≡ told text number found)
