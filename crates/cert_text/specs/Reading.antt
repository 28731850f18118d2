-- Which bytes are the text of a certificate, line by line, and where the others are refused.
use Rattle.std.specs.Prelude.{◌≡◌, ◌⊎◌, ℕ, ◌+◌, ◌<◌, List, [], ◌∷◌, ◌++◌, length, ⊤}
use Rattle.text_words.specs.Lines.{Line, lines_of, after_lines}
use Rattle.game_model.specs.Game.{GameData}
use Rattle.cert_text.specs.declared.fault.CertKind.{CertKind}
use Rattle.cert_text.specs.declared.fault.CertKind.TheVariants as kinds
use Rattle.cert_text.specs.Entries.{Entry, End}
use Rattle.cert_text.specs.Rules.{IsLeast, IsPassed}

-- Behind the entries before, these lines say these entries, and no kind applies to one of the lines.
abbrev pub ArePassed : GameData → List Entry → List Line → List Entry → Type 0
ArePassed g before [] [] = ⊤
ArePassed g before [] (entry ∷ entries) = ⊥
ArePassed g before (line ∷ lines) [] = ⊥
ArePassed g before (line ∷ lines) (entry ∷ entries) = IsPassed g before line entry × ArePassed g (entry ∷ before) lines entries

-- the entries behind those before, the latest first
abbrev pub onto : List Entry → List Entry → List Entry
onto before [] = before
onto before (entry ∷ entries) = onto (entry ∷ before) entries

-- the latest is the `end` line
abbrev pub AreEnded : List Entry → Type 0
AreEnded [] = ⊥
AreEnded (End ∷ before) = ⊤
AreEnded (entry ∷ before) = ⊥

-- The first of the lines are passed, and the rest are left.
abbrev pub Passes : GameData → List Line → List Entry → List Line → Type 0
Passes g lines entries rest = (front : List Line) × (lines ≡ front ++ rest) × ArePassed g [] front entries

-- the line that is due is not there, or this is the least kind that applies to it
abbrev pub IsLineRefused : GameData → List Entry → List Line → CertKind → Type 0
IsLineRefused g before [] kind = kind ≡ kinds.Missing
IsLineRefused g before (line ∷ rest) kind = IsLeast g before line kind

-- the bytes are a text for this game, to the last
abbrev pub AcceptsCert : GameData → List ℕ → List Entry → Type 0
AcceptsCert g bytes entries =
    Passes g (lines_of bytes) entries [] × AreEnded (onto [] entries) × (after_lines (length entries) bytes ≡ [])

-- a further line is due, and the first that is refused has this number and this least kind
abbrev pub RefusesLine : GameData → List Line → ℕ → CertKind → Type 0
RefusesLine g lines number kind =
    (entries : List Entry) × (rest : List Line) × (number ≡ length entries + 1) × Passes g lines entries rest
    × (AreEnded (onto [] entries) → ⊥) × IsLineRefused g (onto [] entries) rest kind

-- bytes follow the `end` line
abbrev pub GoesOn : GameData → List ℕ → ℕ → CertKind → Type 0
GoesOn g bytes number kind =
    (entries : List Entry) × (rest : List Line) × Passes g (lines_of bytes) entries rest × AreEnded (onto [] entries)
    × (0 < length (after_lines (length entries) bytes)) × (number ≡ length entries + 1) × (kind ≡ kinds.Trailing)

-- The bytes are refused at the line of this number, with this least kind: as that line is refused, or as bytes
-- follow the `end` line.
abbrev pub RefusesCert : GameData → List ℕ → ℕ → CertKind → Type 0
RefusesCert g bytes number kind = RefusesLine g (lines_of bytes) number kind ⊎ GoesOn g bytes number kind
