-- How the reader goes through a text: what it reads from where it is, and where it stops.
use Rattle.std.specs.Prelude.{◌≡◌, ◌≢◌, ◌⊎◌, ℕ, ◌+◌, ◌<◌, List, [], ◌∷◌, ◌++◌, length, Result, Ok, Err, ⊤}
use Rattle.text_words.specs.Lines.{Line, lines_of, after_lines}
use Rattle.text_words.specs.Forms.{◌>>=◌, first_of}
use Rattle.game_model.specs.Game.{GameData}
use Rattle.controller.specs.Certificates.{CertificateData}
use Rattle.cert_text.specs.declared.fault.CertFault.{CertFault}
use Rattle.cert_text.specs.declared.fault.CertFault.TheVariants.{Line as LineOf, OutOfMemory}
use Rattle.cert_text.specs.declared.fault.CertKind.{CertKind}
use Rattle.cert_text.specs.declared.fault.CertKind.TheVariants as kinds
use Rattle.cert_text.specs.declared.progress.Latest.TheVariants as latest
use Rattle.cert_text.specs.declared.progress.Progress.{Progress}
use Rattle.cert_text.specs.Entries.{Entry, entry_of, progress_after, behind, start_of}
use Rattle.cert_text.specs.Made.{blank, with_entries}

-- from here these lines say these entries
abbrev pub Say : Progress → List Line → List Entry → Type 0
Say progress [] [] = ⊤
Say progress [] (entry ∷ entries) = ⊥
Say progress (line ∷ lines) [] = ⊥
Say progress (line ∷ lines) (entry ∷ entries) = (entry_of progress line ≡ Ok entry) × Say (progress_after progress entry) lines entries

-- what the next line says, and the lines after it
unfoldable pub line_at : Progress → List Line → Result (Entry × List Line) CertKind
line_at progress lines = do
  next ← first_of kinds.Missing lines
  entry ← entry_of progress next.0
  Ok (entry, next.1)

-- The first of these lines say these entries, and the rest are left.
abbrev pub Reads : Progress → List Line → List Entry → List Line → Type 0
Reads progress lines entries rest = (front : List Line) × (lines ≡ front ++ rest) × Say progress front entries

-- a further line is due
abbrev pub IsUnfinished : Progress → Type 0
IsUnfinished progress = progress.latest ≢ latest.End

-- the reader stops at the line of this number, with this kind
abbrev pub Refuses : Progress → List Line → ℕ → CertKind → Type 0
Refuses progress lines number kind =
    (entries : List Entry) × (rest : List Line) × (number ≡ length entries + 1) × Reads progress lines entries rest
    × IsUnfinished (behind progress entries) × (line_at (behind progress entries) rest ≡ Err kind)

-- the reader comes to the `end` line
abbrev pub Accepts : Progress → List Line → List Entry → List Line → Type 0
Accepts progress lines entries rest = Reads progress lines entries rest × ((behind progress entries).latest ≡ latest.End)

-- no bytes are left behind the `end` line
abbrev pub AcceptsAll : GameData → List ℕ → List Entry → Type 0
AcceptsAll g bytes entries =
    Accepts (start_of g) (lines_of bytes) entries [] × (after_lines (length entries) bytes ≡ [])

-- bytes are left behind the `end` line
abbrev pub IsLonger : GameData → List ℕ → ℕ → CertKind → Type 0
IsLonger g bytes number kind =
    (entries : List Entry) × (rest : List Line) × Accepts (start_of g) (lines_of bytes) entries rest
    × (0 < length (after_lines (length entries) bytes)) × (number ≡ length entries + 1) × (kind ≡ kinds.Trailing)

-- the reader stops, or bytes are left behind the `end` line
abbrev pub RefusesAll : GameData → List ℕ → ℕ → CertKind → Type 0
RefusesAll g bytes number kind = Refuses (start_of g) (lines_of bytes) number kind ⊎ IsLonger g bytes number kind

-- so many lines of the text, to its `end` line, say this certificate, and these bytes are left
abbrev pub IsDraftOf : Progress → List ℕ → CertificateData → ℕ → List ℕ → Type 0
IsDraftOf start text k count rest =
    (entries : List Entry) × Accepts start (lines_of text) entries (lines_of rest) × (rest ≡ after_lines (length entries) text)
    × (k ≡ with_entries start.limits blank entries) × (count ≡ length entries)

-- the fault tells where the reader stops
abbrev pub IsFaultOf : Progress → List Line → CertFault → Type 0
IsFaultOf progress lines (LineOf number kind) = Refuses progress lines number kind
IsFaultOf progress lines OutOfMemory = ⊤

-- the same of the whole bytes
abbrev pub IsStopped : GameData → List ℕ → CertFault → Type 0
IsStopped g bytes (LineOf number kind) = RefusesAll g bytes number kind
IsStopped g bytes OutOfMemory = ⊤
