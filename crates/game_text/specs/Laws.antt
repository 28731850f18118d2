-- What makes acceptance and refusal exact.
use Rattle.std.specs.Prelude.{◌≡◌, ◌⊎◌, ℕ, List, ◌++◌}
use Rattle.text_words.specs.Lines.{Line}
use Rattle.game_text.specs.Plain.{after_lines, lines_of}
use Rattle.game_model.specs.Game.{GameData, IsGame}
use Rattle.game_text.specs.declared.fault.Kind.{Kind}
use Rattle.game_text.specs.Text.{IsTextOf, IsWholeTextOf, canonical_text}
use Rattle.game_text.specs.Entries.{Entry}
use Rattle.game_text.specs.Reading.{Accepts, RefusesAlone, RefusesText}

-- a text is of one game, and ends at one offset
abbrev pub TextsAreGames : Type 0
TextsAreGames =
    (text rest : List ℕ) (g h : GameData) (other : List ℕ) →
    IsTextOf g text rest → IsTextOf h text other → (g ≡ h) × (rest ≡ other)

-- the whole of bytes is a text of one game
abbrev pub WholeTextsAreGames : Type 0
WholeTextsAreGames = (text : List ℕ) (g h : GameData) → IsWholeTextOf g text → IsWholeTextOf h text → g ≡ h

-- what is accepted is a text of a game
abbrev pub LinesAreTexts : Type 0
LinesAreTexts =
    (text : List ℕ) (count : ℕ) (entries : List Entry) (rest : List Line) →
    Accepts (lines_of text) count entries rest → (g : GameData) × IsTextOf g text (after_lines count text)

-- each text of a game is accepted
abbrev pub TextsAreRead : Type 0
TextsAreRead =
    (text rest : List ℕ) (g : GameData) → IsTextOf g text rest →
    (count : ℕ) × (entries : List Entry) × (after : List Line) × Accepts (lines_of text) count entries after × (after_lines count text ≡ rest)

-- a text is refused at one line, with one kind
abbrev pub RefusedOnce : Type 0
RefusedOnce = (text : List ℕ) (m n : ℕ) (j k : Kind) → RefusesAlone text m j → RefusesAlone text n k → (m ≡ n) × (j ≡ k)

-- the same of a text at the front of bytes
abbrev pub FrontRefusedOnce : Type 0
FrontRefusedOnce = (text : List ℕ) (m n : ℕ) (j k : Kind) → RefusesText text m j → RefusesText text n k → (m ≡ n) × (j ≡ k)

-- what is a text of a game is not refused
abbrev pub TextsAreNotRefused : Type 0
TextsAreNotRefused =
    (text rest : List ℕ) (g : GameData) (number : ℕ) (kind : Kind) →
    IsTextOf g text rest → RefusesText text number kind → ⊥

-- what is a text of a game as a whole is not refused alone
abbrev pub WholeTextsAreNotRefused : Type 0
WholeTextsAreNotRefused =
    (text : List ℕ) (g : GameData) (number : ℕ) (kind : Kind) →
    IsWholeTextOf g text → RefusesAlone text number kind → ⊥

-- a text of a game at the front of bytes is one whatever bytes follow it
abbrev pub AnyRest : Type 0
AnyRest =
    (g : GameData) (front rest other : List ℕ) →
    IsTextOf g (front ++ rest) rest → IsTextOf g (front ++ other) other

-- bytes begin with a text of a game, or are refused
abbrev pub Decided : Type 0
Decided =
    (text : List ℕ) →
    ((g : GameData) × (rest : List ℕ) × IsTextOf g text rest) ⊎ ((number : ℕ) × (kind : Kind) × RefusesText text number kind)

-- bytes are a text of a game, or are refused alone
abbrev pub DecidedAlone : Type 0
DecidedAlone = (text : List ℕ) → ((g : GameData) × IsWholeTextOf g text) ⊎ ((number : ℕ) × (kind : Kind) × RefusesAlone text number kind)

-- the canonical text of a game is a text of it, whatever follows it, and as a whole
pub record IsPrinted (g : GameData) : Type 0 where
  pub front : (rest : List ℕ) → IsTextOf g (canonical_text g ++ rest) rest
  pub whole : IsWholeTextOf g (canonical_text g)

-- that of each game is
abbrev pub CanonicalTexts : Type 0
CanonicalTexts = (g : GameData) → IsGame g → IsPrinted g
