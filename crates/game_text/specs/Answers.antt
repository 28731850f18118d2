-- What a refusal of a text says.
use Rattle.std.specs.Prelude.{◌≡◌, ◌≢◌, ◌==◌, if◌then◌else◌, ℕ, List, ⊤}
use Rattle.game_model.specs.Game.{GameData}
use Rattle.game_text.specs.declared.fault.Kind.TheVariants as kinds
use Rattle.game_text.specs.declared.fault.TextFault.{TextFault}
use Rattle.game_text.specs.declared.fault.TextFault.TheVariants.{Line, OutOfMemory}
use Rattle.game_text.specs.Text.{IsTextOf, IsWholeTextOf}
use Rattle.game_text.specs.Reading.{RefusesAlone, RefusesText, RefusesWhole, told_open}
use Rattle.game_text.specs.Plain.{IsWordless, first_number}

-- the first line that is refused, with its least kind
abbrev pub IsRefused : List ℕ → TextFault → Type 0
IsRefused text (Line number kind) = RefusesText text number kind
IsRefused text OutOfMemory = ⊤

-- the same of the whole bytes
abbrev pub IsRefusedAlone : List ℕ → TextFault → Type 0
IsRefusedAlone text (Line number kind) = RefusesAlone text number kind
IsRefusedAlone text OutOfMemory = ⊤

-- the same of bytes whose last line is whole
abbrev pub IsRefusedWhole : List ℕ → TextFault → Type 0
IsRefusedWhole text (Line number kind) = RefusesWhole text number kind
IsRefusedWhole text OutOfMemory = ⊤

-- a line is refused, and no text of a game stands at the front of the bytes
abbrev pub IsNoFront : List ℕ → TextFault → Type 0
IsNoFront text (Line number kind) = (g : GameData) (rest : List ℕ) → IsTextOf g text rest → ⊥
IsNoFront text OutOfMemory = ⊤

-- a line is refused, and the bytes are no text of a game
abbrev pub IsNoText : List ℕ → TextFault → Type 0
IsNoText text (Line number kind) = (g : GameData) → IsWholeTextOf g text → ⊥
IsNoText text OutOfMemory = ⊤

abbrev pub IsNotTrailing : TextFault → Type 0
IsNotTrailing (Line number kind) = kind ≢ kinds.Trailing
IsNotTrailing OutOfMemory = ⊤

-- the bytes are a text of the game, behind which no line has words
abbrev pub IsGameIn : List ℕ → GameData → Type 0
IsGameIn text game = (rest : List ℕ) × IsTextOf game text rest × IsWordless rest

-- the bytes have words, of which the first line is told
abbrev pub IsMore : ℕ → List ℕ → TextFault → Type 0
IsMore before text (Line number kind) = (IsWordless text → ⊥) × (number ≡ first_number before text) × (kind ≡ kinds.Trailing)
IsMore before text OutOfMemory = ⊤

-- the fault, where the line of this number is a piece that is read as an `end` line
abbrev pub told_at : ℕ → TextFault → TextFault
told_at last (Line number kind) = Line number (if number == last then told_open kind else kind)
told_at last OutOfMemory = OutOfMemory
