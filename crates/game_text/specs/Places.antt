-- Where the reader stands in a text, and how it goes on.
use Rattle.std.specs.Prelude.{◌≡◌, ℕ, ◌+◌, List, [], ◌∷◌, length, map, drop, Result, Ok, Err, ⊤}
use denote.Ref.{Bor}
use Rattle.game_text.specs.declared.fault.Kind.TheVariants as kinds
use Rattle.game_text.specs.declared.fault.TextFault.{TextFault}
use Rattle.game_text.specs.declared.fault.TextFault.TheVariants.{Line as LineOf, OutOfMemory}
use Rattle.game_text.specs.Plain.{after_lines, lines_of, pieces_of, worded_in, words_at}
use Rattle.game_text.specs.Entries.{Entry}
use Rattle.game_text.specs.Steps.{IsStopped, Reads}

-- behind so many lines none is left that has words: the piece that is no whole line is missing
abbrev pub IsNoLine : ℕ → List ℕ → TextFault → Type 0
IsNoLine before text (LineOf number kind) = (worded_in before text ≡ []) × (number ≡ before + length (pieces_of text)) × (kind ≡ kinds.Missing)
IsNoLine before text OutOfMemory = ⊤

-- The reader stands behind so many lines that have words. They say these entries, and so many lines stand before the bytes that are left.
pub record IsAt (whole : List ℕ) (count : ℕ) (entries : List Entry) (before : ℕ) (text : List ℕ) : Type 0 where
  pub reads : Reads (lines_of whole) count entries (map words_at (worded_in before text))
  pub place : drop count (worded_in 0 whole) ≡ worded_in before text
  pub pieces : before + length (pieces_of text) ≡ length (pieces_of whole)
  pub after : text ≡ after_lines count whole

-- the reader goes on by one line, which says the entry of what was found, or stops at it
abbrev pub Moves : {X : Type 0} → (X → Entry) → List ℕ → ℕ → List Entry → Result (X × Bor (List ℕ) × ℕ) TextFault → Type 0
Moves view whole count entries (Ok found) = IsAt whole (count + 1) (view found.0 ∷ entries) found.2 found.1.now
Moves view whole count entries (Err fault) = IsStopped whole fault
