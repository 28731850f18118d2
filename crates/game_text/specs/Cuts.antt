-- Texts of games that are cut before their last line is whole.
use Rattle.std.specs.Prelude.{◌≡◌, ℕ, ◌+◌, ◌<◌, ◌==◌, List, [], ◌++◌, length, codes}
use Rattle.std.specs.List.{filter}
use Rattle.text_words.specs.Lines.{lines_of as plain_lines}
use Rattle.game_model.specs.Game.{GameData}
use Rattle.game_text.specs.declared.fault.Kind.TheVariants as kinds
use Rattle.game_text.specs.Plain.{lines_of, open_words}
use Rattle.game_text.specs.Text.{IsWholeTextOf, canonical_text}
use Rattle.game_text.specs.Reading.{RefusesAlone}

-- The bytes are a text of the game. Before the word `end` stand all its lines but the last, and nothing else with words
-- stands before it on its line.
pub record IsBeforeEnd (g : GameData) (front tail : List ℕ) : Type 0 where
  pub whole : IsWholeTextOf g (front ++ (codes "end" ++ tail))
  pub lines : length (lines_of front) + 1 ≡ length (plain_lines (canonical_text g))
  pub alone : open_words front ≡ []

-- so many of these bytes end before the last byte of the word `end` of a text of a game
abbrev pub IsCutBeforeEnd : List ℕ → ℕ → Type 0
IsCutBeforeEnd bytes at =
    (g : GameData) × (front : List ℕ) × (tail : List ℕ) × (bytes ≡ front ++ (codes "end" ++ tail)) × IsBeforeEnd g front tail × (at < length front + 3)

-- read alone, the bytes are refused at the line behind their last line feed, which is missing
abbrev pub IsMissing : List ℕ → Type 0
IsMissing bytes = RefusesAlone bytes (length (filter (λ b. b == 10) bytes) + 1) kinds.Missing
