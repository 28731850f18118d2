-- Lines spelled out from a word and numbers.
use Rattle.std.specs.Prelude.{ℕ, ℤ, List, ◌∷◌, map}
use Rattle.std.specs.Fmt.{signed_decimal}
use Rattle.text_words.specs.Lines.{line_text}

-- a line: its first word, and its numbers
abbrev pub line_of : List ℕ → List ℤ → List ℕ
line_of name numbers = line_text (name ∷ map signed_decimal numbers)
