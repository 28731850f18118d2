-- Game texts as a person may write them, and their plain spelling. The plain lines of a text are its whole lines that have
-- words; a comment and the line's end are no words, and each number is spelled as it is printed.
use Rattle.std.specs.Prelude.{ℕ, zero, suc, ◌+◌, ◌-◌, ◌==◌, nat_lt, ◌||◌, Bool, false, List, [], ◌∷◌, ◌++◌, ◌≡◌, length, take, drop, map, Option, Some, None, ℤ, pos, neg_ℤ, if◌then◌else◌, codes, slice_index, slice_index_or}
use Rattle.std.specs.Fmt.{signed_decimal}
use Rattle.std.specs.List.{filter, slice_split, before_first, join_with_byte}
use Rattle.std.specs.Option.{option_map}
use Rattle.std.specs.Str.{bytes_eq}
use Rattle.text_words.specs.Lines.{Line, Word}
use Rattle.text_words.specs.Numbers.{natural_of}

-- a space or a tab parts words
abbrev pub is_gap : ℕ → Bool
is_gap b = (b == 32) || (b == 9)

-- a carriage return that stands last belongs to the line's end
unfoldable pub without_return : List ℕ → List ℕ
without_return bytes = if slice_index bytes (length bytes - 1) == 13 then take (length bytes - 1) bytes else bytes

-- what stands before the comment
abbrev pub before_comment : List ℕ → List ℕ
before_comment bytes = before_first (λ b. b == 35) bytes

-- the words of a piece: what stands between spaces and tabs and is not empty
unfoldable pub words_in : List ℕ → Line
words_in bytes = filter (λ word. nat_lt 0 (length word)) (slice_split is_gap (before_comment bytes))

-- the words of a line
abbrev pub words_of : List ℕ → Line
words_of bytes = words_in (without_return bytes)

-- A number: one sign at most, plus (byte 43) or minus (byte 45), and then 1 to 36 digits.
unfoldable pub number_of : Word → Option ℤ
number_of word =
    if slice_index word 0 == 45 then option_map (λ n. neg_ℤ (pos n)) (natural_of (drop 1 word))
    else (if slice_index word 0 == 43 then option_map pos (natural_of (drop 1 word)) else option_map pos (natural_of word))

-- a number as it is printed, and another word as it is
abbrev pub printed_or : Word → Option ℤ → Word
printed_or word None = word
printed_or word (Some number) = signed_decimal number

abbrev pub plain_word : Word → Word
plain_word word = printed_or word (number_of word)

-- The words after the first one are spelled plainly. The line that tells the version has one spelling.
unfoldable pub plain_line : Line → Line
plain_line [] = []
plain_line (name ∷ words) = name ∷ (if bytes_eq name (codes "osposg") then words else map plain_word words)

-- a line that has words: its number, counted from 1, its words, and the bytes behind it
pub record Worded : Type 0 where
  pub number : ℕ
  pub words : Line
  pub after : List ℕ

-- the pieces of a text between line feeds, of which the last is no whole line
abbrev pub pieces_of : List ℕ → List (List ℕ)
pieces_of text = slice_split (λ b. b == 10) text

-- put before the lines after it, where it has words
abbrev pub onto : ℕ → Line → List ℕ → List Worded → List Worded
onto number [] after lines = lines
onto number (name ∷ words) after lines = record { number = number; words = plain_line (name ∷ words); after = after } ∷ lines

-- the whole lines of these pieces that have words, where so many lines stand before the first piece
abbrev pub worded : ℕ → List (List ℕ) → List Worded
worded before [] = []
worded before (piece ∷ []) = []
worded before (piece ∷ next ∷ pieces) =
    onto (before + 1) (words_of piece) (join_with_byte 10 (next ∷ pieces)) (worded (before + 1) (next ∷ pieces))

-- the same of the bytes behind so many lines
unfoldable pub worded_in : ℕ → List ℕ → List Worded
worded_in before text = worded before (pieces_of text)

abbrev pub words_at : Worded → Line
words_at line = line.words

-- the plain lines of a text
abbrev pub lines_of : List ℕ → List Line
lines_of text = map words_at (worded_in 0 text)

-- the number of the first line of these bytes that has words, where so many lines stand before them; without one it is that of
-- the piece that is no whole line
abbrev pub first_number : ℕ → List ℕ → ℕ
first_number before text = slice_index_or (map (λ (line : Worded). line.number) (worded_in before text)) 0 (before + length (pieces_of text))

-- the number of the line in this place, from 1, among those that have words; behind them it is the piece that is no whole line
unfoldable pub number_in : ℕ → List ℕ → ℕ
number_in place text = slice_index_or (map (λ (line : Worded). line.number) (worded_in 0 text)) (place - 1) (length (pieces_of text))

-- the bytes behind so many lines that have words
unfoldable pub after_lines : ℕ → List ℕ → List ℕ
after_lines zero text = text
after_lines (suc count) text = slice_index_or (map (λ (line : Worded). line.after) (worded_in 0 text)) count []

-- ---- the piece behind the last line feed

abbrev pub last_of : List (List ℕ) → List ℕ
last_of [] = []
last_of (piece ∷ []) = piece
last_of (piece ∷ next ∷ pieces) = last_of (next ∷ pieces)

abbrev pub last_piece : List ℕ → List ℕ
last_piece text = last_of (pieces_of text)

-- its words; no carriage return belongs to the end of a line that is not whole
abbrev pub open_words : List ℕ → Line
open_words text = words_in (last_piece text)

-- no line of the bytes has words, nor has the piece behind them
abbrev pub IsWordless : List ℕ → Type 0
IsWordless text = (lines_of text ≡ []) × (open_words text ≡ [])

abbrev pub is_end : Line → Bool
is_end [] = false
is_end (word ∷ []) = bytes_eq word (codes "end")
is_end (word ∷ next ∷ words) = false

-- the only word of the piece is `end`
unfoldable pub ends_open : List ℕ → Bool
ends_open text = is_end (open_words text)

-- bytes that are read alone: a piece whose only word is `end` is a whole line
unfoldable pub completed : List ℕ → List ℕ
completed text = if ends_open text then text ++ 10 ∷ [] else text
