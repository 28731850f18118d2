-- The numbers of a line of a form, and the limits of numbers. What is refused is told by a fault of the reader's own.
use Rattle.std.specs.Prelude.{ℕ, ◌==◌, ◌&&◌, Bool, false, List, [], ◌∷◌, length, Result, Ok, Err, ℤ, pos, int_lt, int_le, unsigned_abs, if◌then◌else◌, slice_index_or}
use Rattle.std.specs.List.{list_all}
use Rattle.std.specs.Option.{ok_or}
use Rattle.std.specs.Str.{bytes_eq}
use Rattle.text_words.specs.Lines.{Line, Word}
use Rattle.text_words.specs.Numbers.{numbers_of}

-- what f says of a value, or the fault that came before
infixl 10 ◌>>=◌
abbrev pub ◌>>=◌ : {K A B : Type 0} → Result A K → (A → Result B K) → Result B K
(Ok x) >>= f = f x
(Err e) >>= f = Err e

abbrev pub number_at : List ℤ → ℕ → ℤ
number_at numbers i = slice_index_or numbers i (pos 0)

-- the line begins with this word
abbrev pub begins : Word → Line → Bool
begins name [] = false
begins name (word ∷ words) = bytes_eq word name

-- the words of the first line and the lines after it, else the fault of a text without a whole line
abbrev pub first_of : {K : Type 0} → K → List Line → Result (Line × List Line) K
first_of missing [] = Err missing
first_of missing (line ∷ lines) = Ok (line, lines)

-- the numbers of words that are all number words, else the fault of a word that is none
unfoldable pub numbers_said : {K : Type 0} → K → Line → Result (List ℤ) K
numbers_said number words = ok_or (numbers_of words) number

-- the numbers of a line that is this word and so many numbers; a line that is not has the fault of its shape
unfoldable pub numbers_after : {K : Type 0} → K → K → Word → ℕ → Line → Result (List ℤ) K
numbers_after shape number name count [] = Err shape
numbers_after shape number name count (word ∷ words) =
    if bytes_eq word name && (length words == count) then numbers_said number words else Err shape

abbrev pub is_within : ℤ → ℤ → ℤ → Bool
is_within low high number = int_le low number && int_le number high

-- a number in its limits, else the fault of one that is not
unfoldable pub limited : {K : Type 0} → K → ℤ → ℤ → ℤ → Result ℤ K
limited range low high number = if is_within low high number then Ok number else Err range

-- a number below a limit
unfoldable pub below_limit : {K : Type 0} → K → ℕ → ℤ → Result ℕ K
below_limit range limit number = if int_le (pos 0) number && int_lt number (pos limit) then Ok (unsigned_abs number) else Err range

-- each number is in its limits
unfoldable pub each_within : {K : Type 0} → K → ℤ → ℤ → List ℤ → Result (Unit {0}) K
each_within range low high numbers = if list_all (is_within low high) numbers then Ok tt else Err range
