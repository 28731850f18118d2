-- What the words and numbers of one line say, or the least kind of fault.
use Rattle.std.specs.Prelude.{ℕ, zero, suc, ◌%◌, ◌==◌, nat_lt, ◌&&◌, ◌||◌, Bool, false, List, [], ◌∷◌, Result, Ok, Err, ℤ, pos, ◌+ℤ◌, int_lt, int_le, unsigned_abs, if◌then◌else◌, codes}
use Rattle.game_model.specs.Limits.{most_belief, most_members}
use Rattle.std.specs.List.{list_all, slice_split}
use Rattle.std.specs.Option.{ok_or}
use Rattle.std.specs.Str.{bytes_eq}
use Rattle.scaled_num.specs.Sums.{sum_of}
use Rattle.text_words.specs.Lines.{Line, Word}
use Rattle.text_words.specs.Numbers.{number_of}
use Rattle.text_words.specs.Forms.{◌>>=◌, is_within}
use Rattle.text_words.specs.Forms as forms
use Rattle.game_model.specs.Branches.{mix_total}
use Rattle.controller.specs.Starts.{most_from}
use Rattle.controller.specs.Certificates.{Closed, Ending, FractionData, Full as FullRun, Trials}
use Rattle.cert_text.specs.declared.fault.CertKind.{CertKind}
use Rattle.cert_text.specs.declared.fault.CertKind.TheVariants as kinds
use Rattle.cert_text.specs.declared.progress.Latest.{Latest}
use Rattle.cert_text.specs.declared.progress.Latest.TheVariants as latest
use Rattle.cert_text.specs.declared.progress.Starts.{Starts}
use Rattle.cert_text.specs.declared.progress.Weights.{Weights}

-- ---- the words of a line

-- the line is these two words
unfoldable pub are_words : List ℕ → List ℕ → Line → Bool
are_words name second [] = false
are_words name second (first ∷ []) = false
are_words name second (first ∷ word ∷ []) = bytes_eq first name && bytes_eq word second
are_words name second (first ∷ word ∷ more ∷ words) = false

-- the version that the line `certificate 1` or `certificate 2` says
unfoldable pub version_line : Line → Result ℕ CertKind
version_line line =
    if are_words (codes "certificate") (codes "1") line then Ok 1
    else if are_words (codes "certificate") (codes "2") line then Ok 2
    else Err kinds.Version

-- the numbers of a line of this form: its first word, and how many numbers follow
abbrev pub numbers_after : Word → ℕ → Line → Result (List ℤ) CertKind
numbers_after = forms.numbers_after kinds.Shape kinds.Number

-- the one word after this first word
unfoldable pub word_after : List ℕ → Line → Result Word CertKind
word_after name [] = Err kinds.Shape
word_after name (first ∷ []) = Err kinds.Shape
word_after name (first ∷ word ∷ []) = if bytes_eq first name then Ok word else Err kinds.Shape
word_after name (first ∷ word ∷ more ∷ words) = Err kinds.Shape

unfoldable pub outcome_of : Word → Result Ending CertKind
outcome_of word =
    if bytes_eq word (codes "closed") then Ok Closed
    else if bytes_eq word (codes "trials") then Ok Trials
    else if bytes_eq word (codes "full") then Ok FullRun
    else Err kinds.Shape

-- a fraction word: a number word, `/` (byte 47) and a number word
unfoldable pub fraction_from : List Word → Result FractionData CertKind
fraction_from [] = Err kinds.Number
fraction_from (num ∷ []) = Err kinds.Number
fraction_from (num ∷ den ∷ []) = do
  over ← ok_or (number_of num) kinds.Number
  under ← ok_or (number_of den) kinds.Number
  Ok (record { num = over; den = under })
fraction_from (num ∷ den ∷ more ∷ pieces) = Err kinds.Number

unfoldable pub fraction_of : Word → Result FractionData CertKind
fraction_of word = fraction_from (slice_split (λ b. b == 47) word)

-- ---- the limits of numbers

unfoldable pub at_least : ℤ → ℤ → Result ℤ CertKind
at_least low number = if int_le low number then Ok number else Err kinds.Range

-- the number of the member or state that is due
unfoldable pub is_due : ℕ → ℤ → Result (Unit {0}) CertKind
is_due due number = if is_within (pos due) (pos due) number then Ok tt else Err kinds.Order

-- one of so many members
unfoldable pub member_below : ℕ → ℤ → Result ℕ CertKind
member_below members number = if int_lt number (pos members) then Ok (unsigned_abs number) else Err kinds.Index

-- at most 1,024 members
unfoldable pub few : ℤ → Result ℕ CertKind
few number = if int_le number (pos most_members) then Ok (unsigned_abs number) else Err kinds.Full

-- ---- orders and sums

-- greater than a branch of this own action, observation and member
abbrev pub is_after : ℕ → ℕ → ℕ → ℕ → ℕ → ℤ → Bool
is_after a o k own seen member =
    nat_lt a own || ((a == own) && (nat_lt o seen || ((o == seen) && int_lt (pos k) member)))

-- the branch is greater than that of the line just before, where that has one
unfoldable pub later_branch : Latest → ℕ → ℕ → ℤ → Result (Unit {0}) CertKind
later_branch (latest.Next a o k) own seen member = if is_after a o k own seen member then Ok tt else Err kinds.Order
later_branch (latest.Split a o k) own seen member = if is_after a o k own seen member then Ok tt else Err kinds.Order
later_branch _ own seen member = Ok tt

-- the number is above that of the `from` line just before, where there is one
unfoldable pub above_from : Latest → ℤ → Result (Unit {0}) CertKind
above_from (latest.From node) number = if int_lt (pos node) number then Ok tt else Err kinds.Order
above_from _ number = Ok tt

-- the number is above that of the `over` line just before, where there is one
unfoldable pub above_over : Latest → ℤ → Result (Unit {0}) CertKind
above_over (latest.Over point) number = if int_lt (pos point) number then Ok tt else Err kinds.Order
above_over _ number = Ok tt

-- one weight more keeps the sum of the weights of start nodes within its limit
unfoldable pub within_sum : ℤ → ℤ → Result (Unit {0}) CertKind
within_sum sum weight = if int_le (weight +ℤ sum) (pos most_from) then Ok tt else Err kinds.Total

-- nothing but 1 divides all weights
unfoldable pub coprime : Weights → Result (Unit {0}) CertKind
coprime weights = if weights.divisor == 1 then Ok tt else Err kinds.Total

-- nothing but 1 divides the weights of the start points, and there are several start nodes or several start points
unfoldable pub whole_starts : Starts → Result (Unit {0}) CertKind
whole_starts starts =
    if (starts.points.divisor == 1) && (starts.nodes.many || starts.points.many) then Ok tt else Err kinds.Total

-- weights of a mix sum to the mix total
unfoldable pub sums_to_mix : List ℤ → Result (Unit {0}) CertKind
sums_to_mix weights = if is_within (pos mix_total) (pos mix_total) (sum_of weights) then Ok tt else Err kinds.Total

-- the greatest common divisor by Euclid's steps, of which b suffice
unfoldable pub divisor_within : ℕ → ℕ → ℕ → ℕ
divisor_within zero a b = a
divisor_within (suc steps) a b = if b == 0 then a else divisor_within steps b (a % b)

unfoldable pub common_divisor : List ℤ → ℕ
common_divisor [] = 0
common_divisor (n ∷ numbers) = divisor_within (common_divisor numbers) (unsigned_abs n) (common_divisor numbers)

-- parts of a belief have a total in its limits and are coprime
unfoldable pub belief_total : List ℤ → Result (Unit {0}) CertKind
belief_total parts = if is_within (pos 1) (pos most_belief) (sum_of parts) && (common_divisor parts == 1) then Ok tt else Err kinds.Total

-- no pair lacks anything
unfoldable pub none_lacks : List ℤ → Result (Unit {0}) CertKind
none_lacks lacking = if list_all (is_within (pos 0) (pos 0)) lacking then Ok tt else Err kinds.Total

-- a weight is at most what its pair lacks
unfoldable pub fits_lack : ℤ → ℤ → Result (Unit {0}) CertKind
fits_lack lack weight = if int_le weight lack then Ok tt else Err kinds.Total
