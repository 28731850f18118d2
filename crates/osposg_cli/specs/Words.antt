-- The words of the command line.
use Rattle.std.specs.Prelude.{IfSome, ℕ, pos, ◌==◌, ◌≤◌, ◌^◌, ◌-◌, ◌&&◌, ⊤, nat_le, nat_lt, Bool, true, false, List, [], ◌∷◌, length, Option, Some, None, String, codes, map, if◌then◌else◌}
use Rattle.std.specs.List.{after_first, before_first, list_all}
use Rattle.std.specs.Option.{option_and_then, option_map}
use Rattle.std.specs.Str.{all_ascii_digits, bytes_eq}
use Rattle.std.specs.Str.Parse.{digits_value}
use Rattle.std.specs.String.{string_bytes}
use Rattle.closing.specs.Closer.{most_rounds}
use Rattle.controller.specs.Certificates.{FractionData, IsGap, most_gap, most_gap_under}
use Rattle.hsvi_trial.specs.Run.{most_trials}
use Rattle.osposg_cli.specs.declared.words.Command.{Command}
use Rattle.osposg_cli.specs.declared.words.Command.TheVariants.{Check, Close, Floor, Gen, Show, Simulate, Solve, Summary}
use Rattle.osposg_cli.specs.declared.words.Gap.{Gap}
use Rattle.simulate.specs.declared.parts.Rival.{Rival}
use Rattle.simulate.specs.declared.parts.Rival.TheVariants.{Points, Uniform}
use Rattle.option_words.specs.Options.{Named, is_among, options_of, values_under}
use Rattle.osposg_cli.specs.Options.{Values, said, said_once}

-- the tolerance of words, as certificates hold it
abbrev pub gap_data : Gap → FractionData
gap_data gap = record { num = pos gap.num; den = pos gap.den }

-- ---- values

-- the most digits of a value
abbrev pub most_digits : ℕ
most_digits = 30

-- the number that digits stand for, 1 to the most
unfoldable pub digits_of : List ℕ → Option ℕ
digits_of text =
    if nat_lt 0 (length text) && nat_le (length text) most_digits && all_ascii_digits text
    then Some (digits_value 10 text)
    else None

-- the same, from low to high
unfoldable pub number_of : ℕ → ℕ → List ℕ → Option ℕ
number_of low high text = option_and_then (λ n. if nat_le low n && nat_le n high then Some n else None) (digits_of text)

abbrev pub is_slash : ℕ → Bool
is_slash byte = byte == 47

abbrev pub gap_over : ℕ → ℕ → Gap
gap_over num den = record { num = num; den = den }

-- a gap: numerator and denominator around the first slash
unfoldable pub gap_of : List ℕ → Option Gap
gap_of text =
    option_and_then (λ num. option_map (gap_over num) (number_of 1 most_gap_under (after_first is_slash text)))
    (number_of 0 most_gap (before_first is_slash text))

-- ---- commands

-- the command of options that have these names alone, by their values
abbrev pub with_names : List (List ℕ) → (Values → Option Command) → List Named → Option Command
with_names names command options = if list_all (is_among names) options then command (λ name. values_under name options) else None

-- the same of words
abbrev pub read_by : List (List ℕ) → (Values → Option Command) → List (List ℕ) → Option Command
read_by names command words = option_and_then (with_names names command) (options_of words)

-- how many trials a search may make: 100 where no option says it
abbrev pub trials_in : Values → Option ℕ
trials_in values = said 100 (number_of 0 most_trials) (values (codes "trials"))

-- how near the bounds are to come: 1/100 where no option says it
abbrev pub gap_in : Values → Option Gap
gap_in values = said (gap_over 1 100) gap_of (values (codes "gap"))

-- `solve` with its options
abbrev pub solve_names : List (List ℕ)
solve_names = codes "trials" ∷ codes "gap" ∷ []

unfoldable pub solve_of : Values → Option Command
solve_of values = option_and_then (λ trials. option_map (Solve trials) (gap_in values)) (trials_in values)

-- how many rounds `close` may make: 100 where no option says it
abbrev pub rounds_in : Values → Option ℕ
rounds_in values = said 100 (number_of 0 most_rounds) (values (codes "rounds"))

-- a tolerance, where an option says one
abbrev pub some_gap : List ℕ → Option (Option Gap)
some_gap text = option_map Some (gap_of text)

abbrev pub own_gap_in : Values → Option (Option Gap)
own_gap_in values = said None some_gap (values (codes "gap"))

-- `close` with its options
abbrev pub close_names : List (List ℕ)
close_names = codes "rounds" ∷ codes "gap" ∷ []

unfoldable pub close_of : Values → Option Command
close_of values = option_and_then (λ rounds. option_map (Close rounds) (own_gap_in values)) (rounds_in values)

-- the greatest number of a generated game, and its greatest size
abbrev pub most_number : ℕ
most_number = 2 ^ 64 - 1

abbrev pub most_size : ℕ
most_size = 16

-- the number of the game that `gen` makes, and its size; both must be said
abbrev pub number_in : Values → Option ℕ
number_in values = said_once (number_of 0 most_number) (values (codes "number"))

abbrev pub size_in : Values → Option ℕ
size_in values = said_once (number_of 1 most_size) (values (codes "size"))

-- `gen` with its options
abbrev pub gen_names : List (List ℕ)
gen_names = codes "number" ∷ codes "size" ∷ codes "trials" ∷ codes "gap" ∷ []

-- With trials the game is solved; without them it is written, and no tolerance is taken.
abbrev pub made_of : Values → List (List ℕ) → List (List ℕ) → ℕ → ℕ → Option Command
made_of values [] [] number size = Some (Gen number size)
made_of values [] (gap ∷ gaps) number size = None
made_of values (count ∷ counts) gaps number size = option_and_then (λ trials. option_map (Summary number size trials) (gap_in values)) (trials_in values)

unfoldable pub gen_of : Values → Option Command
gen_of values = option_and_then (λ number. option_and_then (made_of values (values (codes "trials")) (values (codes "gap")) number) (size_in values)) (number_in values)

-- the most stages that words ask for
abbrev pub most_plays : ℕ
most_plays = 64

-- what a play draws: 0 where no option says it
abbrev pub seed_in : Values → Option ℕ
seed_in values = said 0 (number_of 0 most_number) (values (codes "seed"))

-- how many stages it is to have: 10 where no option says it
abbrev pub stages_in : Values → Option ℕ
stages_in values = said 10 (number_of 1 most_plays) (values (codes "stages"))

-- how the informed player plays: evenly where no option says it
abbrev pub rival_of : List ℕ → Option Rival
rival_of text =
    if bytes_eq text (codes "uniform") then Some Uniform
    else if bytes_eq text (codes "points") then Some Points
    else None

abbrev pub rival_in : Values → Option Rival
rival_in values = said Uniform rival_of (values (codes "rival"))

-- `simulate` with its options
abbrev pub simulate_names : List (List ℕ)
simulate_names = codes "seed" ∷ codes "stages" ∷ codes "rival" ∷ []

unfoldable pub simulate_of : Values → Option Command
simulate_of values =
    option_and_then (λ seed. option_and_then (λ stages. option_map (Simulate seed stages) (rival_in values)) (stages_in values)) (seed_in values)

-- the command that this word names, with the words after it as its options
unfoldable pub command_from : List ℕ → List (List ℕ) → Option Command
command_from word words =
    if bytes_eq word (codes "floor") then read_by [] (λ values. Some Floor) words
    else if bytes_eq word (codes "solve") then read_by solve_names solve_of words
    else if bytes_eq word (codes "check") then read_by [] (λ values. Some Check) words
    else if bytes_eq word (codes "show") then read_by [] (λ values. Some Show) words
    else if bytes_eq word (codes "close") then read_by close_names close_of words
    else if bytes_eq word (codes "simulate") then read_by simulate_names simulate_of words
    else if bytes_eq word (codes "gen") then read_by gen_names gen_of words
    else None

-- the command that the words name
unfoldable pub command_of : List (List ℕ) → Option Command
command_of [] = None
command_of (word ∷ words) = command_from word words

-- the same of words as the program holds them
abbrev pub named : {Z : Type 0} → List (String Z) → Option Command
named words = command_of (map string_bytes words)

-- the values of a command are within their limits
abbrev pub IsWithinLimits : Command → Type 0
IsWithinLimits (Solve trials gap) = (trials ≤ most_trials) × IsGap (gap_data gap)
IsWithinLimits (Close rounds gap) = (rounds ≤ most_rounds) × IfSome gap (λ (gap : Gap). IsGap (gap_data gap))
IsWithinLimits (Gen number size) = (1 ≤ size) × (size ≤ most_size)
IsWithinLimits (Summary number size trials gap) = (1 ≤ size) × (size ≤ most_size) × (trials ≤ most_trials) × IsGap (gap_data gap)
IsWithinLimits command = ⊤

-- whether a command reads its input
abbrev pub reads_input : Command → Bool
reads_input (Gen number size) = false
reads_input (Summary number size trials gap) = false
reads_input command = true
