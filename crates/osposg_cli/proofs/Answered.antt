-- An input has one answer, whatever the command.
use Rattle.std.proofs.Common.{◌≡◌, ◌⊎◌, ℕ, ◌<◌, ◌≤◌, List, [], length, Some, None, Bool, true, false, refl, sym, ◌∙◌, arith, inl, inr}
use Rattle.std.specs.Option.{option_map}
use Rattle.osposg_cli.specs.declared.words.Command.{Command}
use Rattle.osposg_cli.specs.declared.words.Command.TheVariants.{Check, Close, Floor, Gen, Show, Simulate, Solve, Summary}
use Rattle.osposg_cli.specs.Answer.{Answers, AnswersAreOne, AsksNoSearch, HasOneAnswer, InputsAreAnswered, IsWork, ReadsInput, SolvedIsChecked, WorkIsDefined}
use Rattle.osposg_cli.specs.Check.{AnswersCheck}
use Rattle.osposg_cli.specs.Close.{CloseIsTold}
use Rattle.osposg_cli.specs.Defined.{AreAnswered, IsAnswered, IsDefined, IsOne, IsTold}
use Rattle.osposg_cli.specs.Floor.{AnswersFloor}
use Rattle.osposg_cli.specs.Generate.{GenIsAnswered, GenIsDefined}
use Rattle.osposg_cli.specs.Inputs.{most_input}
use Rattle.osposg_cli.specs.Refusals.{words_refused}
use Rattle.osposg_cli.specs.Show.{AnswersShow}
use Rattle.osposg_cli.specs.Simulate.{SimulateIsAnswered, SimulateIsDefined}
use Rattle.osposg_cli.specs.Solve.{MakesCertificate, SolveIsDefined}
use Rattle.osposg_cli.specs.Summary.{SummaryIsDefined}
use Rattle.osposg_cli.specs.Words.{gap_data, reads_input}
use Rattle.osposg_cli.specs.declared.status.Status.{Status}
use Rattle.osposg_cli.specs.declared.status.Status.TheVariants.{TooLong, WordsRefused}
use Rattle.osposg_cli.proofs.Solved.{solve-checked}
use Rattle.game_text.specs.Laws.{AnyRest}
use Rattle.std.proofs.lemmas.Bool.{cases_order}

-- by command
pub work-defined : IsDefined AnswersFloor → SolveIsDefined → IsDefined AnswersCheck → CloseIsTold → IsDefined AnswersShow → GenIsDefined → SummaryIsDefined → SimulateIsDefined → WorkIsDefined
work-defined floor solve check close show gen summary plays = record { one = once; told = told }
  where
    once : (command : Command) → HasOneAnswer (Some command) → (input : List ℕ) → IsOne (IsWork command input)
    once Floor one = floor.one
    once (Solve trials gap) one = (solve trials (gap_data gap)).one
    once Check one = check.one
    once (Close rounds gap) one = absurd one
    once (Simulate seed stages rival) one = (plays seed stages rival).one
    once Show one = show.one
    once (Gen number size) one = (gen number size).one
    once (Summary number size trials gap) one = (summary number size trials (gap_data gap)).one

    told : (command : Command) (input : List ℕ) → IsTold (IsWork command input)
    told Floor = floor.told
    told (Solve trials gap) = (solve trials (gap_data gap)).told
    told Check = check.told
    told (Close rounds gap) = close rounds (option_map gap_data gap)
    told (Simulate seed stages rival) = (plays seed stages rival).told
    told Show = show.told
    told (Gen number size) = (gen number size).told
    told (Summary number size trials gap) = (summary number size trials (gap_data gap)).told

pub work-some : AreAnswered AnswersFloor → AreAnswered AnswersCheck → AreAnswered AnswersShow → GenIsAnswered → SimulateIsAnswered → (command : Command) → AsksNoSearch (Some command) → AreAnswered (IsWork command)
work-some floor check show gen plays Floor none = floor
work-some floor check show gen plays (Solve trials gap) none = absurd none
work-some floor check show gen plays Check none = check
work-some floor check show gen plays (Close rounds gap) none = absurd none
work-some floor check show gen plays (Simulate seed stages rival) none = plays seed stages rival
work-some floor check show gen plays Show none = show
work-some floor check show gen plays (Gen number size) none = λ input. gen number size
work-some floor check show gen plays (Summary number size trials gap) none = absurd none

-- whatever the command
pub too-long : (n : ℕ) → most_input < n → n ≤ most_input → ⊥
too-long n l k = omega arith

pub answers-once : WorkIsDefined → AnswersAreOne
answers-once work None one input status other text more (s, t) (r, m) = (s ∙ sym r, t ∙ sym m)
answers-once work (Some command) one input status other text more (inl (reads, l, s, t)) (inl (read, k, r, m)) = (s ∙ sym r, t ∙ sym m)
answers-once work (Some command) one input status other text more (inl (reads, l, s, t)) (inr (k, h)) = absurd (too-long (length input) l (k reads))
answers-once work (Some command) one input status other text more (inr (l, h)) (inl (read, k, r, m)) = absurd (too-long (length input) k (l read))
answers-once work (Some command) one input status other text more (inr (l, h)) (inr (k, w)) = work.one command one input status other text more h w

few-or-many : (n : ℕ) → (n ≤ most_input) ⊎ (most_input < n)
few-or-many n = elim (cases_order n most_input) [ inl e ↦ inl (omega (arith, e)) | inr l ↦ elim l [ inl a ↦ inl (omega (arith, a)) | inr b ↦ inr b ] ]

reads-or-not : (command : Command) → (ReadsInput (Some command)) ⊎ (ReadsInput (Some command) → ⊥)
reads-or-not command = by_value (reads_input command)
  where
    by_value : (reads : Bool) → (reads ≡ true) ⊎ (reads ≡ true → ⊥)
    by_value true = inl refl
    by_value false = inr (λ e. cc)

pub answers-some : ((command : Command) → AsksNoSearch (Some command) → AreAnswered (IsWork command)) → InputsAreAnswered
answers-some work None none input = (WordsRefused, words_refused, (refl, refl))
answers-some work (Some command) none input = found (reads-or-not command) (few-or-many (length input))
  where
    told : (ReadsInput (Some command) → length input ≤ most_input) → IsAnswered (Answers (Some command) input)
    told few = let answer = work command none input in (answer.0, answer.1, inr (few, answer.2))

    found : (ReadsInput (Some command)) ⊎ (ReadsInput (Some command) → ⊥) → (length input ≤ most_input) ⊎ (most_input < length input) → IsAnswered (Answers (Some command) input)
    found (inr not) long = told (λ reads. absurd (not reads))
    found (inl reads) (inl few) = told (λ read. few)
    found (inl reads) (inr many) = (TooLong, [], inl (reads, many, refl, refl))

-- a certificate is made of an input that is not too long
pub too_long_not : (status : Status) → status ≡ TooLong → MakesCertificate status → ⊥
too_long_not status long (inl done) = let e = sym long ∙ done in cc
too_long_not status long (inr open_now) = let e = sym long ∙ open_now in cc

-- what `solve` wrote, behind the game's text
pub answers-checked : AnyRest → SolvedIsChecked
answers-checked rest trials gap input text status (inl (reads, l, s, t)) made = absurd (too_long_not status s made)
answers-checked rest trials gap input text status (inr (l, h)) made =
    let found = solve-checked rest trials (gap_data gap) input text status h made in
    (found.0, found.1, λ front at few. let yes = found.2 front at in (yes.0, inr (λ reads. few, yes.1)))
