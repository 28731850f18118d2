-- What the command and the input define, and how a run ends.
use Rattle.std.specs.Prelude.{◌≡◌, ◌⊎◌, ℕ, ◌+◌, ◌<◌, ◌≤◌, List, [], ◌++◌, length, Option, Some, None, true, ⊤}
use Rattle.std.specs.Option.{option_map}
use Rattle.hsvi_io.specs.Bytes.{GaveFront, GaveTooMany, Wrote, WroteFront}
use Rattle.osposg_cli.specs.declared.status.Status.{Status}
use Rattle.osposg_cli.specs.declared.status.Status.TheVariants.{Done, No, Open, GameRefused, CertRefused, WordsRefused, ReadFault, WriteFault, OutOfMemory, TooLong}
use Rattle.osposg_cli.specs.declared.words.Command.{Command}
use Rattle.osposg_cli.specs.declared.words.Gap.{Gap}
use Rattle.osposg_cli.specs.declared.words.Command.TheVariants.{Check, Close, Floor, Gen, Show, Simulate, Solve, Summary}
use Rattle.game_model.specs.Game.{GameData}
use Rattle.game_text.specs.Text.{IsTextOf, IsWholeTextOf}
use Rattle.osposg_cli.specs.Check.{AnswersCheck}
use Rattle.osposg_cli.specs.Close.{AnswersClose}
use Rattle.osposg_cli.specs.Defined.{AreAnswered, HasText, IsOne, IsTold}
use Rattle.osposg_cli.specs.Floor.{AnswersFloor}
use Rattle.osposg_cli.specs.Generate.{AnswersGen}
use Rattle.osposg_cli.specs.Inputs.{most_input}
use Rattle.osposg_cli.specs.Refusals.{words_refused}
use Rattle.osposg_cli.specs.Show.{AnswersShow}
use Rattle.osposg_cli.specs.Simulate.{AnswersSimulate}
use Rattle.osposg_cli.specs.Solve.{AnswersSolve, MakesCertificate}
use Rattle.osposg_cli.specs.Summary.{AnswersSummary}
use Rattle.osposg_cli.specs.Words.{gap_data, reads_input}

-- what a command answers to an input that is not too long; `gen` answers the same to every input
abbrev pub IsWork : Command → List ℕ → Status → List ℕ → Type 0
IsWork Floor input status text = AnswersFloor input status text
IsWork (Solve trials gap) input status text = AnswersSolve trials (gap_data gap) input status text
IsWork Check input status text = AnswersCheck input status text
IsWork (Close rounds gap) input status text = AnswersClose rounds (option_map gap_data gap) input status text
IsWork (Simulate seed stages rival) input status text = AnswersSimulate seed stages rival input status text
IsWork Show input status text = AnswersShow input status text
IsWork (Gen number size) input status text = AnswersGen number size status text
IsWork (Summary number size trials gap) input status text = AnswersSummary number size trials (gap_data gap) status text

-- the answer of a command is one: of all but `close`, which answers any closer certificate
abbrev pub HasOneAnswer : Option Command → Type 0
HasOneAnswer (Some (Close rounds gap)) = ⊥
HasOneAnswer command = ⊤

-- each command's answer has a text, and is one where the command has one answer
pub record WorkIsDefined : Type 0 where
  pub one : (command : Command) → HasOneAnswer (Some command) → (input : List ℕ) → IsOne (IsWork command input)
  pub told : (command : Command) (input : List ℕ) → IsTold (IsWork command input)

-- the words name a command that reads its input
abbrev pub ReadsInput : Option Command → Type 0
ReadsInput None = ⊥
ReadsInput (Some command) = reads_input command ≡ true

-- What is answered to an input where the words name this command, or none: a status, and the text that is written. To a
-- command that does not read its input no input is too long.
abbrev pub Answers : Option Command → List ℕ → Status → List ℕ → Type 0
Answers None input status text = (status ≡ WordsRefused) × (text ≡ words_refused)
Answers (Some command) input status text =
    (ReadsInput (Some command) × (most_input < length input) × (status ≡ TooLong) × (text ≡ []))
    ⊎ ((ReadsInput (Some command) → length input ≤ most_input) × IsWork command input status text)

-- the input, where the source tells it
abbrev pub IsInput : Option (List ℕ) → List ℕ → Type 0
IsInput None input = ⊤
IsInput (Some left) input = left ≡ input

-- this answer is due to what the source has left, and has a text
abbrev pub IsDue : Option Command → Option (List ℕ) → Status → List ℕ → Type 0
IsDue command left status text = (input : List ℕ) × IsInput left input × Answers command input status text × HasText status

-- the input was read to its end
abbrev pub IsReadToEnd : Option (List ℕ) → Option (List ℕ) → Type 0
IsReadToEnd None new = ⊤
IsReadToEnd (Some input) new = new ≡ Some []

-- these statuses answer an input
abbrev pub AnswersInput : Status → Type 0
AnswersInput status = (status ≡ Done) ⊎ (status ≡ No) ⊎ (status ≡ Open) ⊎ (status ≡ GameRefused) ⊎ (status ≡ CertRefused)

-- at these ends nothing is written
abbrev pub WritesNothing : Status → Type 0
WritesNothing status = (status ≡ ReadFault) ⊎ (status ≡ TooLong) ⊎ (status ≡ OutOfMemory)

-- an input has one answer, where the command has one
abbrev pub AnswersAreOne : Type 0
AnswersAreOne = (command : Option Command) → HasOneAnswer command → (input : List ℕ) → IsOne (Answers command input)

-- the words ask for no search
abbrev pub AsksNoSearch : Option Command → Type 0
AsksNoSearch (Some (Solve trials gap)) = ⊥
AsksNoSearch (Some (Close rounds gap)) = ⊥
AsksNoSearch (Some (Summary number size trials gap)) = ⊥
AsksNoSearch command = ⊤

-- Without a search there is an answer to each input. That a search comes to an end is shown by the run that makes it.
abbrev pub InputsAreAnswered : Type 0
InputsAreAnswered = (command : Option Command) → AsksNoSearch command → AreAnswered (Answers command)

-- to a text of the game of an input, to its `end` line, and the certificate text that `solve` wrote for it, at once after it,
-- `check` answers yes
abbrev pub SolvedIsChecked : Type 0
SolvedIsChecked =
    (trials : ℕ) (gap : Gap) (input text : List ℕ) (status : Status) → Answers (Some (Solve trials gap)) input status text →
    MakesCertificate status → (g : GameData) × IsWholeTextOf g input × ((front : List ℕ) → IsTextOf g front [] → length (front ++ text) ≤ most_input →
    (yes : List ℕ) × Answers (Some Check) (front ++ text) Done yes)

-- how a run ends before there is a text
abbrev pub IsEarly : Option Command → Option (List ℕ) → Option (List ℕ) → Status → Type 0
IsEarly command left left_new ReadFault = ReadsInput command × GaveFront left left_new (most_input + 1)
IsEarly command left left_new TooLong = ReadsInput command × GaveTooMany left left_new most_input
IsEarly command left left_new OutOfMemory = ⊤
IsEarly command left left_new status = ⊥

-- How a run ends. With a text: what is due was written whole. At a fault of the sink: a front of it, and not all. At the
-- other ends nothing was written.
abbrev pub Ends : Option Command → Option (List ℕ) → Option (List ℕ) → ℕ → Option (List ℕ) → Option (List ℕ) → Status → Type 0
Ends command left left_new room old new ReadFault = IsEarly command left left_new ReadFault × (new ≡ old)
Ends command left left_new room old new TooLong = IsEarly command left left_new TooLong × (new ≡ old)
Ends command left left_new room old new OutOfMemory = new ≡ old
Ends command left left_new room old new WriteFault = (status : Status) × (text : List ℕ) × IsDue command left status text × WroteFront room old new text
Ends command left left_new room old new status = (text : List ℕ) × IsDue command left status text × Wrote room old new text

-- the answer to the input was written whole, or memory was wanting and nothing was written
abbrev pub IsGiven : Option Command → List ℕ → ℕ → Option (List ℕ) → Option (List ℕ) → Status → Type 0
IsGiven command input room old new result =
    ((text : List ℕ) × Answers command input result text × Wrote room old new text) ⊎ ((result ≡ OutOfMemory) × (new ≡ old))

-- a text of which this is true was written whole
abbrev pub WroteOne : (List ℕ → Type 0) → ℕ → Option (List ℕ) → Option (List ℕ) → Type 0
WroteOne P room old new = (text : List ℕ) × P text × Wrote room old new text

-- a source or a sink was not touched: its bytes and its count are as before
abbrev pub IsUntouched : Option (List ℕ) → Option (List ℕ) → ℕ → ℕ → Type 0
IsUntouched old new faults_old faults_new = (new ≡ old) × (faults_new ≡ faults_old)
