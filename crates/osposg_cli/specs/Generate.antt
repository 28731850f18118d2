-- What `gen` answers, and what that promises.
use Rattle.std.specs.Prelude.{ℕ, ◌≤◌, List}
use Rattle.game_gen.specs.Generated.{game_of}
use Rattle.game_text.specs.Text.{IsWholeTextOf}
use Rattle.osposg_cli.specs.declared.status.Status.{Status}
use Rattle.osposg_cli.specs.declared.status.Status.TheVariants.{Done}
use Rattle.osposg_cli.specs.Defined.{IsAnswered, IsDefined}
use Rattle.osposg_cli.specs.Show.{AnswersShow, IsShown}
use Rattle.osposg_cli.specs.Words.{most_size}

-- the answer of `gen`: what `show` writes of the game of the number and the size
abbrev pub AnswersGen : ℕ → ℕ → Status → List ℕ → Type 0
AnswersGen number size status text = IsShown (game_of number size) status text

-- whatever the number and the size, the answer is defined, and there is one
abbrev pub GenIsDefined : Type 0
GenIsDefined = (number size : ℕ) → IsDefined (λ input. AnswersGen number size)

abbrev pub GenIsAnswered : Type 0
GenIsAnswered = (number size : ℕ) → IsAnswered (AnswersGen number size)

-- What the text of `gen` promises: it spells the game of the number and the size, and is what `show` writes of itself.
abbrev pub GenPromises : ℕ → ℕ → List ℕ → Type 0
GenPromises number size text = IsWholeTextOf (game_of number size) text × AnswersShow text Done text

-- an answer keeps this promise
abbrev pub KeepsGen : Type 0
KeepsGen =
    (number size : ℕ) (text : List ℕ) → 1 ≤ size → size ≤ most_size → AnswersGen number size Done text →
    GenPromises number size text
