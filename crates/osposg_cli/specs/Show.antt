-- What `show` answers, and what that promises.
use Rattle.std.specs.Prelude.{◌≡◌, ℕ, List}
use Rattle.game_model.specs.Game.{GameData}
use Rattle.game_text.specs.Text.{IsWholeTextOf, canonical_text}
use Rattle.osposg_cli.specs.declared.status.Status.{Status}
use Rattle.osposg_cli.specs.declared.status.Status.TheVariants.{Done}
use Rattle.osposg_cli.specs.Inputs.{AnswersGame}

-- the answer to a game
abbrev pub IsShown : GameData → Status → List ℕ → Type 0
IsShown g status text = (status ≡ Done) × (text ≡ canonical_text g)

-- the answer of `show` to an input
abbrev pub AnswersShow : List ℕ → Status → List ℕ → Type 0
AnswersShow input status text = AnswersGame IsShown input status text

-- What the text of `show` promises of the game that the input spells: it spells the same game, and is shown as it is.
abbrev pub ShowPromises : List ℕ → List ℕ → Type 0
ShowPromises input text = (g : GameData) → IsWholeTextOf g input → IsWholeTextOf g text × AnswersShow text Done text

-- an answer keeps this promise
abbrev pub KeepsShow : Type 0
KeepsShow = (input text : List ℕ) → AnswersShow input Done text → ShowPromises input text
