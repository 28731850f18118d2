-- What commands share: an input that is a game alone, or a game and a certificate at once after it, and how it is refused.
use Rattle.std.specs.Prelude.{◌≡◌, ◌⊎◌, ℕ, ◌^◌, List}
use Rattle.cert_text.specs.declared.fault.CertKind.{CertKind}
use Rattle.cert_text.specs.Answers.{IsTextFor}
use Rattle.cert_text.specs.Reading.{RefusesCert}
use Rattle.cert_text.specs.Laws.{AcceptedIsNotRefused, OneCertificate, RefusedOnce as CertRefusedOnce, TextsAreRead}
use Rattle.controller.specs.Certificates.{CertificateData}
use Rattle.game_model.specs.Game.{GameData}
use Rattle.game_text.specs.declared.fault.Kind.{Kind}
use Rattle.game_text.specs.Laws.{FrontRefusedOnce, RefusedOnce, TextsAreGames, TextsAreNotRefused, WholeTextsAreGames, WholeTextsAreNotRefused}
use Rattle.game_text.specs.Reading.{RefusesAlone, RefusesText}
use Rattle.game_text.specs.Text.{IsTextOf, IsWholeTextOf}
use Rattle.osposg_cli.specs.declared.status.Status.{Status}
use Rattle.osposg_cli.specs.declared.status.Status.TheVariants.{CertRefused, GameRefused}
use Rattle.osposg_cli.specs.Refusals.{cert_refused, game_refused}

-- the most bytes of an input
abbrev pub most_input : ℕ
most_input = 2 ^ 26

-- the input is no text of a game: the first refused line and its least kind are answered
abbrev pub RefusesGame : List ℕ → Status → List ℕ → Type 0
RefusesGame input status text = (line : ℕ) × (kind : Kind) × RefusesAlone input line kind × (status ≡ GameRefused) × (text ≡ game_refused line kind)

-- the input does not begin with a text of a game
abbrev pub RefusesFront : List ℕ → Status → List ℕ → Type 0
RefusesFront input status text = (line : ℕ) × (kind : Kind) × RefusesText input line kind × (status ≡ GameRefused) × (text ≡ game_refused line kind)

-- after a game's text there is no text of a certificate for it
abbrev pub RefusesRest : GameData → List ℕ → Status → List ℕ → Type 0
RefusesRest g rest status text = (line : ℕ) × (kind : CertKind) × RefusesCert g rest line kind × (status ≡ CertRefused) × (text ≡ cert_refused line kind)

-- the input is a text of a game with the text of a certificate for it at once after it
abbrev pub IsTextOfBoth : GameData → CertificateData → List ℕ → Type 0
IsTextOfBoth g k input = (rest : List ℕ) × IsTextOf g input rest × IsTextFor g k rest

-- the input is no such text: one of its parts is refused
abbrev pub RefusesBoth : List ℕ → Status → List ℕ → Type 0
RefusesBoth input status text = RefusesFront input status text ⊎ ((g : GameData) × (rest : List ℕ) × IsTextOf g input rest × RefusesRest g rest status text)

-- what a command answers to a game alone, by what it answers to the game
abbrev pub AnswersGame : (GameData → Status → List ℕ → Type 0) → List ℕ → Status → List ℕ → Type 0
AnswersGame IsAnswer input status text = RefusesGame input status text ⊎ ((g : GameData) × IsWholeTextOf g input × IsAnswer g status text)

-- what a command answers to a game and a certificate, by what it answers to both
abbrev pub AnswersBoth : (GameData → CertificateData → Status → List ℕ → Type 0) → List ℕ → Status → List ℕ → Type 0
AnswersBoth IsAnswer input status text =
    RefusesBoth input status text ⊎ ((g : GameData) × (k : CertificateData) × IsTextOfBoth g k input × IsAnswer g k status text)

-- an input is read in one way: it is of one game and one certificate, or is refused once, and never both
pub record TextsAreExact : Type 0 where
  pub games : TextsAreGames
  pub wholes : WholeTextsAreGames
  pub refused : RefusedOnce
  pub front_refused : FrontRefusedOnce
  pub front : TextsAreNotRefused
  pub whole : WholeTextsAreNotRefused
  pub certificates : OneCertificate
  pub cert_refused : CertRefusedOnce
  pub read : TextsAreRead
  pub accepted : AcceptedIsNotRefused
