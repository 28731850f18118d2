-- What `solve` answers, and what that promises.
use Rattle.std.specs.Prelude.{◌≡◌, ◌⊎◌, ◌↔◌, ℕ, List}
use Rattle.cert_text.specs.Answers.{IsTextFor}
use Rattle.cert_text.specs.Text.{certificate_text}
use Rattle.controller.specs.Certificates.{CertificateData, CertificateStands, Closed, Ending, FractionData, Full, Trials}
use Rattle.controller.specs.Export.{IsExport}
use Rattle.game_model.specs.Game.{GameData}
use Rattle.game_text.specs.Text.{IsWholeTextOf}
use Rattle.hsvi_trial.specs.Data.{solved_parts}
use Rattle.hsvi_trial.specs.Run.{IsSolveRun, SolvedData}
use Rattle.osposg_cli.specs.declared.status.Status.{Status}
use Rattle.osposg_cli.specs.declared.status.Status.TheVariants.{Done, Open}
use Rattle.osposg_cli.specs.Check.{Proves}
use Rattle.osposg_cli.specs.Defined.{IsDefined}
use Rattle.osposg_cli.specs.Inputs.{AnswersGame}

-- Done where the bounds came within the tolerance, else Open
abbrev pub status_of : Ending → Status
status_of Closed = Done
status_of Trials = Open
status_of Full = Open

-- The certificate that solving a game makes: it is the export of the run of solve, and stands.
pub record IsMade (trials : ℕ) (gap : FractionData) (g : GameData) (certificate : CertificateData) : Type 0 where
  pub solved : SolvedData
  pub run : IsSolveRun (record { game = g; trials = trials; gap = gap }) solved
  pub exported : IsExport g (solved_parts gap solved) certificate
  pub stands : CertificateStands g certificate

-- the answer to a game: the text of the certificate that solving it makes
pub record IsSolved (trials : ℕ) (gap : FractionData) (g : GameData) (status : Status) (text : List ℕ) : Type 0 where
  pub certificate : CertificateData
  pub made : IsMade trials gap g certificate
  pub status_is : status ≡ status_of certificate.outcome
  pub same : text ≡ certificate_text certificate

-- the answer of `solve` to an input
abbrev pub AnswersSolve : ℕ → FractionData → List ℕ → Status → List ℕ → Type 0
AnswersSolve trials gap input status text = AnswersGame (IsSolved trials gap) input status text

-- whatever the trials and the tolerance, the answer is defined
abbrev pub SolveIsDefined : Type 0
SolveIsDefined = (trials : ℕ) (gap : FractionData) → IsDefined (AnswersSolve trials gap)

-- the statuses at which a certificate was made
abbrev pub MakesCertificate : Status → Type 0
MakesCertificate status = (status ≡ Done) ⊎ (status ≡ Open)

-- What the text of `solve` promises: the input spells a game, and the text a certificate for it, which proves its bounds
-- and has the tolerance that was given; it is closed exactly at Done.
pub record SolvePromises (gap : FractionData) (status : Status) (input text : List ℕ) : Type 0 where
  pub game : GameData
  pub certificate : CertificateData
  pub spells_game : IsWholeTextOf game input
  pub spells_certificate : IsTextFor game certificate text
  pub proves : Proves game certificate
  pub tolerance : certificate.gap ≡ gap
  pub closed : (status ≡ Done) ↔ (certificate.outcome ≡ Closed)

-- an answer keeps this promise
abbrev pub KeepsSolve : Type 0
KeepsSolve =
    (trials : ℕ) (gap : FractionData) (input text : List ℕ) (status : Status) → AnswersSolve trials gap input status text →
    MakesCertificate status → SolvePromises gap status input text
