-- What `close` answers, and what that promises.
use Rattle.std.specs.Prelude.{◌≡◌, ◌⊎◌, ◌↔◌, ℕ, List, Option, None, Some}
use Rattle.cert_text.specs.Answers.{IsTextFor}
use Rattle.cert_text.specs.Text.{certificate_text}
use Rattle.closing.specs.Closer.{IsCloser, IsNoWorse}
use Rattle.controller.specs.Certificates.{CertificateData, CertificateStands, Closed, FractionData}
use Rattle.game_model.specs.Game.{GameData}
use Rattle.osposg_cli.specs.declared.status.Status.{Status}
use Rattle.osposg_cli.specs.declared.status.Status.TheVariants.{Done}
use Rattle.osposg_cli.specs.Check.{IsNo, Proves}
use Rattle.osposg_cli.specs.Defined.{AreAnswered, IsTold}
use Rattle.osposg_cli.specs.Inputs.{AnswersBoth, IsTextOfBoth}
use Rattle.osposg_cli.specs.Solve.{MakesCertificate, status_of}

-- the tolerance of the words, and that of the certificate where they name none
abbrev pub gap_or : FractionData → Option FractionData → FractionData
gap_or own None = own
gap_or own (Some gap) = gap

-- The certificate stands, and the text of a closer one is answered: of any that is closer.
pub record IsCloserAnswer (rounds : ℕ) (gap : FractionData) (g : GameData) (k : CertificateData) (status : Status) (text : List ℕ) : Type 0 where
  pub stands : CertificateStands g k
  pub closer : CertificateData
  pub is_closer : IsCloser g k rounds gap closer
  pub status_is : status ≡ status_of closer.outcome
  pub same : text ≡ certificate_text closer

-- the answer to a game and a certificate: that, or the first place where the certificate fails
abbrev pub IsClosing : ℕ → Option FractionData → GameData → CertificateData → Status → List ℕ → Type 0
IsClosing rounds gap g k status text = IsCloserAnswer rounds (gap_or k.gap gap) g k status text ⊎ IsNo g k status text

-- the answer of `close` to an input
abbrev pub AnswersClose : ℕ → Option FractionData → List ℕ → Status → List ℕ → Type 0
AnswersClose rounds gap input status text = AnswersBoth (IsClosing rounds gap) input status text

-- whatever the rounds and the tolerance, each answer has a text
abbrev pub CloseIsTold : Type 0
CloseIsTold = (rounds : ℕ) (gap : Option FractionData) (input : List ℕ) → IsTold (AnswersClose rounds gap input)

-- What the text of `close` promises: the input spells a game and a certificate, and the text another certificate for the
-- game, which proves its bounds, is no worse, and has the tolerance of the words or else its own; it is closed exactly at
-- Done.
pub record ClosePromises (gap : Option FractionData) (status : Status) (input text : List ℕ) : Type 0 where
  pub game : GameData
  pub given : CertificateData
  pub spells_both : IsTextOfBoth game given input
  pub closer : CertificateData
  pub spells_closer : IsTextFor game closer text
  pub proves : Proves game closer
  pub no_worse : IsNoWorse given closer
  pub tolerance : closer.gap ≡ gap_or given.gap gap
  pub closed : (status ≡ Done) ↔ (closer.outcome ≡ Closed)

-- an answer keeps this promise
abbrev pub KeepsClose : Type 0
KeepsClose =
    (rounds : ℕ) (gap : Option FractionData) (input text : List ℕ) (status : Status) → AnswersClose rounds gap input status text →
    MakesCertificate status → ClosePromises gap status input text
