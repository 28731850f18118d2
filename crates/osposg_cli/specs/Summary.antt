-- What `gen` with trials answers, and what that promises.
use Rattle.std.specs.Prelude.{◌≡◌, ◌≤◌, ◌↔◌, ℕ, List, [], ◌∷◌, ◌++◌, codes, decimal, length}
use Rattle.cert_text.specs.Text.{outcome_word}
use Rattle.controller.specs.Certificates.{CertificateData, Closed, FractionData}
use Rattle.game_gen.specs.Generated.{game_of}
use Rattle.osposg_cli.specs.declared.status.Status.{Status}
use Rattle.osposg_cli.specs.declared.status.Status.TheVariants.{Done}
use Rattle.osposg_cli.specs.Check.{AreBounds, Proves}
use Rattle.osposg_cli.specs.Defined.{IsDefined}
use Rattle.osposg_cli.specs.Solve.{IsMade, MakesCertificate, status_of}
use Rattle.osposg_cli.specs.Words.{most_size}

-- the lines of a game's number and size, and of an outcome
abbrev pub heading : ℕ → ℕ → List ℕ → List ℕ
heading number size outcome = codes "game " ++ (decimal number ++ (codes " size " ++ (decimal size ++ (codes "\noutcome " ++ (outcome ++ 10 ∷ [])))))

-- the lines of the bounds and the tail
abbrev pub bound_lines : List ℕ → List ℕ → List ℕ → List ℕ
bound_lines lower upper tail = codes "lower " ++ (lower ++ (codes "\nupper " ++ (upper ++ (codes "\ntail " ++ (tail ++ 10 ∷ [])))))

-- the line of the numbers of nodes and points
abbrev pub size_line : ℕ → ℕ → List ℕ
size_line nodes points = codes "sizes " ++ (decimal nodes ++ (32 ∷ (decimal points ++ 10 ∷ [])))

-- the summary of a certificate for the game of a number and a size
pub record IsSummaryText (number size : ℕ) (k : CertificateData) (text : List ℕ) : Type 0 where
  pub lower : List ℕ
  pub upper : List ℕ
  pub tail : List ℕ
  pub bounds : AreBounds k lower upper tail
  pub same : text ≡ heading number size (outcome_word k.outcome) ++ (bound_lines lower upper tail ++ size_line (length k.nodes) (length k.points))

-- The answer, for a size within its limits: the summary of the certificate that solving the game of the number and the size makes.
pub record AnswersSummary (number size trials : ℕ) (gap : FractionData) (status : Status) (text : List ℕ) : Type 0 where
  pub least : 1 ≤ size
  pub most : size ≤ most_size
  pub certificate : CertificateData
  pub made : IsMade trials gap (game_of number size) certificate
  pub status_is : status ≡ status_of certificate.outcome
  pub same : IsSummaryText number size certificate text

-- whatever the numbers and the tolerance, the answer is defined
abbrev pub SummaryIsDefined : Type 0
SummaryIsDefined = (number size trials : ℕ) (gap : FractionData) → IsDefined (λ input. AnswersSummary number size trials gap)

-- What the text promises: it is the summary of a certificate for the game of the number and the size, which proves its
-- bounds and has the tolerance that was given; it is closed exactly at Done.
pub record SummaryPromises (number size : ℕ) (gap : FractionData) (status : Status) (text : List ℕ) : Type 0 where
  pub certificate : CertificateData
  pub text_is : IsSummaryText number size certificate text
  pub proves : Proves (game_of number size) certificate
  pub tolerance : certificate.gap ≡ gap
  pub closed : (status ≡ Done) ↔ (certificate.outcome ≡ Closed)

-- an answer keeps this promise
abbrev pub KeepsSummary : Type 0
KeepsSummary =
    (number size trials : ℕ) (gap : FractionData) (status : Status) (text : List ℕ) → AnswersSummary number size trials gap status text →
    SummaryPromises number size gap status text
