-- What `check` answers, what it writes, and what that promises.
use Rattle.std.specs.Prelude.{◌≡◌, ◌⊎◌, ◌↔◌, ℕ, List, [], ◌∷◌, ◌++◌, codes}
use Rattle.controller.specs.Certificates.{CertificateData, CertificateStands, Closed, FailsFirst, IsWithinGap, Place}
use Rattle.game_model.specs.Game.{GameData}
use Rattle.history_model.specs.Halves.{HoldIsPlan, LowerHalf, LowerHalfAt, OwnIsPlan, UpperHalf}
use Rattle.osposg_cli.specs.declared.status.Status.{Status}
use Rattle.osposg_cli.specs.declared.status.Status.TheVariants.{Done, No}
use Rattle.osposg_cli.specs.Inputs.{AnswersBoth, IsTextOfBoth}
use Rattle.osposg_cli.specs.Refusals.{no_text}
use Rattle.scaled_num.specs.Printed.{IsDownText, IsUpText, fraction_text}

-- a fraction and its decimal places
abbrev pub placed : List ℕ → List ℕ → List ℕ
placed fraction places = fraction ++ (32 ∷ places)

-- `yes` and the lines of both bounds and the tail
abbrev pub yes_lines : List ℕ → List ℕ → List ℕ → List ℕ
yes_lines lower upper tail = codes "yes\nlower " ++ (lower ++ (codes "\nupper " ++ (upper ++ (codes "\ntail " ++ (tail ++ 10 ∷ [])))))

-- the texts of the bounds and of the tail: the lower bound rounded down, the others up
pub record AreBounds (k : CertificateData) (lower upper tail : List ℕ) : Type 0 where
  pub down : List ℕ
  pub up : List ℕ
  pub most : List ℕ
  pub lower_down : IsDownText k.lower.num k.lower.den down
  pub upper_up : IsUpText k.upper.num k.upper.den up
  pub tail_up : IsUpText k.tail.num k.tail.den most
  pub lower_is : lower ≡ placed (fraction_text k.lower.num k.lower.den) down
  pub upper_is : upper ≡ placed (fraction_text k.upper.num k.upper.den) up
  pub tail_is : tail ≡ placed (fraction_text k.tail.num k.tail.den) most

-- the bounds of a certificate
pub record IsYesText (k : CertificateData) (text : List ℕ) : Type 0 where
  pub lower : List ℕ
  pub upper : List ℕ
  pub tail : List ℕ
  pub bounds : AreBounds k lower upper tail
  pub same : text ≡ yes_lines lower upper tail

-- the certificate stands, and its bounds are answered
abbrev pub IsYes : GameData → CertificateData → Status → List ℕ → Type 0
IsYes g k status text = CertificateStands g k × (status ≡ Done) × IsYesText k text

-- the certificate does not stand, and the first place where it fails is answered
abbrev pub IsNo : GameData → CertificateData → Status → List ℕ → Type 0
IsNo g k status text = (place : Place) × FailsFirst g k place × (status ≡ No) × (text ≡ no_text place)

-- the answer to a game and a certificate
abbrev pub IsVerdict : GameData → CertificateData → Status → List ℕ → Type 0
IsVerdict g k status text = IsYes g k status text ⊎ IsNo g k status text

-- the answer of `check` to an input
abbrev pub AnswersCheck : List ℕ → Status → List ℕ → Type 0
AnswersCheck input status text = AnswersBoth IsVerdict input status text

-- What the yes to a certificate promises, against every plan of the other player and over every number of stages: the controller earns
-- at least the lower bound less the tail, the splitting strategy holds the payoff to at most the upper bound plus the tail, both are right
-- plans, and `closed` stands exactly where the gap is within the tolerance.
pub record Proves (g : GameData) (k : CertificateData) : Type 0 where
  pub stands : CertificateStands g k
  pub own : OwnIsPlan g k
  pub lower : LowerHalf g k
  pub lower_at : LowerHalfAt g k
  pub hold : HoldIsPlan g k
  pub upper : UpperHalf g k
  pub closed : (k.outcome ≡ Closed) ↔ IsWithinGap k

-- What a yes promises of the input: it spells a game and a certificate, whose bounds are the text, and which proves them.
abbrev pub CheckPromises : List ℕ → List ℕ → Type 0
CheckPromises input text = (g : GameData) × (k : CertificateData) × IsTextOfBoth g k input × IsYesText k text × Proves g k

-- a yes keeps this promise
abbrev pub KeepsCheck : Type 0
KeepsCheck = (input text : List ℕ) → AnswersCheck input Done text → CheckPromises input text
