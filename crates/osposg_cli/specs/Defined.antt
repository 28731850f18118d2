-- When the answer of a command is defined.
use Rattle.std.specs.Prelude.{◌≡◌, ℕ, List, ⊤}
use Rattle.osposg_cli.specs.declared.status.Status.{Status}
use Rattle.osposg_cli.specs.declared.status.Status.TheVariants.{Done, No, Open, GameRefused, CertRefused, WordsRefused}

-- an answer of this status has a text
abbrev pub HasText : Status → Type 0
HasText Done = ⊤
HasText No = ⊤
HasText Open = ⊤
HasText CertRefused = ⊤
HasText GameRefused = ⊤
HasText WordsRefused = ⊤
HasText status = ⊥

-- there is one answer at most
abbrev pub IsOne : (Status → List ℕ → Type 0) → Type 0
IsOne IsAnswer = (status other : Status) (text more : List ℕ) → IsAnswer status text → IsAnswer other more → (status ≡ other) × (text ≡ more)

-- each answer has a text
abbrev pub IsTold : (Status → List ℕ → Type 0) → Type 0
IsTold IsAnswer = (status : Status) (text : List ℕ) → IsAnswer status text → HasText status

-- there is an answer
abbrev pub IsAnswered : (Status → List ℕ → Type 0) → Type 0
IsAnswered IsAnswer = (status : Status) × (text : List ℕ) × IsAnswer status text

-- to each input there is an answer
abbrev pub AreAnswered : (List ℕ → Status → List ℕ → Type 0) → Type 0
AreAnswered AnswersInput = (input : List ℕ) → IsAnswered (AnswersInput input)

-- to each input there is one answer at most, and it has a text
pub record IsDefined (AnswersInput : List ℕ → Status → List ℕ → Type 0) : Type 0 where
  pub one : (input : List ℕ) → IsOne (AnswersInput input)
  pub told : (input : List ℕ) → IsTold (AnswersInput input)
