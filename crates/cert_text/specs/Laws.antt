-- What makes acceptance and refusal exact.
use Rattle.std.specs.Prelude.{◌≡◌, ◌⊎◌, ℕ, List}
use Rattle.game_model.specs.Game.{GameData, IsGame}
use Rattle.controller.specs.Certificates.{CertificateData}
use Rattle.cert_text.specs.declared.fault.CertKind.{CertKind}
use Rattle.cert_text.specs.Entries.{Entry}
use Rattle.cert_text.specs.Reading.{AcceptsCert, RefusesCert}
use Rattle.cert_text.specs.Answers.{IsTextFor}
use Rattle.cert_text.specs.Made.{certificate_of}

-- what is accepted is the text of the certificate that its lines say, which fits the game
abbrev pub LinesAreTexts : Type 0
LinesAreTexts =
    (g : GameData) (bytes : List ℕ) (entries : List Entry) → IsGame g →
    AcceptsCert g bytes entries → IsTextFor g (certificate_of g entries) bytes

-- each text of a certificate that fits the game is accepted, and its lines say the certificate
abbrev pub TextsAreRead : Type 0
TextsAreRead =
    (g : GameData) (bytes : List ℕ) (k : CertificateData) → IsGame g → IsTextFor g k bytes →
    (entries : List Entry) × AcceptsCert g bytes entries × (certificate_of g entries ≡ k)

-- a text is of one certificate
abbrev pub OneCertificate : Type 0
OneCertificate =
    (g : GameData) (bytes : List ℕ) (k m : CertificateData) → IsGame g → IsTextFor g k bytes → IsTextFor g m bytes → k ≡ m

-- a text is refused at one line, with one kind
abbrev pub RefusedOnce : Type 0
RefusedOnce =
    (g : GameData) (bytes : List ℕ) (m n : ℕ) (j k : CertKind) → RefusesCert g bytes m j → RefusesCert g bytes n k → (m ≡ n) × (j ≡ k)

-- what is accepted is not refused
abbrev pub AcceptedIsNotRefused : Type 0
AcceptedIsNotRefused =
    (g : GameData) (bytes : List ℕ) (entries : List Entry) (number : ℕ) (kind : CertKind) →
    AcceptsCert g bytes entries → RefusesCert g bytes number kind → ⊥

-- bytes are the text of a certificate that fits the game, or are refused
abbrev pub Decided : Type 0
Decided =
    (g : GameData) (bytes : List ℕ) → IsGame g →
    ((k : CertificateData) × IsTextFor g k bytes) ⊎ ((number : ℕ) × (kind : CertKind) × RefusesCert g bytes number kind)
