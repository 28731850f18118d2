-- What a certificate text is, and what a refusal of one says.
use Rattle.std.specs.Prelude.{◌≡◌, ℕ, List, ⊤}
use Rattle.game_model.specs.Game.{GameData}
use Rattle.controller.specs.Certificates.{CertificateData, CertificateFits}
use Rattle.cert_text.specs.declared.fault.CertFault.{CertFault}
use Rattle.cert_text.specs.declared.fault.CertFault.TheVariants.{Line as LineOf, OutOfMemory}
use Rattle.cert_text.specs.Text.{certificate_text}
use Rattle.cert_text.specs.Reading.{RefusesCert}

-- these bytes are the text of this certificate, which fits the game
abbrev pub IsTextFor : GameData → CertificateData → List ℕ → Type 0
IsTextFor g k bytes = CertificateFits g k × (bytes ≡ certificate_text k)

-- the first line that is refused, with its least kind
abbrev pub IsRefused : GameData → List ℕ → CertFault → Type 0
IsRefused g bytes (LineOf number kind) = RefusesCert g bytes number kind
IsRefused g bytes OutOfMemory = ⊤

-- a line is refused, and the bytes are the text of no certificate that fits the game
abbrev pub IsNoText : GameData → List ℕ → CertFault → Type 0
IsNoText g bytes (LineOf number kind) = (k : CertificateData) → IsTextFor g k bytes → ⊥
IsNoText g bytes OutOfMemory = ⊤
