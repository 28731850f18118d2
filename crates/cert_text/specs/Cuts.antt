-- Texts that are cut short.
use Rattle.std.specs.Prelude.{ℕ, ◌+◌, ◌==◌, List, count_by}
use Rattle.game_model.specs.Game.{GameData}
use Rattle.controller.specs.Certificates.{CertificateData}
use Rattle.cert_text.specs.Answers.{IsTextFor}
use Rattle.cert_text.specs.declared.fault.CertKind.TheVariants as kinds
use Rattle.cert_text.specs.Reading.{RefusesCert}

-- the bytes are the text of a certificate that fits the game
abbrev pub IsSomeText : GameData → List ℕ → Type 0
IsSomeText g bytes = (k : CertificateData) × IsTextFor g k bytes

-- the number of the line in which the bytes end: one above the count of their line feeds
abbrev pub last_number : List ℕ → ℕ
last_number bytes = count_by (λ b. b == 10) bytes + 1

-- the bytes are refused, as the line in which they end is missing
abbrev pub IsCutShort : GameData → List ℕ → Type 0
IsCutShort g bytes = RefusesCert g bytes (last_number bytes) kinds.Missing
