-- Why nothing is told of a text, and what one action is worth.
use Rattle.std.specs.Prelude.{ℕ, ℤ, List, ◌≡◌, drop}
use Rattle.game_model.specs.Game.{GameData, first_at, numbers, span}
use Rattle.game_model.specs.Numbers.{product}
use Rattle.game_model.specs.Seeds.{IsSeed}
use Rattle.game_text.specs.Answers.{IsNoFront, IsRefused as IsRefusedGame}
use Rattle.game_text.specs.Text.{IsTextOf}
use Rattle.cert_text.specs.Answers.{IsNoText, IsRefused as IsRefusedCert, IsTextFor}
use Rattle.controller.specs.Certificates.{CertificateData, CertificateStands}
use Rattle.promises.specs.declared.telling.Untold.{Untold}
use Rattle.promises.specs.declared.telling.Untold.TheVariants.{Game as NoGame, Certificate as NoCertificate, Fails}

-- the bytes begin with no text of a game; or they do, and go on with the text of no certificate for it; or they do, and
-- the certificate does not stand
abbrev pub IsUntold : List ℕ → Untold → Type 0
IsUntold bytes (NoGame fault) = IsNoFront bytes fault × IsRefusedGame bytes fault
IsUntold bytes (NoCertificate fault) =
    (g : GameData) × (place : ℕ) × IsTextOf g bytes (drop place bytes) × IsNoText g (drop place bytes) fault × IsRefusedCert g (drop place bytes) fault
IsUntold bytes Fails =
    (g : GameData) × (k : CertificateData) × (place : ℕ) × IsTextOf g bytes (drop place bytes) × IsTextFor g k (drop place bytes) × (CertificateStands g k → ⊥)

-- the first belief's sum of the action's seed vector
abbrev pub IsSeedWorth : GameData → ℕ → ℤ → Type 0
IsSeedWorth g action worth =
    (entries : ℕ → ℤ) × IsSeed (numbers g) (span g) action entries × (worth ≡ product (numbers g) (first_at g) entries)
