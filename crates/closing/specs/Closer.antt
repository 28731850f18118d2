-- A closer certificate of a given one: it stands, is no worse, and ends by its gap.
use Rattle.std.specs.Prelude.{ℕ, ◌*ℤ◌, ◌≤ℤ◌, ◌≡◌, ◌⊎◌}
use Rattle.controller.specs.Certificates.{CertificateData, CertificateStands, Ending, FractionData, IsWithinGap}
use Rattle.controller.specs.Concluded.{EndsByGap}
use Rattle.game_model.specs.Game.{GameData}

-- the most rounds
abbrev pub most_rounds : ℕ
most_rounds = 10000

-- as rationals, the lower bound is not below that of the given certificate, and the upper bound not above it
pub record IsNoWorse (given k : CertificateData) : Type 0 where
  pub lower : (given.lower.num *ℤ k.lower.den) ≤ℤ (k.lower.num *ℤ given.lower.den)
  pub upper : (k.upper.num *ℤ given.upper.den) ≤ℤ (given.upper.num *ℤ k.upper.den)

-- it stands, has the gap of the given one, is no worse, and is closed exactly where its bounds are within the gap
pub record IsBetter (g : GameData) (given k : CertificateData) : Type 0 where
  pub stands : CertificateStands g k
  pub gap : k.gap ≡ given.gap
  pub no_worse : IsNoWorse given k
  pub ends : EndsByGap k

-- a certificate with this gap and outcome
abbrev pub ended_with : FractionData → Ending → CertificateData → CertificateData
ended_with gap outcome k = record k { gap = gap; outcome = outcome }

-- A closer certificate under a gap. Where there are no rounds, or the given bounds are within the gap, it is the given
-- one but for gap and outcome.
pub record IsCloser (g : GameData) (given : CertificateData) (rounds : ℕ) (gap : FractionData) (k : CertificateData) : Type 0 where
  pub better : IsBetter g (ended_with gap given.outcome given) k
  pub kept : ((rounds ≡ 0) ⊎ IsWithinGap (ended_with gap given.outcome given)) → k ≡ ended_with gap k.outcome given
