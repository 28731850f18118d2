-- A certificate that is concluded: its bounds and its outcome follow from its members, starts and gap.
use Rattle.std.specs.Prelude.{◌≡◌, ◌⊎◌}
use Rattle.controller.specs.Certificates.{BoundAt, CertificateData, Closed, Ending, Holds, IsWithinGap, Trials}
use Rattle.game_model.specs.Game.{GameData}

-- `closed` where the gap is within the tolerance, else `trials`
abbrev pub EndsByGap : CertificateData → Type 0
EndsByGap k = ((k.outcome ≡ Closed) × IsWithinGap k) ⊎ ((k.outcome ≡ Trials) × (IsWithinGap k → ⊥))

-- a certificate with another outcome
abbrev pub with_outcome : Ending → CertificateData → CertificateData
with_outcome outcome k = record k { outcome = outcome }

-- a certificate has the gap, the members and the starts of another
pub record HasSameMembers (given k : CertificateData) : Type 0 where
  pub gap : k.gap ≡ given.gap
  pub nodes : k.nodes ≡ given.nodes
  pub points : k.points ≡ given.points
  pub start_nodes : k.start_nodes ≡ given.start_nodes
  pub start_points : k.start_points ≡ given.start_points
  pub multiple : k.multiple ≡ given.multiple

-- it also has the bounds that the starts prove, and ends by them
pub record IsConcluded (g : GameData) (given k : CertificateData) : Type 0 where
  pub same : HasSameMembers given k
  pub bound : Holds g k BoundAt
  pub ends : EndsByGap k
