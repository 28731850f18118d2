-- What an export is given: the members of a certificate with their starts, and how the run ended, but no bounds.
use Rattle.std.specs.Prelude.{ℕ, ℤ, pos, List}
use Rattle.std.specs.List.{AllByRecursion}
use Rattle.alpha_set.specs.Nodes.{NodeData}
use Rattle.controller.specs.Certificates.{CertificateData, CertificateFits, Ending, FractionData, Holds, lower_scale, lower_sum, places, upper_scale, upper_sum}
use Rattle.game_model.specs.Game.{GameData, span, unit}
use Rattle.point_set.specs.Points.{PointData}

pub record Parts : Type 0 where
  pub nodes : List NodeData
  pub points : List PointData
  pub start_nodes : List (ℕ × ℤ)
  pub start_points : List (ℕ × ℤ)
  pub multiple : ℤ
  pub gap : FractionData
  pub outcome : Ending

-- parts with these bounds and this tail as a certificate
abbrev pub with_bounds : Parts → FractionData → FractionData → FractionData → CertificateData
with_bounds parts lower upper tail = record {
  lower = lower;
  upper = upper;
  tail = tail;
  gap = parts.gap;
  outcome = parts.outcome;
  nodes = parts.nodes;
  points = parts.points;
  start_nodes = parts.start_nodes;
  start_points = parts.start_points;
  multiple = parts.multiple;
}

abbrev pub no_fraction : FractionData
no_fraction = record { num = pos 0; den = pos 1 }

-- parts with 0 as both bounds and as the tail
abbrev pub unbounded : Parts → CertificateData
unbounded parts = with_bounds parts no_fraction no_fraction no_fraction

-- the bounds and the tail that parts prove
abbrev pub proved_lower : GameData → Parts → FractionData
proved_lower g parts = record { num = lower_sum g (unbounded parts); den = lower_scale g (unbounded parts) }

abbrev pub proved_upper : GameData → Parts → FractionData
proved_upper g parts = record { num = upper_sum (unbounded parts); den = upper_scale g (unbounded parts) }

abbrev pub proved_tail : GameData → FractionData
proved_tail g = record { num = pos (span g); den = pos unit }

-- the certificate of parts, with the bounds that they prove
abbrev pub certificate_of : GameData → Parts → CertificateData
certificate_of g parts = with_bounds parts (proved_lower g parts) (proved_upper g parts) (proved_tail g)

-- parts fit: they keep every rule of a certificate that fits, but those of its bounds and its tail
abbrev pub PartsFit : GameData → Parts → Type 0
PartsFit g parts = CertificateFits g (unbounded parts)

-- parts stand: with the bounds that they prove, the rule of each place holds
abbrev pub PartsStand : GameData → Parts → Type 0
PartsStand g parts = AllByRecursion (Holds g (certificate_of g parts)) (places g (certificate_of g parts))
