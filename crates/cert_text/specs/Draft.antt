-- A certificate in the making as data.
use Rattle.std.specs.Prelude.{◌≡◌, List, map}
use Rattle.belief.specs.Mixes.{AreMixes}
use Rattle.game_model.specs.Game.{AreCoprime, GameData, IsBelief}
use Rattle.alpha_set.specs.Members.{node_data}
use Rattle.game_model.specs.Branches.{branch_of}
use Rattle.point_set.specs.Points.{PointData}
use Rattle.controller.specs.Certificates.{CertificateData}
use Rattle.controller.specs.Data.{ending_of}
use Rattle.cert_text.specs.declared.draft.Draft.{Draft}
use Rattle.cert_text.specs.declared.draft.Spot.{Spot}
use Rattle.alpha_set.specs.Nodes.{NodeData}
use Rattle.alpha_set.specs.declared.nodes.Node.{Node}
use Rattle.cert_text.specs.Made.{at_last}
use Rattle.cert_text.specs.View.{fraction_is}

abbrev pub spot_data : Spot → PointData
spot_data p = record {
  belief = p.belief.items;
  value = p.value;
  mixes = record { states = p.states; actions = p.actions; weights = p.weights.items };
  splits = map branch_of p.splits.items;
}

-- the last node, or the last point in the making, changed by f
abbrev pub LastNodeIs : List Node → List Node → (NodeData → NodeData) → Type 0
LastNodeIs old new f = map node_data new ≡ at_last f (map node_data old)

abbrev pub LastSpotIs : List Spot → List Spot → (PointData → PointData) → Type 0
LastSpotIs old new f = map spot_data new ≡ at_last f (map spot_data old)

abbrev pub draft_data : Draft → CertificateData
draft_data d = record {
  lower = fraction_is d.lower;
  upper = fraction_is d.upper;
  tail = fraction_is d.tail;
  gap = fraction_is d.gap;
  outcome = ending_of d.outcome;
  nodes = map node_data d.nodes.items;
  points = map spot_data d.points.items;
  start_nodes = d.start_nodes.items;
  start_points = d.start_points.items;
  multiple = d.multiple;
}

-- a point in the making that makes a point of the game
pub record AreFit (g : GameData) (p : PointData) : Type 0 where
  pub belief : IsBelief g.shape.states p.belief
  pub coprime : AreCoprime p.belief
  pub states : p.mixes.states ≡ g.shape.states
  pub actions : p.mixes.actions ≡ g.shape.informed_actions
  pub mixes : AreMixes p.mixes
