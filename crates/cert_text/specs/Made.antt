-- The certificate that entries say.
use Rattle.std.specs.Prelude.{ℤ, pos, List, [], ◌∷◌, ◌++◌}
use Rattle.game_model.specs.Branches.{Branch}
use Rattle.game_model.specs.Game.{GameData}
use Rattle.cert_text.specs.declared.progress.Limits.{Limits}
use Rattle.alpha_set.specs.Nodes.{NodeData, no_node}
use Rattle.belief.specs.Mixes.{MixesData}
use Rattle.point_set.specs.Points.{PointData}
use Rattle.controller.specs.Certificates.{CertificateData, Closed}
use Rattle.cert_text.specs.Entries.{Entry, Version, Outcome, Gap, Lower, Upper, Tail, Sizes, Start, Multiple, From, Over, Node, Vector, Mix, Next, Point, Belief, Value, Mixes, Split, End, limits_of}

-- the last member changed
abbrev pub at_last : {X : Type 0} → (X → X) → List X → List X
at_last f [] = []
at_last f (x ∷ []) = f x ∷ []
at_last f (x ∷ y ∷ xs) = x ∷ at_last f (y ∷ xs)

-- a point with nothing said yet, and with more weights of mixes
abbrev pub new_point : Limits → PointData
new_point limits = record {
  belief = [];
  value = pos 0;
  mixes = record { states = limits.states; actions = limits.informed_actions; weights = [] };
  splits = [];
}

abbrev pub with_mixes : List ℤ → MixesData → MixesData
with_mixes weights m = record m { weights = m.weights ++ weights }

-- a node or a point in the making with one more line
abbrev pub with_vector : List ℤ → NodeData → NodeData
with_vector entries n = record n { vector = entries }

abbrev pub with_mix : List ℤ → NodeData → NodeData
with_mix weights n = record n { mix = weights }

abbrev pub with_step : Branch → NodeData → NodeData
with_step b n = record n { next = n.next ++ b ∷ [] }

abbrev pub with_belief : List ℤ → PointData → PointData
with_belief parts p = record p { belief = parts }

abbrev pub with_value : ℤ → PointData → PointData
with_value value p = record p { value = value }

abbrev pub with_row : List ℤ → PointData → PointData
with_row weights p = record p { mixes = with_mixes weights p.mixes }

abbrev pub with_share : Branch → PointData → PointData
with_share b p = record p { splits = p.splits ++ b ∷ [] }

-- the certificate in the making with one more entry
abbrev pub with_entry : Limits → CertificateData → Entry → CertificateData
with_entry limits k (Version number) = k
with_entry limits k (Outcome ending) = record k { outcome = ending }
with_entry limits k (Gap f) = record k { gap = f }
with_entry limits k (Lower f) = record k { lower = f }
with_entry limits k (Upper f) = record k { upper = f }
with_entry limits k (Tail f) = record k { tail = f }
with_entry limits k (Sizes nodes points) = k
with_entry limits k (Start node point) =
    record k { start_nodes = (node, pos 1) ∷ []; start_points = (point, pos 1) ∷ []; multiple = pos 1 }
with_entry limits k (Multiple multiple) = record k { multiple = multiple }
with_entry limits k (From node weight) = record k { start_nodes = k.start_nodes ++ (node, weight) ∷ [] }
with_entry limits k (Over point weight) = record k { start_points = k.start_points ++ (point, weight) ∷ [] }
with_entry limits k (Node number) = record k { nodes = k.nodes ++ no_node ∷ [] }
with_entry limits k (Vector entries) = record k { nodes = at_last (with_vector entries) k.nodes }
with_entry limits k (Mix weights) = record k { nodes = at_last (with_mix weights) k.nodes }
with_entry limits k (Next b) = record k { nodes = at_last (with_step b) k.nodes }
with_entry limits k (Point number) = record k { points = k.points ++ new_point limits ∷ [] }
with_entry limits k (Belief parts) = record k { points = at_last (with_belief parts) k.points }
with_entry limits k (Value value) = record k { points = at_last (with_value value) k.points }
with_entry limits k (Mixes state weights) = record k { points = at_last (with_row weights) k.points }
with_entry limits k (Split b) = record k { points = at_last (with_share b) k.points }
with_entry limits k End = k

abbrev pub with_entries : Limits → CertificateData → List Entry → CertificateData
with_entries limits k [] = k
with_entries limits k (entry ∷ entries) = with_entries limits (with_entry limits k entry) entries

-- before the first line
abbrev pub blank : CertificateData
blank = record {
  lower = record { num = pos 0; den = pos 0 };
  upper = record { num = pos 0; den = pos 0 };
  tail = record { num = pos 0; den = pos 0 };
  gap = record { num = pos 0; den = pos 0 };
  outcome = Closed;
  nodes = [];
  points = [];
  start_nodes = [];
  start_points = [];
  multiple = pos 0;
}

abbrev pub certificate_of : GameData → List Entry → CertificateData
certificate_of g entries = with_entries (limits_of g) blank entries
