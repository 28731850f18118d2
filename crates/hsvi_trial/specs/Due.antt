-- When a new node or point has to be kept, and what keeping it makes of a set.
use Rattle.std.specs.Prelude.{ℕ, ℤ, List, [], Option, Some, None, ◌∷◌, ◌++◌, length, ◌≡◌, ◌<◌, ◌⊎◌, ◌<ℤ◌}
use Rattle.alpha_set.specs.Members.{most_nodes}
use Rattle.alpha_set.specs.Nodes.{NodeData}
use Rattle.alpha_set.specs.Worth.{IsWorth, worth_at}
use Rattle.point_set.specs.Corners.{point_at}
use Rattle.point_set.specs.Members.{most_points}
use Rattle.point_set.specs.Points.{PointData}
use Rattle.point_set.specs.Sawtooth.{IsSawtooth}
use Rattle.hsvi_trial.specs.Least.{NoneIsAt}
use Rattle.hsvi_trial.specs.Sets.{Sets}

-- a node is due at a belief: its product is greater than what the nodes are worth there
abbrev pub IsNodeDue : List NodeData → List ℤ → NodeData → Type 0
IsNodeDue nodes belief node = (value : ℤ) × ((number : ℕ) × IsWorth nodes belief value number × (value <ℤ worth_at belief node.vector))

-- a point is due at a belief: its value is below that of each point there, and, where there is none, below the sawtooth
pub record IsPointDue (points : List PointData) (belief : List ℤ) (point : PointData) : Type 0 where
  pub below_each : (j : ℕ) → j < length points → (point_at points j).belief ≡ belief → point.value <ℤ (point_at points j).value
  pub below_sawtooth : NoneIsAt points belief (length points) → (value : ℤ) × IsSawtooth points belief value × (point.value <ℤ value)

-- a node is due, and its set is full; the same of a point
abbrev pub IsNodeRefused : List NodeData → List ℤ → NodeData → Type 0
IsNodeRefused nodes belief node = IsNodeDue nodes belief node × (length nodes ≡ most_nodes)

abbrev pub IsPointRefused : List PointData → List ℤ → PointData → Type 0
IsPointRefused points belief point = IsPointDue points belief point × (length points ≡ most_points)

-- some member is due whose set is full
abbrev pub IsCut : Sets → List ℤ → NodeData → PointData → Type 0
IsCut before belief node point = IsNodeRefused before.nodes belief node ⊎ IsPointRefused before.points belief point

-- the node is kept under this number, exactly where it is due and there is room
abbrev pub KeepsNode : List NodeData → List NodeData → List ℤ → NodeData → Option ℕ → Type 0
KeepsNode before after belief node None = (IsNodeDue before belief node → length before < most_nodes → ⊥) × (after ≡ before)
KeepsNode before after belief node (Some number) =
    IsNodeDue before belief node × (length before < most_nodes) × (number ≡ length before) × (after ≡ before ++ node ∷ [])

-- the point is kept under this number, exactly where it is due, there is room, and no node was refused
abbrev pub KeepsPoint : Type 0 → List PointData → List PointData → List ℤ → PointData → Option ℕ → Type 0
KeepsPoint Refused before after belief point None =
    (IsPointDue before belief point → length before < most_points → (Refused → ⊥) → ⊥) × (after ≡ before)
KeepsPoint Refused before after belief point (Some number) =
    IsPointDue before belief point × (length before < most_points) × (Refused → ⊥)
    × (number ≡ length before) × (after ≡ before ++ point ∷ [])
