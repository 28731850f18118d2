-- The export of parts: the members that the starts reach, under new numbers, with the bounds that the parts prove.
use Rattle.std.specs.Prelude.{ℕ, ℤ, Bool, IsTrue, List, [], ◌∷◌, ◌++◌, count_by, filter, length, map, slice_index_or, ◌<◌, ◌≡◌, ◌↔◌, ◌⊎◌}
use Rattle.scaled_num.specs.Sums.{below}
use Rattle.alpha_set.specs.Nodes.{NodeData, no_node}
use Rattle.controller.specs.Certificates.{CertificateData}
use Rattle.controller.specs.Parts.{Parts, proved_lower, proved_tail, proved_upper, with_bounds}
use Rattle.game_model.specs.Branches.{Branch}
use Rattle.game_model.specs.Game.{GameData}
use Rattle.point_set.specs.Points.{PointData, no_point}

-- one of these branches names the member j
pub record LeadTo (branches : List Branch) (j : ℕ) : Type 0 where
  pub before : List Branch
  pub branch : Branch
  pub after : List Branch
  pub one : branches ≡ before ++ branch ∷ after
  pub named : branch.member ≡ j

-- a way from the member i to the member j: each member on it is named by the one before
abbrev pub IsWay : (ℕ → List Branch) → ℕ → List ℕ → ℕ → Type 0
IsWay branches i [] j = i ≡ j
IsWay branches i (next ∷ way) j = LeadTo (branches i) next × IsWay branches next way j

-- a member is reached from the first ones
pub record IsReached (branches : ℕ → List Branch) (IsFirst : ℕ → Type 0) (j : ℕ) : Type 0 where
  pub first : ℕ
  pub is_first : IsFirst first
  pub way : List ℕ
  pub is_way : IsWay branches first way j

-- kept are just those of so many members that are reached
abbrev pub AreKept : (ℕ → List Branch) → (ℕ → Type 0) → ℕ → (ℕ → Bool) → Type 0
AreKept branches IsFirst count kept = (j : ℕ) → IsTrue (kept j) ↔ ((j < count) × IsReached branches IsFirst j)

-- a start names the member j
pub record IsAtStart (starts : List (ℕ × ℤ)) (j : ℕ) : Type 0 where
  pub before : List (ℕ × ℤ)
  pub weight : ℤ
  pub after : List (ℕ × ℤ)
  pub one : starts ≡ before ++ (j, weight) ∷ after

-- a start point, or one of the first points, which are the corners
abbrev pub IsAtCornerOrStart : ℕ → List (ℕ × ℤ) → ℕ → Type 0
IsAtCornerOrStart states starts j = (j < states) ⊎ IsAtStart starts j

-- the steps of a node, and the shares of a point, by its number
abbrev pub steps_of : List NodeData → ℕ → List Branch
steps_of nodes i = (slice_index_or nodes i no_node).next

abbrev pub shares_of : List PointData → ℕ → List Branch
shares_of points j = (slice_index_or points j no_point).splits

-- ---- new numbers

-- the new number of a member: how many kept ones stand before it
abbrev pub new_number : (ℕ → Bool) → ℕ → ℕ
new_number kept j = count_by kept (below j)

abbrev pub renumbered : (ℕ → Bool) → List Branch → List Branch
renumbered kept branches = map (λ b. record { own = b.own; seen = b.seen; member = new_number kept b.member; weight = b.weight }) branches

abbrev pub renumbered_starts : (ℕ → Bool) → List (ℕ × ℤ) → List (ℕ × ℤ)
renumbered_starts kept starts = map (λ start. (new_number kept start.0, start.1)) starts

-- a node, and a point, with all else as it was
abbrev pub renumbered_node : (ℕ → Bool) → NodeData → NodeData
renumbered_node kept node = record { vector = node.vector; mix = node.mix; next = renumbered kept node.next }

abbrev pub renumbered_point : (ℕ → Bool) → PointData → PointData
renumbered_point kept point = record { belief = point.belief; value = point.value; mixes = point.mixes; splits = renumbered kept point.splits }

-- the kept ones of so many members, in order
abbrev pub kept_below : (ℕ → Bool) → ℕ → List ℕ
kept_below kept count = filter kept (below count)

abbrev pub nodes_kept : (ℕ → Bool) → List NodeData → List NodeData
nodes_kept kept nodes = map (λ i. renumbered_node kept (slice_index_or nodes i no_node)) (kept_below kept (length nodes))

abbrev pub points_kept : (ℕ → Bool) → List PointData → List PointData
points_kept kept points = map (λ j. renumbered_point kept (slice_index_or points j no_point)) (kept_below kept (length points))

-- parts of the kept nodes and points, under their new numbers
abbrev pub parts_kept : (ℕ → Bool) → (ℕ → Bool) → Parts → Parts
parts_kept nodes points parts = record {
  nodes = nodes_kept nodes parts.nodes;
  points = points_kept points parts.points;
  start_nodes = renumbered_starts nodes parts.start_nodes;
  start_points = renumbered_starts points parts.start_points;
  multiple = parts.multiple;
  gap = parts.gap;
  outcome = parts.outcome;
}

-- A certificate is the export of parts: it has the nodes that the start nodes reach by steps, and the points that the
-- corners and the start points reach by shares, under new numbers, with the bounds that the parts prove.
pub record IsExport (g : GameData) (parts : Parts) (k : CertificateData) : Type 0 where
  pub nodes : ℕ → Bool
  pub points : ℕ → Bool
  pub nodes_reached : AreKept (steps_of parts.nodes) (IsAtStart parts.start_nodes) (length parts.nodes) nodes
  pub points_reached : AreKept (shares_of parts.points) (IsAtCornerOrStart g.shape.states parts.start_points) (length parts.points) points
  pub same : k ≡ with_bounds (parts_kept nodes points parts) (proved_lower g parts) (proved_upper g parts) (proved_tail g)

-- the export of parts is one
abbrev pub ExportsAreOne : Type 0
ExportsAreOne = (g : GameData) (parts : Parts) (k other : CertificateData) → IsExport g parts k → IsExport g parts other → k ≡ other
