-- A certificate: when it fits a game, when it stands, and the first place where it does not.
use Rattle.game_model.specs.Limits.{most_members}
use Rattle.std.specs.Prelude.{ℕ, ℤ, pos, ◌-ℤ◌, ◌*ℤ◌, ◌≤ℤ◌, List, [], ◌∷◌, ◌++◌, map, flat_map, cond, length, ◌≡◌, ◌<◌, ◌≤◌, ◌^◌, ◌*◌, ◌==◌, sum_by, unsigned_abs}
use Rattle.std.specs.List.{AllByRecursion}
use Rattle.scaled_num.specs.First.{FirstIn}
use Rattle.scaled_num.specs.Sums.{below, total}
use Rattle.alpha_set.specs.Nodes.{NodeData, NodeFits, NodeHolds, nodes_of}
use Rattle.game_model.specs.Game.{GameData, IsWithin, first_at, numbers, span, unit}
use Rattle.point_set.specs.Points.{PointData, PointFits, SplitHolds, ValueHolds, points_of}
use Rattle.controller.specs.Starts.{MakesUpMultiple, StartsFit, weighted, weights_sum}

pub record FractionData : Type 0 where
  pub num : ℤ
  pub den : ℤ

-- how a run of the solver ended
pub data Ending : Type 0 where
  Closed : Ending
  Trials : Ending
  Full : Ending

-- The starts are numbers of members with their weights. The start points make up the multiple of the first belief.
pub record CertificateData : Type 0 where
  pub lower : FractionData
  pub upper : FractionData
  pub tail : FractionData
  pub gap : FractionData
  pub outcome : Ending
  pub nodes : List NodeData
  pub points : List PointData
  pub start_nodes : List (ℕ × ℤ)
  pub start_points : List (ℕ × ℤ)
  pub multiple : ℤ

-- the greatest numerator of a gap, and the greatest denominator
abbrev pub most_gap : ℕ
most_gap = 2 ^ 40

abbrev pub most_gap_under : ℕ
most_gap_under = 2 ^ 20

-- the first number of 37 digits
abbrev pub short_end : ℕ
short_end = 10 ^ 36

-- a numerator and a positive denominator of at most 36 digits
abbrev pub IsShort : FractionData → Type 0
IsShort f = (unsigned_abs f.num < short_end) × (pos 1 ≤ℤ f.den) × (unsigned_abs f.den < short_end)

-- a tolerance within its limits
abbrev pub IsGap : FractionData → Type 0
IsGap f = IsWithin (pos 0) (pos most_gap) f.num × IsWithin (pos 1) (pos most_gap_under) f.den

pub record CertificateFits (g : GameData) (k : CertificateData) : Type 0 where
  pub some_node : 1 ≤ length k.nodes
  pub most_nodes : length k.nodes ≤ most_members
  pub some_points : g.shape.states ≤ length k.points
  pub most_points : length k.points ≤ most_members
  pub nodes : AllByRecursion (NodeFits g (length k.nodes)) k.nodes
  pub points : AllByRecursion (PointFits g (length k.points)) k.points
  pub starts : StartsFit (length k.nodes) (length k.points) k.start_nodes k.start_points k.multiple
  pub gap : IsGap k.gap
  pub short : IsShort k.lower × IsShort k.upper × IsShort k.tail

-- the total of the first belief
abbrev pub first_total : GameData → ℕ
first_total g = sum_by (first_at g) (below g.shape.states)

-- the product of a node's vector with the first belief
abbrev pub node_product : GameData → List NodeData → ℕ → ℤ
node_product g nodes i = total (λ s. pos (first_at g s) *ℤ (nodes_of nodes i).vector s) (below g.shape.states)

-- the products of the start nodes, weighted, and the denominator of the lower bound
abbrev pub lower_sum : GameData → CertificateData → ℤ
lower_sum g k = weighted k.start_nodes (node_product g k.nodes)

abbrev pub lower_scale : GameData → CertificateData → ℤ
lower_scale g k = weights_sum k.start_nodes *ℤ pos (first_total g * unit)

-- the values of the start points, weighted, and the denominator of the upper bound
abbrev pub upper_sum : CertificateData → ℤ
upper_sum k = weighted k.start_points (λ j. (points_of k.points j).value)

abbrev pub upper_scale : GameData → CertificateData → ℤ
upper_scale g k = k.multiple *ℤ pos (first_total g * unit)

abbrev pub IsFraction : FractionData → ℤ → ℤ → Type 0
IsFraction f num den = (f.num ≡ num) × (f.den ≡ den)

-- upper - lower <= gap, as rationals
abbrev pub IsWithinGap : CertificateData → Type 0
IsWithinGap k =
    ((k.upper.num *ℤ k.lower.den -ℤ k.lower.num *ℤ k.upper.den) *ℤ k.gap.den) ≤ℤ (k.gap.num *ℤ k.upper.den *ℤ k.lower.den)

-- `closed` stands exactly where the gap is within the tolerance
abbrev pub OutcomeHolds : CertificateData → Ending → Type 0
OutcomeHolds k Closed = IsWithinGap k
OutcomeHolds k Trials = IsWithinGap k → ⊥
OutcomeHolds k Full = IsWithinGap k → ⊥

-- where a certificate may fail
pub data Place : Type 0 where
  NodeAt : (i s c : ℕ) → Place
  CornerAt : (j : ℕ) → Place
  SplitAt : (j a o s : ℕ) → Place
  ValueAt : (j a : ℕ) → Place
  StartAt : Place
  BoundAt : Place
  OutcomeAt : Place

-- the rule of a place
abbrev pub Holds : GameData → CertificateData → Place → Type 0
Holds g k (NodeAt i s c) = NodeHolds (numbers g) (nodes_of k.nodes) (nodes_of k.nodes i) s c
Holds g k (CornerAt j) = (s : ℕ) → s < g.shape.states → (points_of k.points j).belief s ≡ cond (s == j) 1 0
Holds g k (SplitAt j a o s) = SplitHolds (numbers g) (points_of k.points) (points_of k.points j) a o s
Holds g k (ValueAt j a) = ValueHolds (numbers g) (points_of k.points) (points_of k.points j) a
Holds g k StartAt = MakesUpMultiple k.points k.start_points k.multiple g.first g.shape.states
Holds g k BoundAt =
    IsFraction k.lower (lower_sum g k) (lower_scale g k)
    × IsFraction k.upper (upper_sum k) (upper_scale g k)
    × IsFraction k.tail (pos (span g)) (pos unit)
Holds g k OutcomeAt = OutcomeHolds k k.outcome

-- all places in the order of the test
abbrev pub node_places : GameData → CertificateData → List Place
node_places g k = flat_map (λ i. flat_map (λ s. map (λ c. NodeAt i s c) (below g.shape.informed_actions)) (below g.shape.states)) (below (length k.nodes))

abbrev pub corner_places : GameData → ℕ → List Place
corner_places g j = flat_map (λ s. cond (s == j) (CornerAt j ∷ []) []) (below g.shape.states)

abbrev pub split_places : GameData → ℕ → List Place
split_places g j = flat_map (λ a. flat_map (λ o. map (λ s. SplitAt j a o s) (below g.shape.states)) (below g.shape.observations)) (below g.shape.own_actions)

abbrev pub value_places : GameData → ℕ → List Place
value_places g j = map (λ a. ValueAt j a) (below g.shape.own_actions)

abbrev pub point_places : GameData → ℕ → List Place
point_places g j = corner_places g j ++ (split_places g j ++ value_places g j)

-- the places of all points, one point after the other
abbrev pub points_places : GameData → CertificateData → List Place
points_places g k = flat_map (point_places g) (below (length k.points))

abbrev pub end_places : List Place
end_places = StartAt ∷ BoundAt ∷ OutcomeAt ∷ []

abbrev pub places : GameData → CertificateData → List Place
places g k = node_places g k ++ (points_places g k ++ end_places)

-- a certificate stands
pub record CertificateStands (g : GameData) (k : CertificateData) : Type 0 where
  pub fits : CertificateFits g k
  pub holds : AllByRecursion (Holds g k) (places g k)

-- it fails first at this place
abbrev pub FailsFirst : GameData → CertificateData → Place → Type 0
FailsFirst g k place = FirstIn (Holds g k) (places g k) place
