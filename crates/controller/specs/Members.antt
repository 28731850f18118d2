-- What the members of a certificate have: of one that fits, and of one that stands.
use Rattle.std.specs.Prelude.{ℕ, ◌*◌, ◌≡◌, ◌<◌, pos, ◌+ℤ◌, ◌≤ℤ◌, length, sum_by}
use Rattle.std.specs.List.{AllByRecursion}
use Rattle.scaled_num.specs.Sums.{below}
use Rattle.alpha_set.specs.Nodes.{Node, nodes_of, steps_at}
use Rattle.controller.specs.Certificates.{BoundAt, CertificateData, CertificateFits, CertificateStands, CornerAt, Holds, NodeAt, OutcomeAt, SplitAt, StartAt, ValueAt}
use Rattle.game_model.specs.Branches.{mix_total}
use Rattle.game_model.specs.Game.{GameData, numbers, span}
use Rattle.game_model.specs.Numbers.{Numbers}
use Rattle.point_set.specs.Points.{Point, points_of, shares_at}

-- the sum of a point's belief
abbrev pub belief_total : Numbers → Point → ℕ
belief_total g point = sum_by point.belief (below g.states)

-- A node keeps to a game and so many nodes: its entries are at most the span, its mix sums to the total, and after each
-- own action and observation its steps have the weight of that action and name nodes of the set.
pub record NodeKeeps (g : Numbers) (mix_total span count : ℕ) (node : Node) : Type 0 where
  pub at_most : (s : ℕ) → s < g.states → node.vector s ≤ℤ pos span
  pub mix_sums : sum_by node.mix (below g.own_actions) ≡ mix_total
  pub steps_sum : (a o : ℕ) → a < g.own_actions → o < g.observations → sum_by (λ step. step.weight) (steps_at node a o) ≡ node.mix a
  pub named : (a o : ℕ) → a < g.own_actions → o < g.observations → AllByRecursion (λ step. step.member < count) (steps_at node a o)

-- A point keeps to a game and so many points: its value is not below the span times the sum of its belief, less than 0,
-- the mixes of each state sum to the total, and its shares name points of the set.
pub record PointKeeps (g : Numbers) (mix_total span count : ℕ) (point : Point) : Type 0 where
  pub at_least : pos 0 ≤ℤ (point.value +ℤ pos (span * belief_total g point))
  pub mixes_sum : (s : ℕ) → s < g.states → sum_by (point.mixes s) (below g.informed_actions) ≡ mix_total
  pub named : (a o : ℕ) → a < g.own_actions → o < g.observations → AllByRecursion (λ share. share.member < count) (shares_at point a o)

-- ---- of a certificate that fits
abbrev pub NodesKeep : GameData → CertificateData → Type 0
NodesKeep g k = (i : ℕ) → i < length k.nodes → NodeKeeps (numbers g) mix_total (span g) (length k.nodes) (nodes_of k.nodes i)

abbrev pub PointsKeep : GameData → CertificateData → Type 0
PointsKeep g k = (j : ℕ) → j < length k.points → PointKeeps (numbers g) mix_total (span g) (length k.points) (points_of k.points j)

-- every step names an own action, an observation and a node
abbrev pub StepsNameMembers : GameData → CertificateData → Type 0
StepsNameMembers g k =
    (i : ℕ) → i < length k.nodes →
    AllByRecursion (λ step. (step.own < g.shape.own_actions) × (step.seen < g.shape.observations) × (step.member < length k.nodes)) (nodes_of k.nodes i).next

-- every share names an own action, an observation and a point
abbrev pub SharesNameMembers : GameData → CertificateData → Type 0
SharesNameMembers g k =
    (j : ℕ) → j < length k.points →
    AllByRecursion (λ share. (share.own < g.shape.own_actions) × (share.seen < g.shape.observations) × (share.member < length k.points)) (points_of k.points j).splits

-- what the members of every certificate that fits have
pub record MembersKeep : Type 0 where
  pub nodes : (g : GameData) (k : CertificateData) → CertificateFits g k → NodesKeep g k
  pub points : (g : GameData) (k : CertificateData) → CertificateFits g k → PointsKeep g k
  pub steps : (g : GameData) (k : CertificateData) → CertificateFits g k → StepsNameMembers g k
  pub shares : (g : GameData) (k : CertificateData) → CertificateFits g k → SharesNameMembers g k

-- ---- of a certificate that stands

-- the rule of each place, by the kinds of places
pub record Rules (g : GameData) (k : CertificateData) : Type 0 where
  pub node : (i s c : ℕ) → i < length k.nodes → s < g.shape.states → c < g.shape.informed_actions → Holds g k (NodeAt i s c)
  pub corner : (j : ℕ) → j < length k.points → j < g.shape.states → Holds g k (CornerAt j)
  pub split : (j a o s : ℕ) → j < length k.points → a < g.shape.own_actions → o < g.shape.observations → s < g.shape.states → Holds g k (SplitAt j a o s)
  pub value : (j a : ℕ) → j < length k.points → a < g.shape.own_actions → Holds g k (ValueAt j a)
  pub start : Holds g k StartAt
  pub bound : Holds g k BoundAt
  pub outcome : Holds g k OutcomeAt

-- a certificate that fits stands exactly where the rule of each place holds
pub record StandsByRules : Type 0 where
  pub rules : (g : GameData) (k : CertificateData) → CertificateStands g k → Rules g k
  pub stands : (g : GameData) (k : CertificateData) → CertificateFits g k → Rules g k → CertificateStands g k
