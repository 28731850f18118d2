-- What a certificate promises of its controller and of its splitting strategy, against every plan of the other player.
use Rattle.std.specs.Prelude.{ℕ, ◌≡◌, ◌≢◌, ◌/◌, ◌*◌, ◌^◌, ◌<◌, ◌≤◌, ◌==◌, ℤ, pos, ◌+ℤ◌, ◌-ℤ◌, ◌*ℤ◌, ◌≤ℤ◌, cond, length, map, unsigned_abs}
use Rattle.scaled_num.specs.Sums.{below, total}
use Rattle.alpha_set.specs.Nodes.{nodes_of}
use Rattle.controller.specs.Certificates.{CertificateData, CertificateStands, first_total}
use Rattle.controller.specs.Starts.{weighted, weights_sum}
use Rattle.game_model.specs.Branches.{mix_total}
use Rattle.game_model.specs.Game.{GameData, first_at, numbers, span, unit}
use Rattle.game_model.specs.Mixed.{mixed_informed, mixed_own, scaled_informed, scaled_own}
use Rattle.game_model.specs.Plan.{InformedPlan, IsInformedPlan, IsOwnPlan, OwnPlan}
use Rattle.game_model.specs.Play.{pay}
use Rattle.game_model.specs.Seeds.{KeepsSpan}
use Rattle.controller.specs.Members.{belief_total}
use Rattle.history_model.specs.Plans.{informed_plan, mass_product, own_plan, product_of_positive}
use Rattle.point_set.specs.Points.{mass, points_of}

-- ---- the controller

-- the plan of a node of a certificate
abbrev pub node_plan : CertificateData → ℕ → (n : ℕ) → OwnPlan n
node_plan k i n = own_plan (nodes_of k.nodes) i n

-- the plan of a node, each weight times r
abbrev pub own : CertificateData → ℕ → (n : ℕ) → ℕ → OwnPlan n
own k i n r = scaled_own r n (node_plan k i n)

-- the sum of the weights of the start nodes
abbrev pub from_total : CertificateData → ℕ
from_total k = unsigned_abs (weights_sum k.start_nodes)

-- a start node's plan, with its weight
abbrev pub start_item : CertificateData → (n : ℕ) → ℕ × ℤ → ℕ × OwnPlan n
start_item k n start = (unsigned_abs start.1, node_plan k start.0 n)

-- the controller of a certificate: it draws among the plans of the start nodes
abbrev pub start : CertificateData → (n : ℕ) → OwnPlan n
start k n = mixed_own (from_total k) n (map (start_item k n) k.start_nodes)

-- ---- the splitting strategy

-- the common multiple of all positive masses of all points
abbrev pub common : GameData → CertificateData → ℕ
common g k = mass_product (numbers g) (points_of k.points) (length k.points)

-- the plan of a point of a certificate in a first state
abbrev pub point_plan : GameData → CertificateData → ℕ → ℕ → (n : ℕ) → InformedPlan n
point_plan g k j s n = informed_plan (numbers g) (points_of k.points) (common g k) j s n

-- the plan of a point in a first state, each weight times r
abbrev pub hold : GameData → CertificateData → ℕ → ℕ → (n : ℕ) → ℕ → InformedPlan n
hold g k j s n r = scaled_informed r n (point_plan g k j s n)

-- the product of the positive weights of the first belief, and that times the multiple
abbrev pub first_weights : GameData → ℕ
first_weights g = product_of_positive (map (first_at g) (below g.shape.states))

abbrev pub over_total : GameData → CertificateData → ℕ
over_total g k = unsigned_abs k.multiple * first_weights g

-- a start point's plan in a first state, with the point's part of that state: weight times belief, over the state's
-- weight in the first belief
abbrev pub reply_item : GameData → CertificateData → ℕ → (n : ℕ) → ℕ × ℤ → ℕ × InformedPlan n
reply_item g k s n start =
    (unsigned_abs start.1 * (points_of k.points start.0).belief s * (first_weights g / first_at g s), point_plan g k start.0 s n)

-- The splitting strategy of a certificate in a first state: it draws among the plans of the start points. Where the state
-- has no weight in the first belief it is the plan of the state's corner.
abbrev pub reply : GameData → CertificateData → ℕ → (n : ℕ) → InformedPlan n
reply g k s n =
    cond (first_at g s == 0) (hold g k s s n (over_total g k))
    (mixed_informed (over_total g k) n (map (reply_item g k s n) k.start_points))

-- ---- of every node and of every point

-- the plan of every node, each weight times r, is a right plan of player one, of r times the total of its mixes
abbrev pub NodesArePlans : GameData → CertificateData → Type 0
NodesArePlans g k = (n i r : ℕ) → i < length k.nodes → 1 ≤ r → IsOwnPlan (numbers g) (r * mix_total) n (own k i n r)

-- In each first state the plan of every node earns at least the node's entry less the tail, against every plan of the
-- informed player.
abbrev pub NodesEarn : GameData → CertificateData → Type 0
NodesEarn g k =
    (whole n i s r : ℕ) (tau : InformedPlan n) → i < length k.nodes → s < g.shape.states → IsInformedPlan (numbers g) whole n tau →
    let entry = (nodes_of k.nodes i).vector s in
    let tail = pos ((numbers g).discount_over ^ n * span g) in
    let scale = pos (((numbers g).row_total * (r * mix_total) * whole) ^ n) in
    ((entry *ℤ pos ((numbers g).discount_under ^ n) -ℤ tail) *ℤ scale) ≤ℤ (pos unit *ℤ pay (numbers g) n s (own k i n r) tau)

-- the plan of every point, each weight times r, is in each first state a right plan of the informed player
abbrev pub PointsArePlans : GameData → CertificateData → Type 0
PointsArePlans g k =
    (n j s r : ℕ) → j < length k.points → s < g.shape.states → 1 ≤ r → IsInformedPlan (numbers g) (r * (mix_total * common g k)) n (hold g k j s n r)

-- Summed over the first states by a point's belief, the plans of every point hold the payoff to at most the point's
-- value plus the tail, against every plan of player one.
abbrev pub PointsHold : GameData → CertificateData → Type 0
PointsHold g k =
    (whole n j r : ℕ) (sigma : OwnPlan n) → j < length k.points → IsOwnPlan (numbers g) whole n sigma →
    let point = points_of k.points j in
    let tail = pos ((numbers g).discount_over ^ n * span g * belief_total (numbers g) point) in
    let scale = pos (((numbers g).row_total * whole * (r * (mix_total * common g k))) ^ n) in
    (pos unit *ℤ total (λ s. pos (point.belief s) *ℤ pay (numbers g) n s sigma (hold g k j s n r)) (below g.shape.states))
    ≤ℤ ((point.value *ℤ pos ((numbers g).discount_under ^ n) +ℤ tail) *ℤ scale)

-- the common multiple is one: each positive mass divides it
abbrev pub MassesDivide : GameData → CertificateData → Type 0
MassesDivide g k =
    (j a o t : ℕ) → j < length k.points → a < g.shape.own_actions → o < g.shape.observations → t < g.shape.states →
    let w = mass (numbers g) (points_of k.points j) a o t in
    w ≢ 0 → w * (common g k / w) ≡ common g k

-- ---- of the starts

-- the total of the controller
abbrev pub start_total : CertificateData → ℕ
start_total k = from_total k * mix_total

-- the controller is a right plan of player one
abbrev pub OwnIsPlan : GameData → CertificateData → Type 0
OwnIsPlan g k = (n : ℕ) → IsOwnPlan (numbers g) (start_total k) n (start k n)

-- Against every family of plans of the informed player the controller earns at least the lower bound less the tail,
-- summed over the first states by the first belief.
abbrev pub LowerHalf : GameData → CertificateData → Type 0
LowerHalf g k =
    (whole n : ℕ) (family : ℕ → InformedPlan n) → ((s : ℕ) → s < g.shape.states → IsInformedPlan (numbers g) whole n (family s)) →
    let tail = pos (from_total k * (numbers g).discount_over ^ n * span g * first_total g) in
    let scale = pos (((numbers g).row_total * start_total k * whole) ^ n) in
    ((k.lower.num *ℤ pos ((numbers g).discount_under ^ n) -ℤ tail) *ℤ scale)
    ≤ℤ (pos (from_total k * unit) *ℤ total (λ s. pos (first_at g s) *ℤ pay (numbers g) n s (start k n) (family s)) (below g.shape.states))

-- and in each first state alone at least the weighted sum of the start nodes' entries less the tail
abbrev pub LowerHalfAt : GameData → CertificateData → Type 0
LowerHalfAt g k =
    (whole n s : ℕ) (tau : InformedPlan n) → s < g.shape.states → IsInformedPlan (numbers g) whole n tau →
    let entry = weighted k.start_nodes (λ i. (nodes_of k.nodes i).vector s) in
    let tail = pos (from_total k * (numbers g).discount_over ^ n * span g) in
    let scale = pos (((numbers g).row_total * start_total k * whole) ^ n) in
    ((entry *ℤ pos ((numbers g).discount_under ^ n) -ℤ tail) *ℤ scale) ≤ℤ (pos (from_total k * unit) *ℤ pay (numbers g) n s (start k n) tau)

-- the total of the splitting strategy
abbrev pub reply_total : GameData → CertificateData → ℕ
reply_total g k = over_total g k * (mix_total * common g k)

-- the splitting strategy is a right plan of the informed player in each first state
abbrev pub HoldIsPlan : GameData → CertificateData → Type 0
HoldIsPlan g k = (n s : ℕ) → s < g.shape.states → IsInformedPlan (numbers g) (reply_total g k) n (reply g k s n)

-- Against every plan of player one the splitting strategy holds the payoff to at most the upper bound plus the tail.
abbrev pub UpperHalf : GameData → CertificateData → Type 0
UpperHalf g k =
    (whole n : ℕ) (sigma : OwnPlan n) → IsOwnPlan (numbers g) whole n sigma →
    let multiple = unsigned_abs k.multiple in
    let tail = pos (multiple * (numbers g).discount_over ^ n * span g * first_total g) in
    let scale = pos (((numbers g).row_total * whole * reply_total g k) ^ n) in
    (pos (multiple * unit) *ℤ total (λ s. pos (first_at g s) *ℤ pay (numbers g) n s sigma (reply g k s n)) (below g.shape.states))
    ≤ℤ ((k.upper.num *ℤ pos ((numbers g).discount_under ^ n) +ℤ tail) *ℤ scale)

-- ---- of every certificate that stands
pub record LowerHolds : Type 0 where
  pub plans : (g : GameData) (k : CertificateData) → CertificateStands g k → NodesArePlans g k
  pub nodes : (g : GameData) (k : CertificateData) → KeepsSpan (numbers g) (span g) → CertificateStands g k → NodesEarn g k
  pub plan : (g : GameData) (k : CertificateData) → CertificateStands g k → OwnIsPlan g k
  pub family : (g : GameData) (k : CertificateData) → KeepsSpan (numbers g) (span g) → CertificateStands g k → LowerHalf g k
  pub state : (g : GameData) (k : CertificateData) → KeepsSpan (numbers g) (span g) → CertificateStands g k → LowerHalfAt g k

pub record UpperHolds : Type 0 where
  pub divide : (g : GameData) (k : CertificateData) → MassesDivide g k
  pub plans : (g : GameData) (k : CertificateData) → CertificateStands g k → PointsArePlans g k
  pub points : (g : GameData) (k : CertificateData) → KeepsSpan (numbers g) (span g) → CertificateStands g k → PointsHold g k
  pub plan : (g : GameData) (k : CertificateData) → CertificateStands g k → HoldIsPlan g k
  pub half : (g : GameData) (k : CertificateData) → KeepsSpan (numbers g) (span g) → CertificateStands g k → UpperHalf g k
