-- The plans of a certificate's nodes and points, and of one action, play as their machines say.
use Rattle.std.specs.Prelude.{ℕ, ◌≡◌, ◌≢◌, ◌*◌, ◌/◌, ◌<◌, [], length}
use Rattle.alpha_set.specs.Nodes.{nodes_of}
use Rattle.controller.specs.Certificates.{CertificateData, CertificateStands}
use Rattle.game_model.specs.Branches.{mix_total}
use Rattle.game_model.specs.Game.{GameData, numbers}
use Rattle.game_model.specs.Numbers.{Numbers}
use Rattle.game_model.specs.Plan.{IsInformedPlan, IsOwnPlan}
use Rattle.game_model.specs.Play.{always}
use Rattle.history_model.specs.Halves.{common, node_plan, point_plan}
use Rattle.history_model.specs.Machines.{brought, multiple, node_weights, one_action, point_weights}
use Rattle.history_model.specs.Plans.{mass_product}
use Rattle.history_model.specs.Playing.{InformedPlaysAs, OwnPlaysAs}
use Rattle.point_set.specs.Points.{Point, points_of}

-- the plan of each node plays as the node does, with the nodes as coins
abbrev pub NodesPlay : Type 0
NodesPlay =
    (g : GameData) (k : CertificateData) → CertificateStands g k → (n i : ℕ) → i < length k.nodes →
    OwnPlaysAs (numbers g) (length k.nodes) (node_weights (nodes_of k.nodes) i) n (node_plan k i n) []

-- and is a right plan, of the total of a mix
abbrev pub NodePlans : Type 0
NodePlans =
    (g : GameData) (k : CertificateData) → CertificateStands g k → (n i : ℕ) → i < length k.nodes →
    IsOwnPlan (numbers g) mix_total n (node_plan k i n)

-- the plan of each point in each first state plays as the point does, with the points as coins
abbrev pub PointsPlay : Type 0
PointsPlay =
    (g : GameData) (k : CertificateData) → CertificateStands g k → (n j s : ℕ) → j < length k.points →
    InformedPlaysAs (numbers g) (length k.points) (point_weights (numbers g) (points_of k.points) (common g k) j s) n (point_plan g k j s n) []

-- and is a right plan, of the total of a mix times the common multiple
abbrev pub PointPlans : Type 0
PointPlans =
    (g : GameData) (k : CertificateData) → CertificateStands g k → (n j s : ℕ) → j < length k.points → s < g.shape.states →
    IsInformedPlan (numbers g) (mix_total * common g k) n (point_plan g k j s n)

-- the plan that always plays one action plays as the machine of one coin
abbrev pub ActionsPlay : Type 0
ActionsPlay = (g : Numbers) (action n : ℕ) → OwnPlaysAs g 1 (one_action action) n (always action n) []

-- the common multiple of the masses is the multiple of what the points bring
abbrev pub MultiplesAgree : Type 0
MultiplesAgree = (g : Numbers) (points : ℕ → Point) (count : ℕ) → mass_product g points count ≡ multiple g points count

-- each positive number that a point brings divides the multiple
abbrev pub BroughtDivides : Type 0
BroughtDivides =
    (g : Numbers) (points : ℕ → Point) (count j a o t : ℕ) → j < count → a < g.own_actions → o < g.observations → t < g.states →
    let w = brought g (points j) a o t in
    w ≢ 0 → w * (multiple g points count / w) ≡ multiple g points count
