-- What a certificate that stands gives to both inductions, and what it promises of each node and each point.
use Rattle.std.proofs.Common.{◌≡◌, ℕ, ◌*◌, ◌<◌, ◌≤◌, ap, arith, length, ◌∙◌}
use Rattle.std.specs.Prelude.{ℤ, pos, ◌+ℤ◌, ◌*ℤ◌, ◌≤ℤ◌, ◌-ℤ◌, ◌^◌}
use Rattle.std.proofs.lemmas.Nat.{mul-pow}
use Rattle.scaled_num.specs.Sums.{below, total}
use Rattle.scaled_num.proofs.Products.{le-mulℤ, products, sums}
use Rattle.scaled_num.proofs.Sums.{each, total-same, total-scale}
use Rattle.alpha_set.specs.Nodes.{nodes_of}
use Rattle.controller.specs.Certificates.{CertificateData, CertificateStands}
use Rattle.controller.specs.Members.{Rules, belief_total}
use Rattle.controller.proofs.Members.{nodes-keep, points-keep}
use Rattle.controller.proofs.Places.{rules}
use Rattle.game_model.specs.Branches.{mix_total}
use Rattle.game_model.specs.Game.{GameData, numbers, span, unit}
use Rattle.game_model.specs.Numbers.{RowsAreFull}
use Rattle.game_model.specs.Plan.{InformedPlan, IsInformedPlan, IsOwnPlan, OwnPlan}
use Rattle.game_model.specs.Play.{pay}
use Rattle.game_model.proofs.Mixed.{pay-scaled_informed, pay-scaled_own, scaled_informed-is_plan, scaled_own-is_plan}
use Rattle.history_model.specs.Halves.{NodesArePlans, NodesEarn, PointsArePlans, PointsHold, common, node_plan, point_plan}
use Rattle.history_model.proofs.Controller.{controller-earns, own_plan-is_plan}
use Rattle.history_model.proofs.Parts.{NodeGains, PointLoses}
use Rattle.history_model.proofs.Splitting.{splitting-holds, splitting-plans}
use Rattle.point_set.specs.Points.{points_of}

-- ---- what a certificate that stands gives both inductions
pub nodes-gain : (g : GameData) (k : CertificateData) → Rules g k → (i : ℕ) → i < length k.nodes → NodeGains (numbers g) unit mix_total (nodes_of k.nodes) i
nodes-gain g k r i li s c ls lc = r.node i s c li ls lc

pub points-lose : (g : GameData) (k : CertificateData) → Rules g k → (j : ℕ) → j < length k.points → PointLoses (numbers g) unit mix_total (points_of k.points) j
points-lose g k r j lj = record { split = λ a o t la lo lt. r.split j a o t lj la lo lt; holds = λ a la. r.value j a lj la }

pub some_mix : 1 ≤ mix_total
some_mix = omega arith

-- ---- of every node
pub node-plans : (g : GameData) (k : CertificateData) → CertificateStands g k → (n i : ℕ) → i < length k.nodes → IsOwnPlan (numbers g) mix_total n (node_plan k i n)
node-plans g k stands n i li =
    own_plan-is_plan (numbers g) mix_total (span g) (length k.nodes) (nodes_of k.nodes) some_mix (nodes-keep g k stands.fits) n i li

pub node-earns : (g : GameData) (k : CertificateData) → RowsAreFull (numbers g) → CertificateStands g k →
    (whole n i s : ℕ) (tau : InformedPlan n) → i < length k.nodes → s < g.shape.states → IsInformedPlan (numbers g) whole n tau →
    (((nodes_of k.nodes i).vector s *ℤ pos ((numbers g).discount_under ^ n) -ℤ pos ((numbers g).discount_over ^ n * span g)) *ℤ pos (((numbers g).row_total * mix_total * whole) ^ n))
    ≤ℤ (pos unit *ℤ pay (numbers g) n s (node_plan k i n) tau)
node-earns g k full stands whole n i s tau li ls right =
    controller-earns (numbers g) unit mix_total (span g) (length k.nodes) (nodes_of k.nodes) full some_mix (nodes-keep g k stands.fits) (nodes-gain g k (rules g k stands.holds))
    whole n i s tau li ls right

pub nodes-are_plans : (g : GameData) (k : CertificateData) → CertificateStands g k → NodesArePlans g k
nodes-are_plans g k stands n i r li some = scaled_own-is_plan (numbers g) r mix_total some n (node_plan k i n) (node-plans g k stands n i li)

-- what is at least x over one total is at least that over r times the total, where the pay is of weights times r
scaled-least : (e r d m w n : ℕ) (x y z : ℤ) → y ≡ pos (r ^ n) *ℤ z → (x *ℤ pos ((d * m * w) ^ n)) ≤ℤ (pos e *ℤ z) → (x *ℤ pos ((d * (r * m) * w) ^ n)) ≤ℤ (pos e *ℤ y)
scaled-least e r d m w n x y z is h =
    let same : d * (r * m) * w ≡ r * (d * m * w) = omega arith in
    let power : (d * (r * m) * w) ^ n ≡ r ^ n * (d * m * w) ^ n = ap (λ (b : ℕ). b ^ n) same ∙ mul-pow r (d * m * w) n in
    rw (power, is)
    (ends _ _ _ _ (le-mulℤ (r ^ n) _ _ h) (turn (pos (r ^ n)) x (pos ((d * m * w) ^ n))) (turn (pos (r ^ n)) (pos e) z))
  where
    turn : (r x w : ℤ) → r *ℤ (x *ℤ w) ≡ x *ℤ (r *ℤ w)
    turn r x w = simp products (omega (arith, sums))

    ends : (a b c d : ℤ) → a ≤ℤ b → a ≡ c → b ≡ d → c ≤ℤ d
    ends a b c d h e f = omega (arith, sums)

pub nodes-earn : (g : GameData) (k : CertificateData) → RowsAreFull (numbers g) → CertificateStands g k → NodesEarn g k
nodes-earn g k full stands whole n i s r tau li ls right =
    scaled-least unit r (numbers g).row_total mix_total whole n _ _ _ (pay-scaled_own (numbers g) r n s (node_plan k i n) tau) (node-earns g k full stands whole n i s tau li ls right)

-- ---- of every point
pub point-plans : (g : GameData) (k : CertificateData) → CertificateStands g k → (n j s : ℕ) → j < length k.points → s < g.shape.states →
    IsInformedPlan (numbers g) (mix_total * common g k) n (point_plan g k j s n)
point-plans g k stands n j s lj ls =
    splitting-plans (numbers g) unit mix_total (span g) (length k.points) (points_of k.points) some_mix stands.fits.some_points (points-keep g k stands.fits) (points-lose g k (rules g k stands.holds))
    n j s lj ls

pub point-holds : (g : GameData) (k : CertificateData) → RowsAreFull (numbers g) → CertificateStands g k →
    (whole n j : ℕ) (sigma : OwnPlan n) → j < length k.points → IsOwnPlan (numbers g) whole n sigma →
    (pos unit *ℤ total (λ s. pos ((points_of k.points j).belief s) *ℤ pay (numbers g) n s sigma (point_plan g k j s n)) (below g.shape.states))
    ≤ℤ (((points_of k.points j).value *ℤ pos ((numbers g).discount_under ^ n) +ℤ pos ((numbers g).discount_over ^ n * span g * belief_total (numbers g) (points_of k.points j)))
    *ℤ pos (((numbers g).row_total * whole * mix_total * common g k) ^ n))
point-holds g k full stands whole n j sigma lj right =
    splitting-holds (numbers g) unit mix_total (span g) (length k.points) (points_of k.points) full some_mix stands.fits.some_points (points-keep g k stands.fits) (points-lose g k (rules g k stands.holds))
    whole n j sigma lj right

pub points-are_plans : (g : GameData) (k : CertificateData) → CertificateStands g k → PointsArePlans g k
points-are_plans g k stands n j s r lj ls some = scaled_informed-is_plan (numbers g) r (mix_total * common g k) some n (point_plan g k j s n) (point-plans g k stands n j s lj ls)

-- what is at most x over one total is at most that over r times the total, where the pay is of weights times r
scaled-most : (e r d w m z n : ℕ) (x y p : ℤ) → y ≡ pos (r ^ n) *ℤ p → (pos e *ℤ p) ≤ℤ (x *ℤ pos ((d * w * m * z) ^ n)) → (pos e *ℤ y) ≤ℤ (x *ℤ pos ((d * w * (r * (m * z))) ^ n))
scaled-most e r d w m z n x y p is h =
    let same : d * w * (r * (m * z)) ≡ r * (d * w * m * z) = omega arith in
    let power : (d * w * (r * (m * z))) ^ n ≡ r ^ n * (d * w * m * z) ^ n = ap (λ (b : ℕ). b ^ n) same ∙ mul-pow r (d * w * m * z) n in
    rw (power, is)
    (ends _ _ _ _ (le-mulℤ (r ^ n) _ _ h) (turn (pos (r ^ n)) (pos e) p) (turn (pos (r ^ n)) x (pos ((d * w * m * z) ^ n))))
  where
    turn : (r x w : ℤ) → r *ℤ (x *ℤ w) ≡ x *ℤ (r *ℤ w)
    turn r x w = simp products (omega (arith, sums))

    ends : (a b c d : ℤ) → a ≤ℤ b → a ≡ c → b ≡ d → c ≤ℤ d
    ends a b c d h e f = omega (arith, sums)

pub points-hold : (g : GameData) (k : CertificateData) → RowsAreFull (numbers g) → CertificateStands g k → PointsHold g k
points-hold g k full stands whole n j r sigma lj right =
    let b = (points_of k.points j).belief in
    let S = below g.shape.states in
    scaled-most unit r (numbers g).row_total whole mix_total (common g k) n _ _ (total (λ s. pos (b s) *ℤ pay (numbers g) n s sigma (point_plan g k j s n)) S)
    (total-same _ (λ s. pos (r ^ n) *ℤ (pos (b s) *ℤ pay (numbers g) n s sigma (point_plan g k j s n))) S
    (each (λ s. ap (λ (y : ℤ). pos (b s) *ℤ y) (pay-scaled_informed (numbers g) r n s sigma (point_plan g k j s n)) ∙ turn (pos (b s)) (pos (r ^ n)) (pay (numbers g) n s sigma (point_plan g k j s n))) S)
    ∙ total-scale (pos (r ^ n)) (λ s. pos (b s) *ℤ pay (numbers g) n s sigma (point_plan g k j s n)) S)
    (point-holds g k full stands whole n j sigma lj right)
  where
    turn : (b r y : ℤ) → b *ℤ (r *ℤ y) ≡ r *ℤ (b *ℤ y)
    turn b r y = simp products (omega (arith, sums))
