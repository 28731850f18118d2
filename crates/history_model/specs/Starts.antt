-- Both halves at the starts, by the own plans of their nodes and points: a sum over the starts of weight times pay.
use Rattle.std.specs.Prelude.{ℕ, ◌≡◌, ◌*◌, ◌^◌, ◌<◌, ℤ, pos, ◌+ℤ◌, ◌-ℤ◌, ◌*ℤ◌, ◌≤ℤ◌}
use Rattle.scaled_num.specs.Sums.{below, total}
use Rattle.alpha_set.specs.Nodes.{nodes_of}
use Rattle.controller.specs.Certificates.{CertificateData, CertificateStands, first_total}
use Rattle.controller.specs.Starts.{weighted, weights_sum}
use Rattle.game_model.specs.Branches.{mix_total}
use Rattle.game_model.specs.Game.{GameData, first_at, numbers, span, unit}
use Rattle.game_model.specs.Plan.{InformedPlan, IsFamily, IsInformedPlan, IsOwnPlan, OwnPlan}
use Rattle.game_model.specs.Play.{pay}
use Rattle.game_model.specs.Seeds.{KeepsSpan}
use Rattle.history_model.specs.Halves.{common, node_plan, point_plan}
use Rattle.point_set.specs.Points.{points_of}

-- what the plans of the start nodes pay from the first state s against a plan, by the weights of the starts
abbrev pub starts_earn : GameData → CertificateData → (n s : ℕ) → InformedPlan n → ℤ
starts_earn g k n s tau = weighted k.start_nodes (λ i. pay (numbers g) n s (node_plan k i n) tau)

-- Against every family of plans of the informed player the start nodes earn at least the lower bound less the tail,
-- summed over the first states by the first belief.
abbrev pub StartsEarn : Type 0
StartsEarn =
    (g : GameData) (k : CertificateData) → KeepsSpan (numbers g) (span g) → CertificateStands g k →
    (whole n : ℕ) (family : ℕ → InformedPlan n) → IsFamily (numbers g) whole n family →
    let tail = weights_sum k.start_nodes *ℤ pos ((numbers g).discount_over ^ n * span g * first_total g) in
    let scale = pos (((numbers g).row_total * mix_total * whole) ^ n) in
    ((k.lower.num *ℤ pos ((numbers g).discount_under ^ n) -ℤ tail) *ℤ scale)
    ≤ℤ (pos unit *ℤ total (λ s. pos (first_at g s) *ℤ starts_earn g k n s (family s)) (below g.shape.states))

-- and in each first state alone at least the weighted sum of their entries less the tail
abbrev pub StartsEarnAt : Type 0
StartsEarnAt =
    (g : GameData) (k : CertificateData) → KeepsSpan (numbers g) (span g) → CertificateStands g k →
    (whole n s : ℕ) (tau : InformedPlan n) → s < g.shape.states → IsInformedPlan (numbers g) whole n tau →
    let entry = weighted k.start_nodes (λ i. (nodes_of k.nodes i).vector s) in
    let tail = weights_sum k.start_nodes *ℤ pos ((numbers g).discount_over ^ n * span g) in
    let scale = pos (((numbers g).row_total * mix_total * whole) ^ n) in
    ((entry *ℤ pos ((numbers g).discount_under ^ n) -ℤ tail) *ℤ scale) ≤ℤ (pos unit *ℤ starts_earn g k n s tau)

-- what the plans of the start points pay from the first state s against a plan, by the weights of the starts times the points' beliefs
abbrev pub starts_cost : GameData → CertificateData → (n s : ℕ) → OwnPlan n → ℤ
starts_cost g k n s sigma = weighted k.start_points (λ j. pos ((points_of k.points j).belief s) *ℤ pay (numbers g) n s sigma (point_plan g k j s n))

-- Against every plan of player one the start points cost at most the upper bound plus the tail.
abbrev pub StartsHold : Type 0
StartsHold =
    (g : GameData) (k : CertificateData) → KeepsSpan (numbers g) (span g) → CertificateStands g k →
    (whole n : ℕ) (sigma : OwnPlan n) → IsOwnPlan (numbers g) whole n sigma →
    let tail = k.multiple *ℤ pos ((numbers g).discount_over ^ n * span g * first_total g) in
    let scale = pos (((numbers g).row_total * whole * mix_total * common g k) ^ n) in
    (pos unit *ℤ total (λ s. starts_cost g k n s sigma) (below g.shape.states))
    ≤ℤ ((k.upper.num *ℤ pos ((numbers g).discount_under ^ n) +ℤ tail) *ℤ scale)

-- the weights of the start nodes sum to at least 1
abbrev pub StartNodesWeigh : Type 0
StartNodesWeigh = (g : GameData) (k : CertificateData) → CertificateStands g k → pos 1 ≤ℤ weights_sum k.start_nodes

-- in every state the weights of the start points times their beliefs sum to the multiple of the first belief
abbrev pub StartPointsMakeUp : Type 0
StartPointsMakeUp =
    (g : GameData) (k : CertificateData) → CertificateStands g k → (s : ℕ) → s < g.shape.states →
    weighted k.start_points (λ j. pos ((points_of k.points j).belief s)) ≡ k.multiple *ℤ pos (first_at g s)
