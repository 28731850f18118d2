-- What the two inductions take of nodes and points, at any unit and any total of the mixes.
use Rattle.std.specs.Prelude.{ℕ, ◌*◌, ◌^◌, ◌≡◌, ◌<◌, ◌≤◌, pos, ◌+ℤ◌, ◌-ℤ◌, ◌*ℤ◌, ◌≤ℤ◌, sum_by}
use Rattle.scaled_num.specs.Sums.{below, total}
use Rattle.alpha_set.specs.Nodes.{Node, steps_worth}
use Rattle.game_model.specs.Numbers.{Numbers, over_row, RowsAreFull}
use Rattle.game_model.specs.Plan.{InformedPlan, IsInformedPlan, IsOwnPlan, OwnPlan}
use Rattle.game_model.specs.Play.{pay}
use Rattle.controller.specs.Members.{NodeKeeps, PointKeeps, belief_total}
use Rattle.history_model.specs.Plans.{belief_pay, informed_plan, mass_product, own_plan}
use Rattle.point_set.specs.Points.{Point, mass, shares_at}

-- the node rule: in one stage node i loses nothing, whatever the informed player does
abbrev pub NodeGains : Numbers → ℕ → ℕ → (ℕ → Node) → ℕ → Type 0
NodeGains g e mix_total nodes i =
    (s c : ℕ) → s < g.states → c < g.informed_actions →
    ((nodes i).vector s *ℤ pos (mix_total * g.row_total * g.discount_under))
    ≤ℤ (total (λ a. pos ((nodes i).mix a) *ℤ g.reward s a c *ℤ pos (e * g.row_total * g.discount_under)) (below g.own_actions)
    +ℤ pos g.discount_over *ℤ total (λ a. over_row g s a c (λ o t. steps_worth nodes (nodes i) a o t)) (below g.own_actions))

-- A point stands: its shares make up its mass, and in one stage its value loses nothing whatever player one does.
pub record PointLoses (g : Numbers) (e mix_total : ℕ) (points : ℕ → Point) (j : ℕ) : Type 0 where
  pub split : (a o t : ℕ) → a < g.own_actions → o < g.observations → t < g.states →
      sum_by (λ share. share.weight * (points share.member).belief t) (shares_at (points j) a o) ≡ mass g (points j) a o t
  pub holds : (a : ℕ) → a < g.own_actions →
      (total (λ s. total (λ c. pos ((points j).belief s * (points j).mixes s c) *ℤ g.reward s a c *ℤ pos (e * g.row_total * g.discount_under)) (below g.informed_actions)) (below g.states)
      +ℤ pos g.discount_over *ℤ total (λ o. total (λ share. pos share.weight *ℤ (points share.member).value) (shares_at (points j) a o)) (below g.observations))
      ≤ℤ ((points j).value *ℤ pos (mix_total * g.row_total * g.discount_under))

-- where each node fits and stands, the plan of node i earns its vector in each state, less the tail
abbrev pub ControllerEarns : Type 0
ControllerEarns =
    (g : Numbers) (e mix_total span count : ℕ) (nodes : ℕ → Node) →
    RowsAreFull g → 1 ≤ mix_total →
    ((i : ℕ) → i < count → NodeKeeps g mix_total span count (nodes i)) → ((i : ℕ) → i < count → NodeGains g e mix_total nodes i) →
    (informed_total n i s : ℕ) (tau : InformedPlan n) → i < count → s < g.states → IsInformedPlan g informed_total n tau →
    (((nodes i).vector s *ℤ pos (g.discount_under ^ n) -ℤ pos (g.discount_over ^ n * span)) *ℤ pos ((g.row_total * mix_total * informed_total) ^ n))
    ≤ℤ (pos e *ℤ pay g n s (own_plan nodes i n) tau)

-- where each node fits and stands, the plan of node i earns the product of its vector with the first belief against
-- each family of plans, less the tail
abbrev pub ControllerEarnsFamily : Type 0
ControllerEarnsFamily =
    (g : Numbers) (e mix_total span count : ℕ) (nodes : ℕ → Node) (belief : ℕ → ℕ) →
    RowsAreFull g → 1 ≤ mix_total →
    ((i : ℕ) → i < count → NodeKeeps g mix_total span count (nodes i)) → ((i : ℕ) → i < count → NodeGains g e mix_total nodes i) →
    (informed_total n i : ℕ) (family : ℕ → InformedPlan n) → i < count → ((s : ℕ) → s < g.states → IsInformedPlan g informed_total n (family s)) →
    ((total (λ s. pos (belief s) *ℤ (nodes i).vector s) (below g.states) *ℤ pos (g.discount_under ^ n) -ℤ pos (g.discount_over ^ n * span * sum_by belief (below g.states)))
    *ℤ pos ((g.row_total * mix_total * informed_total) ^ n))
    ≤ℤ (pos e *ℤ total (λ s. pos (belief s) *ℤ pay g n s (own_plan nodes i n) (family s)) (below g.states))

-- where each point fits and stands, the plans of a point hold each plan of player one to the point's value and the tail
abbrev pub SplittingHolds : Type 0
SplittingHolds =
    (g : Numbers) (e mix_total span count : ℕ) (points : ℕ → Point) →
    RowsAreFull g → 1 ≤ mix_total → g.states ≤ count →
    ((j : ℕ) → j < count → PointKeeps g mix_total span count (points j)) → ((j : ℕ) → j < count → PointLoses g e mix_total points j) →
    (own_total n j : ℕ) (sigma : OwnPlan n) → j < count → IsOwnPlan g own_total n sigma →
    let z = mass_product g points count in
    (pos e *ℤ belief_pay g points z n j sigma)
    ≤ℤ (((points j).value *ℤ pos (g.discount_under ^ n) +ℤ pos (g.discount_over ^ n * span * belief_total g (points j)))
    *ℤ pos ((g.row_total * own_total * mix_total * z) ^ n))

-- and those plans are right plans of the informed player, one for each state
abbrev pub SplittingPlans : Type 0
SplittingPlans =
    (g : Numbers) (e mix_total span count : ℕ) (points : ℕ → Point) →
    1 ≤ mix_total → g.states ≤ count →
    ((j : ℕ) → j < count → PointKeeps g mix_total span count (points j)) → ((j : ℕ) → j < count → PointLoses g e mix_total points j) →
    (n j s : ℕ) → j < count → s < g.states →
    let z = mass_product g points count in IsInformedPlan g (mix_total * z) n (informed_plan g points z j s n)
