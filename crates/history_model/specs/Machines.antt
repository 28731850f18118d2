-- How a certificate plays: its nodes and its points as machines, whose coin is the node, or the point, that they go to next.
use Rattle.std.specs.Prelude.{ℕ, ◌*◌, ◌/◌, ◌==◌, ◌&&◌, List, [], ◌∷◌, cond, sum_by}
use Rattle.scaled_num.specs.Sums.{below}
use Rattle.alpha_set.specs.Nodes.{Node}
use Rattle.game_model.specs.Numbers.{Numbers}
use Rattle.point_set.specs.Points.{Point}
use Rattle.history_model.specs.Courses.{InformedWeights, OwnWeights, Stage, product_over}

-- where a machine stands after the stages so far: at its start, or where its last coin says
abbrev pub own_place : ℕ → List Stage → ℕ
own_place start [] = start
own_place start (x ∷ later) = own_place x.own_coin later

abbrev pub informed_place : ℕ → List Stage → ℕ
informed_place start [] = start
informed_place start (x ∷ later) = informed_place x.informed_coin later

-- in which state the game is after the stages so far
abbrev pub state_after : ℕ → List Stage → ℕ
state_after first [] = first
state_after first (x ∷ later) = state_after x.to later

-- The controller: at its node it plays a and, when o is observed, goes to node u, by the weight of the steps that say so. The start
-- node is drawn before the first stage.
abbrev pub node_weights : (ℕ → Node) → ℕ → OwnWeights
node_weights nodes start before a o u =
    sum_by (λ step. cond ((step.own == a) && (step.seen == o)) (cond (u == step.member) step.weight 0) 0) (nodes (own_place start before)).next

-- what a point's belief and mixes bring to the next state t, after a and o
abbrev pub brought : Numbers → Point → ℕ → ℕ → ℕ → ℕ
brought g point a o t =
    sum_by (λ s. sum_by (λ c. point.belief s * point.mixes s c * g.weight s a c o t) (below g.informed_actions)) (below g.states)

-- the product of all positive ones of them
abbrev pub multiple : Numbers → (ℕ → Point) → ℕ → ℕ
multiple g points count =
    product_over (λ j. product_over (λ a. product_over (λ o. product_over (λ t.
    cond (brought g (points j) a o t == 0) 1 (brought g (points j) a o t))
    (below g.states)) (below g.observations)) (below g.own_actions)) (below count)

-- The splitting strategy: at its point, in the state that it knows, it plays c by the point's mix. When a, o and t came it goes to
-- point v with the chance (shares that say so) * belief_v(t) / brought, which is put over z; where nothing is brought, to point t.
abbrev pub point_weights : Numbers → (ℕ → Point) → ℕ → ℕ → ℕ → InformedWeights
point_weights g points z start first before c a o t v =
    let point = points (informed_place start before) in
    let w = brought g point a o t in
    point.mixes (state_after first before) c
    * cond (w == 0)
    (cond (v == t) z 0)
    (sum_by (λ share. cond ((share.own == a) && (share.seen == o)) (cond (v == share.member) share.weight 0) 0) point.splits
    * (points v).belief t * (z / w))

-- always one action, with one coin
abbrev pub one_action : ℕ → OwnWeights
one_action action before a o u = cond (a == action) 1 0
