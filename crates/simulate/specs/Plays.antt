-- The play that a seed gives: what each stage draws, in order, and what the play gains.
use Rattle.std.specs.Prelude.{ℕ, zero, suc, ℤ, pos, ◌+◌, ◌*◌, ◌^◌, ◌+ℤ◌, ◌*ℤ◌, ◌==◌, ◌<◌, ◌≤◌, List, [], ◌∷◌, map, length, slice_index_or, unsigned_abs, Option, Some, None, IfSome, if◌then◌else◌}
use Rattle.std.specs.List.{sum}
use Rattle.rand_pcg.specs.Lcg.{Lcg}
use Rattle.hsvi_draw.specs.Draws.{after_draws, draw_at, seeded}
use Rattle.scaled_num.specs.Sums.{below}
use Rattle.game_model.specs.declared.parts.Landing.{Landing}
use Rattle.game_model.specs.Branches.{Continuation}
use Rattle.game_model.specs.Build.{landing_of}
use Rattle.game_model.specs.Game.{GameData, first_at, row_at}
use Rattle.game_model.specs.Numbers.{Numbers}
use Rattle.alpha_set.specs.Nodes.{nodes_of, steps_at}
use Rattle.point_set.specs.Points.{points_of, shares_at}
use Rattle.controller.specs.Certificates.{CertificateData}
use Rattle.simulate.specs.Choices.{place_drawn}
use Rattle.simulate.specs.declared.parts.Played.{Played}
use Rattle.simulate.specs.declared.parts.Rival.{Rival}
use Rattle.simulate.specs.declared.parts.Rival.TheVariants.{Points, Uniform}
use Rattle.simulate.specs.declared.parts.Standing.{Standing}

-- a state, a node and perhaps a point where a play of a game and a certificate can stand
pub record CanStand (g : GameData) (k : CertificateData) (at : Standing) : Type 0 where
  pub state : at.state < g.shape.states
  pub node : at.node < length k.nodes
  pub point : IfSome at.point (λ j. j < length k.points)

-- ---- the start

-- the first state is drawn over the first belief
abbrev pub state_drawn : GameData → Lcg → ℕ
state_drawn g draws = place_drawn draws (map (first_at g) (below g.shape.states))

-- A start is drawn over starts by weights. Alone it is taken, and nothing is drawn.
abbrev pub start_place : List (ℕ × ℤ) → List ℕ → Lcg → ℕ
start_place starts weights draws = if length starts == 1 then 0 else place_drawn draws weights

abbrev pub member_drawn : List (ℕ × ℤ) → List ℕ → Lcg → ℕ
member_drawn starts weights draws = (slice_index_or starts (start_place starts weights draws) (0, pos 0)).0

abbrev pub draws_over : List (ℕ × ℤ) → ℕ
draws_over starts = if length starts == 1 then 0 else 1

-- the weights of the start nodes, and what the start points bring to a first state
abbrev pub from_weights : CertificateData → List ℕ
from_weights k = map (λ start. unsigned_abs start.1) k.start_nodes

abbrev pub over_weights : CertificateData → ℕ → List ℕ
over_weights k s = map (λ start. unsigned_abs start.1 * (points_of k.points start.0).belief s) k.start_points

-- the start point is drawn after the start node, for a rival who plays by points
abbrev pub start_point : CertificateData → Rival → ℕ → Lcg → Option ℕ
start_point k Uniform s draws = None
start_point k Points s draws = Some (member_drawn k.start_points (over_weights k s) draws)

abbrev pub point_draws : CertificateData → Rival → ℕ
point_draws k Uniform = 0
point_draws k Points = draws_over k.start_points

-- where a play begins, and how many draws that takes
abbrev pub begun : GameData → CertificateData → Rival → Lcg → Standing
begun g k against draws =
    let s = state_drawn g draws in
    record {
      state = s;
      node = member_drawn k.start_nodes (from_weights k) (after_draws 1 draws);
      point = start_point k against s (after_draws (1 + draws_over k.start_nodes) draws);
    }

abbrev pub begin_draws : CertificateData → Rival → ℕ
begin_draws k against = 1 + draws_over k.start_nodes + point_draws k against

-- ---- a stage

-- the own action is drawn over the node's mix
abbrev pub own_drawn : GameData → CertificateData → ℕ → Lcg → ℕ
own_drawn g k node draws = place_drawn draws (map (nodes_of k.nodes node).mix (below g.shape.own_actions))

-- the informed action is drawn over the point's mix at the state; without a point all actions are as likely
abbrev pub informed_drawn : GameData → CertificateData → Option ℕ → ℕ → Lcg → ℕ
informed_drawn g k None s draws = draw_at draws 0 g.shape.informed_actions
informed_drawn g k (Some j) s draws =
    place_drawn draws (map ((points_of k.points j).mixes s) (below g.shape.informed_actions))

-- the landing is drawn over the row
abbrev pub row_weights : List Landing → List ℕ
row_weights row = map (λ (l : Landing). unsigned_abs l.weight) row

abbrev pub landing_drawn : List Landing → Lcg → Landing
landing_drawn row draws = slice_index_or row (place_drawn draws (row_weights row)) (landing_of 0 0 (pos 0))

-- the member that is drawn over continuations by weights
abbrev pub no_continuation : Continuation
no_continuation = record { own = 0; seen = 0; member = 0; weight = 0 }

abbrev pub next_drawn : List Continuation → List ℕ → Lcg → ℕ
next_drawn continuations weights draws =
    (slice_index_or continuations (place_drawn draws weights) no_continuation).member

-- the next node is drawn over the node's steps after the own action and the observation
abbrev pub step_weights : List Continuation → List ℕ
step_weights steps = map (λ (step : Continuation). step.weight) steps

abbrev pub node_drawn : CertificateData → ℕ → Played → Lcg → ℕ
node_drawn k node played draws =
    let steps = steps_at (nodes_of k.nodes node) played.own played.seen in
    next_drawn steps (step_weights steps) draws

-- the shares of a point after the own action and the observation, and what each brings to the next state
abbrev pub shares_after : CertificateData → ℕ → Played → List Continuation
shares_after k j played = shares_at (points_of k.points j) played.own played.seen

abbrev pub share_weights : CertificateData → ℕ → List Continuation → List ℕ
share_weights k to shares = map (λ (share : Continuation). share.weight * (points_of k.points share.member).belief to) shares

-- The next point is drawn over what the shares bring to the next state. Where that is nothing, it is the point of the
-- next state, and nothing is drawn.
abbrev pub point_drawn : CertificateData → Option ℕ → Played → Lcg → Option ℕ
point_drawn k None played draws = None
point_drawn k (Some j) played draws =
    let shares = shares_after k j played in
    let weights = share_weights k played.to shares in
    Some (if sum weights == 0 then played.to else next_drawn shares weights draws)

abbrev pub share_draws : CertificateData → Option ℕ → Played → ℕ
share_draws k None played = 0
share_draws k (Some j) played = if sum (share_weights k played.to (shares_after k j played)) == 0 then 0 else 1

-- what a stage draws: own action, informed action, landing
abbrev pub played_at : GameData → CertificateData → Standing → Lcg → Played
played_at g k at draws =
    let own = own_drawn g k at.node draws in
    let informed = informed_drawn g k at.point at.state (after_draws 1 draws) in
    let landing = landing_drawn (row_at g at.state own informed) (after_draws 2 draws) in
    record { state = at.state; own = own; informed = informed; seen = landing.seen; to = landing.to }

-- what is played from there names what the game has, and the own action weighs something in the node's mix
pub record CanPlay (g : GameData) (k : CertificateData) (at : Standing) (played : Played) : Type 0 where
  pub own : played.own < g.shape.own_actions
  pub informed : played.informed < g.shape.informed_actions
  pub seen : played.seen < g.shape.observations
  pub to : played.to < g.shape.states
  pub weight : 1 ≤ (nodes_of k.nodes at.node).mix played.own

-- and then the next node and the next point, and how many draws that takes
abbrev pub moved : CertificateData → Standing → Played → Lcg → Standing
moved k at played draws = record {
  state = played.to;
  node = node_drawn k at.node played draws;
  point = point_drawn k at.point played (after_draws 1 draws);
}

abbrev pub move_draws : CertificateData → Standing → Played → ℕ
move_draws k at played = 1 + share_draws k at.point played

-- ---- the play

-- the steps of so many stages
abbrev pub steps_from : GameData → CertificateData → ℕ → Standing → Lcg → List Played
steps_from g k zero at draws = []
steps_from g k (suc n) at draws =
    let played = played_at g k at draws in
    let later = after_draws 3 draws in
    played ∷ steps_from g k n (moved k at played later) (after_draws (move_draws k at played) later)

-- the play of a seed
abbrev pub simulated : GameData → CertificateData → ℕ → ℕ → Rival → List Played
simulated g k seed stages against =
    let draws = seeded seed in
    steps_from g k stages (begun g k against draws) (after_draws (begin_draws k against) draws)

-- the gain of steps: each reward is discounted once for every stage before it, times the denominator of the discount
-- to the number of stages
abbrev pub gain_of : Numbers → List Played → ℤ
gain_of g [] = pos 0
gain_of g (played ∷ rest) =
    g.reward played.state played.own played.informed *ℤ pos (g.discount_under ^ suc (length rest))
    +ℤ pos g.discount_over *ℤ gain_of g rest
