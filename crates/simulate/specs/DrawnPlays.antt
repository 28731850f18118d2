-- The play of the certificate's own plans that a seed draws.
use Rattle.std.specs.Prelude.{ℕ, zero, suc, ◌+◌, ◌==◌, ◌≡◌, ◌≤◌, List, [], ◌∷◌, length, map, take, Option, Some, None, if◌then◌else◌}
use Rattle.std.specs.List.{sum}
use Rattle.rand_pcg.specs.Lcg.{Lcg}
use Rattle.hsvi_draw.specs.Draws.{after_draws, seeded}
use Rattle.game_model.specs.Game.{GameData, IsGame, numbers}
use Rattle.game_model.specs.Mixed.{mixed_informed, mixed_own}
use Rattle.game_model.specs.Plan.{InformedPlan, IsInformedPlan}
use Rattle.game_model.specs.Play.{IsPlay, Step, gain, play_weight}
use Rattle.alpha_set.specs.Nodes.{nodes_of, steps_at}
use Rattle.controller.specs.Certificates.{CertificateData, CertificateStands}
use Rattle.history_model.specs.Halves.{from_total, over_total, reply, reply_item, start, start_item}
use Rattle.simulate.specs.Choices.{place_drawn}
use Rattle.simulate.specs.Plays.{begin_draws, begun, draws_over, from_weights, gain_of, move_draws, moved, over_weights, played_at, share_weights, shares_after, simulated, start_place, state_drawn, step_weights}
use Rattle.simulate.specs.declared.parts.Played.{Played}
use Rattle.simulate.specs.declared.parts.Rival.{Rival}
use Rattle.simulate.specs.declared.parts.Rival.TheVariants.{Points, Uniform}
use Rattle.simulate.specs.declared.parts.Standing.{Standing}

-- ---- the informed player's plan

-- the plan to which each action is as likely as another: after each there is one branch of weight 1
abbrev pub even : (n : ℕ) → InformedPlan n
even zero = tt
even (suc n) = λ c a o t. (1, even n) ∷ []

-- it is a right plan, whose total is the number of the informed actions
abbrev pub EvenIsPlan : GameData → Type 0
EvenIsPlan g = (n : ℕ) → IsInformedPlan (numbers g) g.shape.informed_actions n (even n)

-- how a rival plays from a first state: evenly, or by the splitting strategy of the certificate
abbrev pub rival_plan : GameData → CertificateData → Rival → ℕ → (n : ℕ) → InformedPlan n
rival_plan g k Uniform s n = even n
rival_plan g k Points s n = reply g k s n

-- ---- the places of the branches that are drawn

abbrev pub step_of : Played → ℕ → ℕ → Step
step_of played u v = record { own = played.own; informed = played.informed; seen = played.seen; to = played.to; own_place = u; informed_place = v }

-- the place of the drawn step among the node's, and of the drawn share among the point's
abbrev pub node_place : CertificateData → ℕ → Played → Lcg → ℕ
node_place k node played draws = place_drawn draws (step_weights (steps_at (nodes_of k.nodes node) played.own played.seen))

abbrev pub point_place : CertificateData → Option ℕ → Played → Lcg → ℕ
point_place k None played draws = 0
point_place k (Some j) played draws =
    let weights = share_weights k played.to (shares_after k j played) in
    if sum weights == 0 then 0 else place_drawn draws weights

-- how many branches stand before those of the start node, or of the start point, at a place of the list of starts
abbrev pub nodes_before : CertificateData → ℕ → ℕ → Played → ℕ
nodes_before k n i played = length (mixed_own (from_total k) (suc n) (take i (map (start_item k (suc n)) k.start_nodes)) played.own played.seen)

abbrev pub points_before : GameData → CertificateData → Rival → ℕ → ℕ → ℕ → Played → ℕ
points_before g k Uniform s n j played = 0
points_before g k Points s n j played =
    length (mixed_informed (over_total g k) (suc n) (take j (map (reply_item g k s (suc n)) k.start_points)) played.informed played.own played.seen played.to)

-- ---- the play

-- the steps of so many stages, each with the places of its branches
abbrev pub drawn_from : GameData → CertificateData → ℕ → Standing → Lcg → List Step
drawn_from g k zero at draws = []
drawn_from g k (suc n) at draws =
    let played = played_at g k at draws in
    let later = after_draws 3 draws in
    step_of played (node_place k at.node played later) (point_place k at.point played (after_draws 1 later))
    ∷ drawn_from g k n (moved k at played later) (after_draws (move_draws k at played) later)

-- The play of a seed. At its first stage the plans have the branches of all their starts, one start after another.
abbrev pub drawn_play : GameData → CertificateData → ℕ → ℕ → Rival → List Step
drawn_play g k seed zero against = []
drawn_play g k seed (suc n) against =
    let draws = seeded seed in
    let at = begun g k against draws in
    let i = start_place k.start_nodes (from_weights k) (after_draws 1 draws) in
    let j = start_place k.start_points (over_weights k at.state) (after_draws (1 + draws_over k.start_nodes) draws) in
    let first = after_draws (begin_draws k against) draws in
    let played = played_at g k at first in
    let later = after_draws 3 first in
    step_of played (nodes_before k n i played + node_place k at.node played later)
    (points_before g k against at.state n j played + point_place k at.point played (after_draws 1 later))
    ∷ drawn_from g k n (moved k at played later) (after_draws (move_draws k at played) later)

-- what a play from a first state shows: states, actions and observations
abbrev pub shown : ℕ → List Step → List Played
shown s [] = []
shown s (step ∷ rest) =
    record { state = s; own = step.own; informed = step.informed; seen = step.seen; to = step.to } ∷ shown step.to rest

-- The play that a seed draws is a play of the controller and of the rival's plan, of positive weight, from the first
-- state that is drawn. It shows the simulated stages, and its gain is theirs.
pub record IsOwnPlay (g : GameData) (k : CertificateData) (seed n : ℕ) (against : Rival) : Type 0 where
  pub play : IsPlay (numbers g) n (start k n) (rival_plan g k against (state_drawn g (seeded seed)) n) (drawn_play g k seed n against)
  pub weight : 1 ≤ play_weight (numbers g) n (state_drawn g (seeded seed)) (start k n) (rival_plan g k against (state_drawn g (seeded seed)) n) (drawn_play g k seed n against)
  pub shows : shown (state_drawn g (seeded seed)) (drawn_play g k seed n against) ≡ simulated g k seed n against
  pub gains : gain (numbers g) (state_drawn g (seeded seed)) (drawn_play g k seed n against) ≡ gain_of (numbers g) (simulated g k seed n against)

-- whatever the game, the certificate that stands, the seed, the stages and the rival
abbrev pub PlaysAreOwn : Type 0
PlaysAreOwn =
    (g : GameData) (k : CertificateData) (seed n : ℕ) (against : Rival) → IsGame g → CertificateStands g k → IsOwnPlay g k seed n against
