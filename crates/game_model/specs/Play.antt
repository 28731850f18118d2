-- Plays of two plans, their weights and gains, and what the two plans pay.
--
-- All plays of two plans are listed, also those of weight 0, and whole numbers are summed over the list. The
-- expected discounted payoff over n stages of plans with the totals N and M is `pay` over
-- (row_total * N * M)^n * discount_under^n.
use Rattle.std.specs.Prelude.{ℕ, zero, suc, ◌*◌, ◌^◌, ◌<◌, ℤ, pos, ◌+ℤ◌, ◌*ℤ◌, List, [], ◌∷◌, map, flat_map, cond, ◌==◌, length, slice_index_or}
use Rattle.scaled_num.specs.Sums.{below, total}
use Rattle.game_model.specs.Numbers.{Numbers, product}
use Rattle.game_model.specs.Plan.{OwnPlan, InformedPlan}

-- One step of a play: both actions, the observation, the next state, and the place, in each player's list of
-- branches, of the branch that its plan goes on by.
pub record Step : Type 0 where
  pub own : ℕ
  pub informed : ℕ
  pub seen : ℕ
  pub to : ℕ
  pub own_place : ℕ
  pub informed_place : ℕ

-- the plans that have no branch
abbrev pub no_own_plan : (n : ℕ) → OwnPlan n
no_own_plan zero = tt
no_own_plan (suc n) = λ a o. []

abbrev pub no_informed_plan : (n : ℕ) → InformedPlan n
no_informed_plan zero = tt
no_informed_plan (suc n) = λ c a o t. []

-- The branch at a place of a list. No play names a place past the end, where a branch of weight 0 is read.
abbrev pub own_branch : (n : ℕ) → List (ℕ × OwnPlan n) → ℕ → ℕ × OwnPlan n
own_branch n branches place = slice_index_or branches place (0, no_own_plan n)

abbrev pub informed_branch : (n : ℕ) → List (ℕ × InformedPlan n) → ℕ → ℕ × InformedPlan n
informed_branch n branches place = slice_index_or branches place (0, no_informed_plan n)

-- the branch of each plan that a step names: its weight, and the plan of the stages that are left
abbrev pub own_after : (n : ℕ) → OwnPlan (suc n) → Step → ℕ × OwnPlan n
own_after n plan step = own_branch n (plan step.own step.seen) step.own_place

abbrev pub informed_after : (n : ℕ) → InformedPlan (suc n) → Step → ℕ × InformedPlan n
informed_after n plan step = informed_branch n (plan step.informed step.own step.seen step.to) step.informed_place

-- A play of n stages under two plans: n steps, each with actions, observation and next state of the game, and
-- with places of branches that its plans have, the rest being a play under the plans found there.
abbrev pub IsPlay : Numbers → (n : ℕ) → OwnPlan n → InformedPlan n → List Step → Type 0
IsPlay g zero sigma tau [] = Unit {0}
IsPlay g zero sigma tau (step ∷ rest) = ⊥
IsPlay g (suc n) sigma tau [] = ⊥
IsPlay g (suc n) sigma tau (step ∷ rest) =
    (step.own < g.own_actions) × (step.informed < g.informed_actions) × (step.seen < g.observations) × (step.to < g.states)
    × (step.own_place < length (sigma step.own step.seen)) × (step.informed_place < length (tau step.informed step.own step.seen step.to))
    × IsPlay g n (own_after n sigma step).1 (informed_after n tau step).1 rest

-- every first step: each pair of actions, observation, next state, and place of a branch of either plan
abbrev pub first_steps : Numbers → (n : ℕ) → OwnPlan (suc n) → InformedPlan (suc n) → List Step
first_steps g n sigma tau =
    flat_map (λ a.
    flat_map (λ c.
    flat_map (λ o.
    flat_map (λ t.
    flat_map (λ u.
    map (λ v. record { own = a; informed = c; seen = o; to = t; own_place = u; informed_place = v })
    (below (length (tau c a o t))))
    (below (length (sigma a o))))
    (below g.states))
    (below g.observations))
    (below g.informed_actions))
    (below g.own_actions)

-- every play of n stages: a first step, and then each play of the plans found there
abbrev pub plays : Numbers → (n : ℕ) → OwnPlan n → InformedPlan n → List (List Step)
plays g zero sigma tau = [] ∷ []
plays g (suc n) sigma tau =
    flat_map (λ step. map (λ rest. step ∷ rest) (plays g n (own_after n sigma step).1 (informed_after n tau step).1))
    (first_steps g n sigma tau)

-- the weight of a first step from the state s: that of where it leads, times those of both branches
abbrev pub step_weight : Numbers → (n : ℕ) → ℕ → OwnPlan (suc n) → InformedPlan (suc n) → Step → ℕ
step_weight g n s sigma tau step =
    g.weight s step.own step.informed step.seen step.to * (own_after n sigma step).0 * (informed_after n tau step).0

-- the weight of a play from the state s: the product of the weights of its steps
abbrev pub play_weight : Numbers → (n : ℕ) → ℕ → OwnPlan n → InformedPlan n → List Step → ℕ
play_weight g zero s sigma tau play = 1
play_weight g (suc n) s sigma tau [] = 0
play_weight g (suc n) s sigma tau (step ∷ rest) =
    step_weight g n s sigma tau step
    * play_weight g n step.to (own_after n sigma step).1 (informed_after n tau step).1 rest

-- The gain of a play from the state s: the sum of its rewards, each discounted once for every stage before
-- it, times discount_under to the number of stages.
abbrev pub gain : Numbers → ℕ → List Step → ℤ
gain g s [] = pos 0
gain g s (step ∷ rest) =
    g.reward s step.own step.informed *ℤ pos (g.discount_under ^ suc (length rest))
    +ℤ pos g.discount_over *ℤ gain g step.to rest

-- what two plans of n stages pay from the state s: weight times gain, summed over all plays
abbrev pub pay : Numbers → (n : ℕ) → ℕ → OwnPlan n → InformedPlan n → ℤ
pay g n s sigma tau = total (λ play. pos (play_weight g n s sigma tau play) *ℤ gain g s play) (plays g n sigma tau)

-- what a plan of player one and a family of plans of the informed player pay from a first belief
abbrev pub family_pay : Numbers → (ℕ → ℕ) → (n : ℕ) → OwnPlan n → (ℕ → InformedPlan n) → ℤ
family_pay g first n sigma family = product g first (λ s. pay g n s sigma (family s))

-- player one always plays the action a: one branch of weight 1 after it, and none after another action
abbrev pub always : ℕ → (n : ℕ) → OwnPlan n
always a zero = tt
always a (suc n) = λ own seen. cond (own == a) ((1, always a n) ∷ []) []
