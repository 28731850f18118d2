-- What is proved of plays, pay, and the plan that always plays one action.
use Rattle.std.specs.Prelude.{ℕ, suc, ◌*◌, ◌^◌, ◌≡◌, ◌<◌, ℤ, pos, ◌+ℤ◌, ◌-ℤ◌, ◌*ℤ◌, ◌≤ℤ◌, List, ◌∷◌, length, sum_by, Contains, AllPairs}
use Rattle.std.specs.List.{AllByRecursion}
use Rattle.scaled_num.specs.Sums.{below, total}
use Rattle.game_model.specs.Numbers.{Numbers, over_row, RowsAreFull, product}
use Rattle.game_model.specs.Plan.{OwnPlan, InformedPlan, IsOwnPlan, IsInformedPlan, IsFamily}
use Rattle.game_model.specs.Play.{Step, IsPlay, first_steps, own_after, informed_after, plays, play_weight, step_weight, pay, family_pay, always}

-- the list of plays holds just the plays
abbrev pub PlaysAreListed : Type 0
PlaysAreListed =
    (g : Numbers) (n : ℕ) (sigma : OwnPlan n) (tau : InformedPlan n) (play : List Step) →
    (Contains (plays g n sigma tau) play → IsPlay g n sigma tau play) × (IsPlay g n sigma tau play → Contains (plays g n sigma tau) play)

-- each play stands in the list once: it differs from every later one
abbrev pub PlaysAreOnce : Type 0
PlaysAreOnce =
    (g : Numbers) (n : ℕ) (sigma : OwnPlan n) (tau : InformedPlan n) →
    AllPairs (λ play later. play ≡ later → ⊥) (plays g n sigma tau)

-- each play of n stages has n steps
abbrev pub PlaysAreLong : Type 0
PlaysAreLong =
    (g : Numbers) (n : ℕ) (sigma : OwnPlan n) (tau : InformedPlan n) →
    AllByRecursion (λ play. length play ≡ n) (plays g n sigma tau)

-- a sum over all plays is a sum over the first steps, of sums over the plays of what is left
abbrev pub PlaysByFirstSteps : Type 0
PlaysByFirstSteps =
    (g : Numbers) (n : ℕ) (sigma : OwnPlan (suc n)) (tau : InformedPlan (suc n)) (f : List Step → ℤ) →
    total f (plays g (suc n) sigma tau)
    ≡ total (λ step. total (λ rest. f (step ∷ rest)) (plays g n (own_after n sigma step).1 (informed_after n tau step).1))
    (first_steps g n sigma tau)

-- a sum over the first steps is six sums, one in another: over both actions, the observation, the next state and the
-- places of both players' branches
abbrev pub FirstStepsByParts : Type 0
FirstStepsByParts =
    (g : Numbers) (n : ℕ) (sigma : OwnPlan (suc n)) (tau : InformedPlan (suc n)) (f : Step → ℤ) →
    let step : ℕ → ℕ → ℕ → ℕ → ℕ → ℕ → Step = λ a c o t u v. record { own = a; informed = c; seen = o; to = t; own_place = u; informed_place = v } in
    total f (first_steps g n sigma tau)
    ≡ total (λ a. total (λ c. total (λ o. total (λ t. total (λ u. total (λ v. f (step a c o t u v))
    (below (length (tau c a o t)))) (below (length (sigma a o)))) (below g.states)) (below g.observations)) (below g.informed_actions)) (below g.own_actions)

-- the weights of a row sum to the row total
abbrev pub RowsSum : Type 0
RowsSum =
    (g : Numbers) → RowsAreFull g → (s a c : ℕ) → s < g.states → a < g.own_actions → c < g.informed_actions → (z : ℤ) →
    over_row g s a c (λ o t. z) ≡ pos g.row_total *ℤ z

-- a sum over a row is linear
abbrev pub RowsAdd : Type 0
RowsAdd =
    (g : Numbers) (s a c : ℕ) (f h : ℕ → ℕ → ℤ) →
    over_row g s a c (λ o t. f o t +ℤ h o t) ≡ over_row g s a c f +ℤ over_row g s a c h

abbrev pub RowsScale : Type 0
RowsScale =
    (g : Numbers) (s a c : ℕ) (k : ℤ) (f : ℕ → ℕ → ℤ) →
    over_row g s a c (λ o t. k *ℤ f o t) ≡ k *ℤ over_row g s a c f

-- the weights of all plays of n stages sum to the n-th power of the row total times both plans' totals
abbrev pub WeightsOfPlays : Type 0
WeightsOfPlays =
    (g : Numbers) (own_total informed_total n s : ℕ) (sigma : OwnPlan n) (tau : InformedPlan n) →
    RowsAreFull g → s < g.states → IsOwnPlan g own_total n sigma → IsInformedPlan g informed_total n tau →
    sum_by (play_weight g n s sigma tau) (plays g n sigma tau) ≡ (g.row_total * own_total * informed_total) ^ n

-- Pay is a sum over the first steps: a step's weight, times its reward brought to the scale of the stages
-- that are left and the discounted pay of what is left.
abbrev pub PayByFirstSteps : Type 0
PayByFirstSteps =
    (g : Numbers) (own_total informed_total n s : ℕ) (sigma : OwnPlan (suc n)) (tau : InformedPlan (suc n)) →
    RowsAreFull g → IsOwnPlan g own_total (suc n) sigma → IsInformedPlan g informed_total (suc n) tau →
    pay g (suc n) s sigma tau ≡
    total (λ step. pos (step_weight g n s sigma tau step)
    *ℤ (g.reward s step.own step.informed *ℤ pos (g.discount_under ^ suc n * (g.row_total * own_total * informed_total) ^ n)
    +ℤ pos g.discount_over *ℤ pay g n step.to (own_after n sigma step).1 (informed_after n tau step).1))
    (first_steps g n sigma tau)

-- always to play one action of the game is a right plan of total 1
abbrev pub AlwaysIsPlan : Type 0
AlwaysIsPlan = (g : Numbers) (a n : ℕ) → a < g.own_actions → IsOwnPlan g 1 n (always a n)

-- The vector stands for the plan that always plays a: at each state, whatever the informed player does, its
-- entry is at most the reward and the discounted average of its entries one stage later. The entries count in
-- units, of which a reward has e; both sides are multiplied by the row total and the discount's denominator.
abbrev pub AlwaysStands : Numbers → ℕ → ℕ → (ℕ → ℤ) → Type 0
AlwaysStands g e a vector =
    (s c : ℕ) → s < g.states → c < g.informed_actions →
    (vector s *ℤ pos (g.row_total * g.discount_under))
    ≤ℤ (pos e *ℤ g.reward s a c *ℤ pos (g.row_total * g.discount_under) +ℤ pos g.discount_over *ℤ over_row g s a c (λ o t. vector t))

-- Where the vector stands, and no entry is above the span, the plan that always plays a earns the entry at
-- the first state against each plan of the informed player, less the tail: the span discounted once for every
-- stage.
abbrev pub AlwaysEarns : Type 0
AlwaysEarns =
    (g : Numbers) (e span a : ℕ) (vector : ℕ → ℤ) →
    RowsAreFull g → a < g.own_actions → ((s : ℕ) → s < g.states → vector s ≤ℤ pos span) → AlwaysStands g e a vector →
    (informed_total n s : ℕ) (tau : InformedPlan n) → s < g.states → IsInformedPlan g informed_total n tau →
    ((vector s *ℤ pos (g.discount_under ^ n) -ℤ pos (g.discount_over ^ n * span)) *ℤ pos ((g.row_total * informed_total) ^ n))
    ≤ℤ (pos e *ℤ pay g n s (always a n) tau)

-- and it earns the product of the vector with the first belief against each family of plans, less the tail
abbrev pub AlwaysEarnsFamily : Type 0
AlwaysEarnsFamily =
    (g : Numbers) (e span a : ℕ) (vector : ℕ → ℤ) (first : ℕ → ℕ) →
    RowsAreFull g → a < g.own_actions → ((s : ℕ) → s < g.states → vector s ≤ℤ pos span) → AlwaysStands g e a vector →
    (informed_total n : ℕ) (family : ℕ → InformedPlan n) → IsFamily g informed_total n family →
    ((product g first vector *ℤ pos (g.discount_under ^ n) -ℤ pos (g.discount_over ^ n * span * sum_by first (below g.states)))
    *ℤ pos ((g.row_total * informed_total) ^ n))
    ≤ℤ (pos e *ℤ family_pay g first n (always a n) family)
