-- When a plan plays as weights say, and what two plans that do pay: what the weights earn over all courses.
use Rattle.std.specs.Prelude.{ℕ, zero, suc, ◌≡◌, ◌*◌, ◌^◌, ◌<◌, ℤ, pos, ◌*ℤ◌, List, [], ◌∷◌, ◌++◌, sum_by}
use Rattle.scaled_num.specs.Sums.{below, total}
use Rattle.game_model.specs.Numbers.{Numbers, RowsAreFull}
use Rattle.game_model.specs.Plan.{InformedPlan, IsInformedPlan, IsOwnPlan, OwnPlan}
use Rattle.game_model.specs.Play.{pay, play_weight, plays}
use Rattle.history_model.specs.Courses.{InformedWeights, OwnWeights, Stage, chance, courses, earned}

-- the stage of two actions, an observation, the state that it led to and two coins
abbrev pub stage_of : ℕ → ℕ → ℕ → ℕ → ℕ → ℕ → Stage
stage_of a c o t u v = record { own = a; informed = c; seen = o; to = t; own_coin = u; informed_coin = v }

-- A plan plays as the weights say after the stages so far: a sum over its branches is the sum over the coins, for whatever is
-- the same of the plan at a branch and of the coin, as soon as that plan plays on as the weights say.
abbrev pub OwnPlaysAs : Numbers → ℕ → OwnWeights → (n : ℕ) → OwnPlan n → List Stage → Type 0
OwnPlaysAs g coins own zero plan past = Unit {0}
OwnPlaysAs g coins own (suc n) plan past =
    (a o : ℕ) → a < g.own_actions → o < g.observations → (F : OwnPlan n → ℤ) (G : ℕ → ℤ) →
    ((u : ℕ) → u < coins → (rest : OwnPlan n) → ((c t v : ℕ) → OwnPlaysAs g coins own n rest (past ++ stage_of a c o t u v ∷ [])) → F rest ≡ G u) →
    total (λ (b : ℕ × OwnPlan n). pos b.0 *ℤ F b.1) (plan a o) ≡ total (λ u. pos (own past a o u) *ℤ G u) (below coins)

abbrev pub InformedPlaysAs : Numbers → ℕ → InformedWeights → (n : ℕ) → InformedPlan n → List Stage → Type 0
InformedPlaysAs g coins informed zero plan past = Unit {0}
InformedPlaysAs g coins informed (suc n) plan past =
    (c a o t : ℕ) → c < g.informed_actions → a < g.own_actions → o < g.observations → t < g.states → (F : InformedPlan n → ℤ) (G : ℕ → ℤ) →
    ((v : ℕ) → v < coins → (rest : InformedPlan n) → ((u : ℕ) → InformedPlaysAs g coins informed n rest (past ++ stage_of a c o t u v ∷ [])) → F rest ≡ G v) →
    total (λ (b : ℕ × InformedPlan n). pos b.0 *ℤ F b.1) (plan c a o t) ≡ total (λ v. pos (informed past c a o t v) *ℤ G v) (below coins)

-- what two plans pay, a sum over their plays, is what the weights earn, a plain sum over all lists of n stages
abbrev pub PlansPay : Type 0
PlansPay =
    (g : Numbers) (own_coins informed_coins : ℕ) (own : OwnWeights) (informed : InformedWeights) (n s : ℕ) (sigma : OwnPlan n) (tau : InformedPlan n) →
    OwnPlaysAs g own_coins own n sigma [] → InformedPlaysAs g informed_coins informed n tau [] →
    pay g n s sigma tau ≡ earned g own_coins informed_coins n s own informed

-- the weights of all plays sum to those of all lists of n stages
abbrev pub PlansWeigh : Type 0
PlansWeigh =
    (g : Numbers) (own_coins informed_coins : ℕ) (own : OwnWeights) (informed : InformedWeights) (n s : ℕ) (sigma : OwnPlan n) (tau : InformedPlan n) →
    OwnPlaysAs g own_coins own n sigma [] → InformedPlaysAs g informed_coins informed n tau [] →
    sum_by (play_weight g n s sigma tau) (plays g n sigma tau) ≡ sum_by (chance g n s own informed) (courses g own_coins informed_coins n)

-- and of right plans those sum to the scale, so that what is earned is a mean
abbrev pub CoursesWeigh : Type 0
CoursesWeigh =
    (g : Numbers) (own_coins informed_coins : ℕ) (own : OwnWeights) (informed : InformedWeights) (own_total informed_total n s : ℕ) (sigma : OwnPlan n) (tau : InformedPlan n) →
    RowsAreFull g → s < g.states → IsOwnPlan g own_total n sigma → IsInformedPlan g informed_total n tau →
    OwnPlaysAs g own_coins own n sigma [] → InformedPlaysAs g informed_coins informed n tau [] →
    sum_by (chance g n s own informed) (courses g own_coins informed_coins n) ≡ (g.row_total * own_total * informed_total) ^ n
