-- The plan of a strategy by history: after each history one branch for each coin.
use Rattle.std.specs.Prelude.{ℕ, zero, suc, ◌≡◌, ◌<◌, List, [], ◌∷◌, ◌++◌, map}
use Rattle.scaled_num.specs.Sums.{below}
use Rattle.game_model.specs.Numbers.{Numbers}
use Rattle.game_model.specs.Plan.{InformedPlan, IsInformedPlan, IsOwnPlan, OwnPlan}
use Rattle.game_model.specs.Play.{pay}
use Rattle.history_model.specs.Courses.{earned}
use Rattle.history_model.specs.Playing.{InformedPlaysAs, OwnPlaysAs}
use Rattle.history_model.specs.Strategies.{Felt, InformedStrategy, IsInformedStrategy, IsOwnStrategy, Known, OwnStrategy, informed_weights, own_weights}

abbrev pub felt_of : ℕ → ℕ → ℕ → Felt
felt_of a o u = record { own = a; seen = o; coin = u }

-- the plan of a strategy of player one after a history
abbrev pub own_tree : OwnStrategy → ℕ → (n : ℕ) → List Felt → OwnPlan n
own_tree strategy coins zero history = tt
own_tree strategy coins (suc n) history = λ a o.
    map (λ u. (strategy history a u, own_tree strategy coins n (history ++ felt_of a o u ∷ []))) (below coins)

abbrev pub known_of : ℕ → ℕ → ℕ → ℕ → ℕ → Known
known_of a c o t v = record { own = a; informed = c; seen = o; to = t; coin = v }

-- the plan of a strategy of the informed player from a first state, after a history
abbrev pub informed_tree : InformedStrategy → ℕ → ℕ → (n : ℕ) → List Known → InformedPlan n
informed_tree strategy first coins zero history = tt
informed_tree strategy first coins (suc n) history = λ c a o t.
    map (λ v. (strategy first history c v, informed_tree strategy first coins n (history ++ known_of a c o t v ∷ []))) (below coins)

-- they are right plans of the strategy's total
abbrev pub OwnStrategiesArePlans : Type 0
OwnStrategiesArePlans =
    (g : Numbers) (coins whole n : ℕ) (strategy : OwnStrategy) → IsOwnStrategy g coins whole n strategy →
    IsOwnPlan g whole n (own_tree strategy coins n [])

abbrev pub InformedStrategiesArePlans : Type 0
InformedStrategiesArePlans =
    (g : Numbers) (coins whole n first : ℕ) (strategy : InformedStrategy) → first < g.states → IsInformedStrategy g coins whole n strategy →
    IsInformedPlan g whole n (informed_tree strategy first coins n [])

-- they play as the strategy says
abbrev pub OwnStrategiesPlay : Type 0
OwnStrategiesPlay =
    (g : Numbers) (coins n : ℕ) (strategy : OwnStrategy) →
    OwnPlaysAs g coins (own_weights strategy) n (own_tree strategy coins n []) []

abbrev pub InformedStrategiesPlay : Type 0
InformedStrategiesPlay =
    (g : Numbers) (coins n first : ℕ) (strategy : InformedStrategy) →
    InformedPlaysAs g coins (informed_weights strategy first) n (informed_tree strategy first coins n []) []

-- so the plans of two strategies pay what the strategies earn
abbrev pub StrategiesPay : Type 0
StrategiesPay =
    (g : Numbers) (own_coins informed_coins n s : ℕ) (own : OwnStrategy) (informed : InformedStrategy) →
    pay g n s (own_tree own own_coins n []) (informed_tree informed s informed_coins n [])
    ≡ earned g own_coins informed_coins n s (own_weights own) (informed_weights informed s)
