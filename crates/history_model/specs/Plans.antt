-- The plans of a controller and of a splitting strategy.
use Rattle.std.specs.Prelude.{ℕ, zero, suc, ◌*◌, ◌/◌, ◌==◌, ℤ, pos, ◌*ℤ◌, List, [], ◌∷◌, map, flat_map, cond}
use Rattle.scaled_num.specs.Sums.{below, total}
use Rattle.alpha_set.specs.Nodes.{Node, steps_at}
use Rattle.game_model.specs.Numbers.{Numbers}
use Rattle.game_model.specs.Plan.{InformedPlan, OwnPlan}
use Rattle.game_model.specs.Play.{pay}
use Rattle.point_set.specs.Points.{Point, mass, shares_at}

-- the plan of n stages that the node i stands for: after an own action and an observation one branch for each step
abbrev pub own_plan : (ℕ → Node) → ℕ → (n : ℕ) → OwnPlan n
own_plan nodes i zero = tt
own_plan nodes i (suc n) = λ a o. map (λ step. (step.weight, own_plan nodes step.member n)) (steps_at (nodes i) a o)

-- the product of the positive numbers of a list
abbrev pub product_of_positive : List ℕ → ℕ
product_of_positive [] = 1
product_of_positive (x ∷ xs) = cond (x == 0) 1 x * product_of_positive xs

-- every mass of every point
abbrev pub masses : Numbers → (ℕ → Point) → ℕ → List ℕ
masses g points count =
    flat_map (λ j. flat_map (λ a. flat_map (λ o. map (λ t. mass g (points j) a o t)
    (below g.states)) (below g.observations)) (below g.own_actions)) (below count)

-- the product of all positive masses of all points
abbrev pub mass_product : Numbers → (ℕ → Point) → ℕ → ℕ
mass_product g points count = product_of_positive (masses g points count)

-- The plan of n stages of the informed player who stands in the state s at the point j. Where the mass is
-- positive there is one branch for each share, and else one branch to the point of the next state. The number
-- z is one that each positive mass divides.
abbrev pub informed_plan : Numbers → (ℕ → Point) → ℕ → ℕ → ℕ → (n : ℕ) → InformedPlan n
informed_plan g points z j s zero = tt
informed_plan g points z j s (suc n) = λ c a o t.
    cond (mass g (points j) a o t == 0)
    (((points j).mixes s c * z, informed_plan g points z t t n) ∷ [])
    (map (λ share. ((points j).mixes s c * share.weight * (points share.member).belief t * (z / mass g (points j) a o t), informed_plan g points z share.member t n))
    (shares_at (points j) a o))

-- what player one's plan earns against the plans of a point, summed over the states by the point's belief
abbrev pub belief_pay : Numbers → (ℕ → Point) → ℕ → (n : ℕ) → ℕ → OwnPlan n → ℤ
belief_pay g points z n j sigma =
    total (λ s. pos ((points j).belief s) *ℤ pay g n s sigma (informed_plan g points z j s n)) (below g.states)
