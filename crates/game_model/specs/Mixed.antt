-- Plans made of plans: with all weights times a number, and with a draw among several plans at the start.
use Rattle.std.specs.Prelude.{ℕ, zero, suc, ◌*◌, ◌^◌, ◌≡◌, ◌≤◌, ℤ, pos, ◌*ℤ◌, List, map, flat_map, sum_by}
use Rattle.std.specs.List.{AllByRecursion}
use Rattle.scaled_num.specs.Sums.{total}
use Rattle.game_model.specs.Numbers.{Numbers}
use Rattle.game_model.specs.Plan.{InformedPlan, IsInformedPlan, IsOwnPlan, OwnPlan}
use Rattle.game_model.specs.Play.{pay}

-- the plan with each weight times r, at each of its stages
abbrev pub scaled_own : ℕ → (n : ℕ) → OwnPlan n → OwnPlan n
scaled_own r zero plan = tt
scaled_own r (suc n) plan = λ a o. map (λ (branch : ℕ × OwnPlan n). (r * branch.0, scaled_own r n branch.1)) (plan a o)

abbrev pub scaled_informed : ℕ → (n : ℕ) → InformedPlan n → InformedPlan n
scaled_informed r zero plan = tt
scaled_informed r (suc n) plan = λ c a o t. map (λ (branch : ℕ × InformedPlan n). (r * branch.0, scaled_informed r n branch.1)) (plan c a o t)

-- The plan that draws among several plans by weights whose sum is `whole`: in its first stage it has the branches of
-- each, their weights times the weight of that plan, and the plans that they go on to times `whole`.
abbrev pub mixed_own : ℕ → (n : ℕ) → List (ℕ × OwnPlan n) → OwnPlan n
mixed_own whole zero plans = tt
mixed_own whole (suc n) plans = λ a o.
    flat_map (λ (item : ℕ × OwnPlan (suc n)). map (λ (branch : ℕ × OwnPlan n). (item.0 * branch.0, scaled_own whole n branch.1)) (item.1 a o)) plans

abbrev pub mixed_informed : ℕ → (n : ℕ) → List (ℕ × InformedPlan n) → InformedPlan n
mixed_informed whole zero plans = tt
mixed_informed whole (suc n) plans = λ c a o t.
    flat_map (λ (item : ℕ × InformedPlan (suc n)). map (λ (branch : ℕ × InformedPlan n). (item.0 * branch.0, scaled_informed whole n branch.1)) (item.1 c a o t)) plans

-- ---- laws

-- a right plan times r is a right plan of the total times r
abbrev pub ScaledAreRight : Type 0
ScaledAreRight =
    (g : Numbers) (r whole n : ℕ) → 1 ≤ r →
    ((plan : OwnPlan n) → IsOwnPlan g whole n plan → IsOwnPlan g (r * whole) n (scaled_own r n plan))
    × ((plan : InformedPlan n) → IsInformedPlan g whole n plan → IsInformedPlan g (r * whole) n (scaled_informed r n plan))

-- it pays the n-th power of r as much
abbrev pub ScaledPay : Type 0
ScaledPay =
    (g : Numbers) (r n s : ℕ) (sigma : OwnPlan n) (tau : InformedPlan n) →
    (pay g n s (scaled_own r n sigma) tau ≡ pos (r ^ n) *ℤ pay g n s sigma tau)
    × (pay g n s sigma (scaled_informed r n tau) ≡ pos (r ^ n) *ℤ pay g n s sigma tau)

-- a draw among right plans of one total is a right plan
abbrev pub MixedAreRight : Type 0
MixedAreRight =
    (g : Numbers) (whole each n : ℕ) → 1 ≤ whole → 1 ≤ each →
    ((plans : List (ℕ × OwnPlan n)) → sum_by (λ item. item.0) plans ≡ whole → AllByRecursion (λ item. IsOwnPlan g each n item.1) plans →
    IsOwnPlan g (whole * each) n (mixed_own whole n plans))
    × ((plans : List (ℕ × InformedPlan n)) → sum_by (λ item. item.0) plans ≡ whole → AllByRecursion (λ item. IsInformedPlan g each n item.1) plans →
    IsInformedPlan g (whole * each) n (mixed_informed whole n plans))

-- it pays the weighted sum of what they pay, brought to its total
abbrev pub MixedPay : Type 0
MixedPay =
    (g : Numbers) (whole n s : ℕ) →
    ((plans : List (ℕ × OwnPlan n)) (tau : InformedPlan n) →
    pos whole *ℤ pay g n s (mixed_own whole n plans) tau ≡ pos (whole ^ n) *ℤ total (λ item. pos item.0 *ℤ pay g n s item.1 tau) plans)
    × ((sigma : OwnPlan n) (plans : List (ℕ × InformedPlan n)) →
    pos whole *ℤ pay g n s sigma (mixed_informed whole n plans) ≡ pos (whole ^ n) *ℤ total (λ item. pos item.0 *ℤ pay g n s sigma item.1) plans)
