-- Plans of both players: finite trees whose branches have whole weights.
--
-- A plan says what a player does over a fixed number of stages, on each thing that it may see, and by which
-- coins. A branch's weight over the plan's total is the probability of the action together with the coin.
use Rattle.std.specs.Prelude.{ℕ, zero, suc, ◌≡◌, ◌<◌, ◌≤◌, List, sum_by}
use Rattle.std.specs.List.{AllByRecursion}
use Rattle.scaled_num.specs.Sums.{below}
use Rattle.game_model.specs.Numbers.{Numbers}

-- A plan of player one over n stages. Over no stage it stops. Over more it has, for each own action and
-- observation, a list of branches: a weight, and a plan of the stages that are left.
abbrev pub OwnPlan : ℕ → Type 0
OwnPlan zero = Unit {0}
OwnPlan (suc n) = ℕ → ℕ → List (ℕ × OwnPlan n)

-- A plan of the informed player over n stages, from a first state that it knows. Over no stage it stops. Over
-- more it has, for each informed action, own action, observation and next state, a list of branches.
abbrev pub InformedPlan : ℕ → Type 0
InformedPlan zero = Unit {0}
InformedPlan (suc n) = ℕ → ℕ → ℕ → ℕ → List (ℕ × InformedPlan n)

-- the sum of the weights of a list of branches
abbrev pub branches_total : {X : Type 0} → List (ℕ × X) → ℕ
branches_total branches = sum_by (λ branch. branch.0) branches

-- A stage of player one's plan is right for a total of at least 1 where each own action has a part: the
-- weights after the action sum to its part whatever is observed, the parts sum to the total, and each branch
-- leads to a right plan. So the choice of the action does not look ahead at the observation.
pub record IsOwnStage (g : Numbers) (whole : ℕ) (Rest : Type 0) (IsRight : Rest → Type 0) (stage : ℕ → ℕ → List (ℕ × Rest)) : Type 0 where
  pub some : 1 ≤ whole
  pub part : ℕ → ℕ
  pub same : (a o : ℕ) → a < g.own_actions → o < g.observations → branches_total (stage a o) ≡ part a
  pub sums : sum_by part (below g.own_actions) ≡ whole
  pub rest : (a o : ℕ) → a < g.own_actions → o < g.observations → AllByRecursion (λ branch. IsRight branch.1) (stage a o)

-- A right plan of player one, of this total at each of its stages. A plan over no stage has no total to keep.
abbrev pub IsOwnPlan : Numbers → ℕ → (n : ℕ) → OwnPlan n → Type 0
IsOwnPlan g whole zero plan = Unit {0}
IsOwnPlan g whole (suc n) plan = IsOwnStage g whole (OwnPlan n) (IsOwnPlan g whole n) plan

-- A stage of the informed player's plan is right for a total of at least 1 where each informed action has a
-- part: the weights after the action sum to its part whatever player one does and wherever the stage leads,
-- the parts sum to the total, and each branch leads to a right plan.
pub record IsInformedStage (g : Numbers) (whole : ℕ) (Rest : Type 0) (IsRight : Rest → Type 0) (stage : ℕ → ℕ → ℕ → ℕ → List (ℕ × Rest)) : Type 0 where
  pub some : 1 ≤ whole
  pub part : ℕ → ℕ
  pub same : (c a o t : ℕ) → c < g.informed_actions → a < g.own_actions → o < g.observations → t < g.states → branches_total (stage c a o t) ≡ part c
  pub sums : sum_by part (below g.informed_actions) ≡ whole
  pub rest : (c a o t : ℕ) → c < g.informed_actions → a < g.own_actions → o < g.observations → t < g.states → AllByRecursion (λ branch. IsRight branch.1) (stage c a o t)

-- a right plan of the informed player, of this total at each of its stages
abbrev pub IsInformedPlan : Numbers → ℕ → (n : ℕ) → InformedPlan n → Type 0
IsInformedPlan g whole zero plan = Unit {0}
IsInformedPlan g whole (suc n) plan = IsInformedStage g whole (InformedPlan n) (IsInformedPlan g whole n) plan

-- a family of right plans of the informed player, one for each first state, all of this total
abbrev pub IsFamily : Numbers → ℕ → (n : ℕ) → (ℕ → InformedPlan n) → Type 0
IsFamily g whole n family = (s : ℕ) → s < g.states → IsInformedPlan g whole n (family s)
