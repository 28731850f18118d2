-- A game as numbers: what plans, plays and pay are counted with.
--
-- Two players move at once. Player one has the own actions and sees only the observations. The informed
-- player sees the state and everything else, and pays player one the reward. A stage goes from the state s,
-- by the own action a and the informed action c, to an observation o and a next state t.
use Rattle.std.specs.Prelude.{ℕ, ◌≡◌, ◌<◌, ℤ, pos, ◌*ℤ◌, sum_by}
use Rattle.scaled_num.specs.Sums.{below, total}

-- States, actions and observations are the numbers below these counts. The discount is the fraction
-- `discount_over / discount_under`. `reward s a c` is what player one is paid at once. `weight s a c o t` out
-- of `row_total` is the probability of the observation o and the next state t.
pub record Numbers : Type 0 where
  pub states : ℕ
  pub own_actions : ℕ
  pub informed_actions : ℕ
  pub observations : ℕ
  pub row_total : ℕ
  pub discount_over : ℕ
  pub discount_under : ℕ
  pub reward : ℕ → ℕ → ℕ → ℤ
  pub weight : ℕ → ℕ → ℕ → ℕ → ℕ → ℕ

-- the sum over all observations o and next states t of a row's weight times f o t
abbrev pub over_row : Numbers → ℕ → ℕ → ℕ → (ℕ → ℕ → ℤ) → ℤ
over_row g s a c f = total (λ o. total (λ t. pos (g.weight s a c o t) *ℤ f o t) (below g.states)) (below g.observations)

-- the weights of each row sum to the row total
abbrev pub RowsAreFull : Numbers → Type 0
RowsAreFull g =
    (s a c : ℕ) → s < g.states → a < g.own_actions → c < g.informed_actions →
    sum_by (λ o. sum_by (λ t. g.weight s a c o t) (below g.states)) (below g.observations) ≡ g.row_total

-- the product of a belief's weights with a vector: the sum over the states of the weight times the entry
abbrev pub product : Numbers → (ℕ → ℕ) → (ℕ → ℤ) → ℤ
product g belief vector = total (λ s. pos (belief s) *ℤ vector s) (below g.states)
