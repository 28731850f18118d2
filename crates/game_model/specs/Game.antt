-- A game as what clauses see of it: its shape, first belief, rewards and rows; its limits; and its numbers.
use Rattle.game_model.specs.Limits.{most_states, most_actions, most_observations, most_row_total, most_discount, most_reward, most_width, most_belief, most_mass}
use Rattle.std.specs.Prelude.{cond, sum_by, fold, max, pos, neg_ℤ, unsigned_abs, List, [], ◌∷◌, length, ◌&&◌, ◌⊎◌, ◌*◌, ◌/◌, ◌^◌, ◌+◌, ◌-◌, ◌<◌, ◌≤◌, ◌≡◌, ◌==◌, ◌*ℤ◌, ◌≤ℤ◌, ◌<ℤ◌, ℕ, ℤ, slice_index_or}
use Rattle.std.specs.Int.{◌∣◌}
use Rattle.std.specs.List.{AllByRecursion}
use Rattle.scaled_num.specs.Sums.{sum_of, total}
use Rattle.game_model.specs.Numbers.{Numbers}
use Rattle.game_model.specs.declared.parts.Shape.{Shape}
use Rattle.game_model.specs.declared.parts.Landing.{Landing}

-- The rewards and the rows stand by their triple (s, a, c) in rising order. The first belief is coprime.
pub record GameData : Type 0 where
  pub shape : Shape
  pub first : List ℤ
  pub rewards : List ℤ
  pub rows : List (List Landing)

-- units of a vector for one unit of reward
abbrev pub unit : ℕ
unit = 65536

abbrev pub IsWithin : ℤ → ℤ → ℤ → Type 0
IsWithin low high x = (low ≤ℤ x) × (x ≤ℤ high)

-- the limits of a shape
pub record IsShape (shape : Shape) : Type 0 where
  pub states : (1 ≤ shape.states) × (shape.states ≤ most_states)
  pub own_actions : (1 ≤ shape.own_actions) × (shape.own_actions ≤ most_actions)
  pub informed_actions : (1 ≤ shape.informed_actions) × (shape.informed_actions ≤ most_actions)
  pub observations : (1 ≤ shape.observations) × (shape.observations ≤ most_observations)
  pub row_total : IsWithin (pos 1) (pos most_row_total) shape.row_total
  pub discount : (pos 0 ≤ℤ shape.discount.0) × (shape.discount.0 <ℤ shape.discount.1) × (shape.discount.1 ≤ℤ pos most_discount)

-- weights of a belief over so many states, none negative, with a total of at least 1
pub record IsBelief (states : ℕ) (weights : List ℤ) : Type 0 where
  pub long : length weights ≡ states
  pub each : AllByRecursion (IsWithin (pos 0) (pos most_belief)) weights
  pub sums : IsWithin (pos 1) (pos most_belief) (sum_of weights)

-- nothing but 1 divides all of them
abbrev pub AreCoprime : List ℤ → Type 0
AreCoprime numbers = (d : ℕ) → AllByRecursion (λ x. d ∣ unsigned_abs x) numbers → d ≡ 1

-- a mass over the states of a game: none of it negative, and not too much for the row total
pub record IsMass (g : GameData) (mass : List ℤ) : Type 0 where
  pub long : length mass ≡ g.shape.states
  pub each : AllByRecursion (λ x. pos 0 ≤ℤ x) mass
  pub most : sum_of mass ≤ℤ (pos most_mass *ℤ g.shape.row_total)

-- landings rise strictly by observation and next state
abbrev pub IsBefore : Landing → Landing → Type 0
IsBefore l m = (l.seen < m.seen) ⊎ ((l.seen ≡ m.seen) × (l.to < m.to))

abbrev pub IsRising : List Landing → Type 0
IsRising [] = Unit {0}
IsRising (l ∷ []) = Unit {0}
IsRising (l ∷ m ∷ ls) = IsBefore l m × IsRising (m ∷ ls)

pub record IsLanding (shape : Shape) (l : Landing) : Type 0 where
  pub seen : l.seen < shape.observations
  pub to : l.to < shape.states
  pub weight : IsWithin (pos 1) shape.row_total l.weight

-- the sum of the weights of a row
abbrev pub row_sum : List Landing → ℤ
row_sum row = total (λ (l : Landing). l.weight) row

-- the landings of a row that may be unfinished
pub record IsRowFront (shape : Shape) (row : List Landing) : Type 0 where
  pub rising : IsRising row
  pub each : AllByRecursion (IsLanding shape) row
  pub most : row_sum row ≤ℤ shape.row_total

-- a row whose weights sum to the row total
pub record IsRow (shape : Shape) (row : List Landing) : Type 0 where
  pub rising : IsRising row
  pub each : AllByRecursion (IsLanding shape) row
  pub sums : row_sum row ≡ shape.row_total

-- the limit of a reward, and the width rule: D * Q * Q * max(1, |reward|) is at most 2^72
abbrev pub IsRewardInRange : ℤ → Type 0
IsRewardInRange reward = IsWithin (neg_ℤ (pos most_reward)) (pos most_reward) reward

abbrev pub IsNarrow : Shape → ℤ → Type 0
IsNarrow shape reward = (shape.row_total *ℤ shape.discount.1 *ℤ shape.discount.1 *ℤ pos (max 1 (unsigned_abs reward))) ≤ℤ pos most_width

-- how many triples (s, a, c) there are, and the place of one in rising order
abbrev pub triples : Shape → ℕ
triples shape = shape.states * shape.own_actions * shape.informed_actions

abbrev pub triple : Shape → ℕ → ℕ → ℕ → ℕ
triple shape s a c = (s * shape.own_actions + a) * shape.informed_actions + c

-- an accepted game
pub record IsGame (g : GameData) : Type 0 where
  pub shape : IsShape g.shape
  pub first : IsBelief g.shape.states g.first
  pub coprime : AreCoprime g.first
  pub rewards_count : length g.rewards ≡ triples g.shape
  pub rows_count : length g.rows ≡ triples g.shape
  pub rewards : AllByRecursion (λ reward. IsRewardInRange reward × IsNarrow g.shape reward) g.rewards
  pub rows : AllByRecursion (IsRow g.shape) g.rows

-- the reward and the row of a triple
abbrev pub reward_at : GameData → ℕ → ℕ → ℕ → ℤ
reward_at g s a c = slice_index_or g.rewards (triple g.shape s a c) (pos 0)

abbrev pub row_at : GameData → ℕ → ℕ → ℕ → List Landing
row_at g s a c = slice_index_or g.rows (triple g.shape s a c) []

-- the weight of an observation and a next state in a row, 0 where the row has no such landing
abbrev pub weight_in : List Landing → ℕ → ℕ → ℕ
weight_in row o t = sum_by (λ (l : Landing). cond ((l.seen == o) && (l.to == t)) (unsigned_abs l.weight) 0) row

-- the numbers that plans and plays take
abbrev pub numbers : GameData → Numbers
numbers g = record {
  states = g.shape.states;
  own_actions = g.shape.own_actions;
  informed_actions = g.shape.informed_actions;
  observations = g.shape.observations;
  row_total = unsigned_abs g.shape.row_total;
  discount_over = unsigned_abs g.shape.discount.0;
  discount_under = unsigned_abs g.shape.discount.1;
  reward = reward_at g;
  weight = λ s a c o t. weight_in (row_at g s a c) o t;
}

-- the weight of a state in the first belief
abbrev pub first_at : GameData → ℕ → ℕ
first_at g s = unsigned_abs (slice_index_or g.first s (pos 0))

-- the greatest magnitude of a reward
abbrev pub greatest_reward : GameData → ℕ
greatest_reward g = fold (λ most reward. max most (unsigned_abs reward)) 0 g.rewards

-- the span: unit * greatest reward * Q / (Q - P), rounded up
abbrev pub span : GameData → ℕ
span g =
    let under = unsigned_abs g.shape.discount.1 in
    let room = under - unsigned_abs g.shape.discount.0 in
    (unit * greatest_reward g * under + room - 1) / room
