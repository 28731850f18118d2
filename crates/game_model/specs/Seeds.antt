-- The seed vectors, and what always playing one action earns.
use Rattle.std.specs.Prelude.{ℕ, zero, suc, ◌*◌, ◌^◌, ◌≡◌, ◌<◌, ◌≤◌, ℤ, pos, neg_ℤ, ◌+ℤ◌, ◌-ℤ◌, ◌*ℤ◌, ◌≤ℤ◌, ◌<ℤ◌, ◌-◌, unsigned_abs, sum_by}
use Rattle.scaled_num.specs.Sums.{below}
use Rattle.game_model.specs.Game.{GameData, IsGame, numbers, span, unit}
use Rattle.game_model.specs.Numbers.{Numbers, over_row, RowsAreFull, product}
use Rattle.game_model.specs.Plan.{InformedPlan, IsFamily}
use Rattle.game_model.specs.Play.{family_pay, always}
use Rattle.game_model.specs.Laws.{AlwaysStands}

-- how many rounds make a seed vector
abbrev pub seed_rounds : ℕ
seed_rounds = 256

-- What one stage of always playing a is worth at the state s against the informed action c, where a vector
-- tells what each next state is worth: the reward in units plus the discounted average of the vector over the
-- row, times the row total and the discount's denominator.
abbrev pub stage_worth : Numbers → ℕ → (ℕ → ℤ) → ℕ → ℕ → ℤ
stage_worth g a old s c =
    pos unit *ℤ g.reward s a c *ℤ pos (g.row_total * g.discount_under)
    +ℤ pos g.discount_over *ℤ over_row g s a c (λ o t. old t)

-- x is the least, over the informed actions, of a stage's worth divided by the row total and the discount's
-- denominator and rounded down: at most each of these quotients, and less than 1 below one of them.
pub record IsLeastFloor (g : Numbers) (a : ℕ) (old : ℕ → ℤ) (s : ℕ) (x : ℤ) : Type 0 where
  pub each : (c : ℕ) → c < g.informed_actions → (x *ℤ pos (g.row_total * g.discount_under)) ≤ℤ stage_worth g a old s c
  pub some : (c : ℕ) × (c < g.informed_actions) × ((stage_worth g a old s c) <ℤ ((x +ℤ pos 1) *ℤ pos (g.row_total * g.discount_under)))

-- The vector of the action a after so many rounds. It begins as minus the span everywhere; a round replaces
-- all entries at once by the least quotients.
abbrev pub IsSeedAfter : Numbers → ℕ → ℕ → ℕ → (ℕ → ℤ) → Type 0
IsSeedAfter g span a zero new = (s : ℕ) → s < g.states → new s ≡ neg_ℤ (pos span)
IsSeedAfter g span a (suc n) new =
    (old : ℕ → ℤ) × IsSeedAfter g span a n old × ((s : ℕ) → s < g.states → IsLeastFloor g a old s (new s))

-- the seed vector of the action a
abbrev pub IsSeed : Numbers → ℕ → ℕ → (ℕ → ℤ) → Type 0
IsSeed g span a vector = IsSeedAfter g span a seed_rounds vector

-- The span is at least what the greatest reward, in units, would be worth at every stage for ever:
-- unit * |reward| / (1 - discount).
abbrev pub IsSpanOf : Numbers → ℕ → Type 0
IsSpanOf g span =
    (s a c : ℕ) → s < g.states → a < g.own_actions → c < g.informed_actions →
    unit * unsigned_abs (g.reward s a c) * g.discount_under ≤ span * (g.discount_under - g.discount_over)

-- what seed vectors need of a game's numbers and its span
pub record KeepsSpan (g : Numbers) (span : ℕ) : Type 0 where
  pub full : RowsAreFull g
  pub whole : 1 ≤ g.row_total
  pub discount : g.discount_over < g.discount_under
  pub informed : 1 ≤ g.informed_actions
  pub rewards : IsSpanOf g span

-- of an accepted game every action has a vector after each number of rounds
abbrev pub SeedsExist : Type 0
SeedsExist = (g : GameData) → IsGame g → (a n : ℕ) → (vector : ℕ → ℤ) × IsSeedAfter (numbers g) (span g) a n vector

-- an action has one seed vector, as far as the states go
abbrev pub SeedsAreOne : Type 0
SeedsAreOne =
    (g : Numbers) (span a : ℕ) (vector other : ℕ → ℤ) → IsSeed g span a vector → IsSeed g span a other →
    (s : ℕ) → s < g.states → vector s ≡ other s

-- a seed vector stands, and its entries are within the span
abbrev pub SeedsStand : Type 0
SeedsStand =
    (g : Numbers) (span a : ℕ) (vector : ℕ → ℤ) → KeepsSpan g span → a < g.own_actions → IsSeed g span a vector →
    AlwaysStands g unit a vector × ((s : ℕ) → s < g.states → ((neg_ℤ (pos span)) ≤ℤ (vector s)) × ((vector s) ≤ℤ (pos span)))

-- The plan that always plays a earns at least `lower` from the first belief, less the tail: over any number n
-- of stages, and against any family of plans of the informed player, of any total `whole`,
--
--     unit * pay >= (lower * Q^n - P^n * span * B) * (D * whole)^n
--
-- P / Q is the discount, D the row total, and B the sum of the first belief's weights. Divided by
-- unit * B * Q^n * (D * whole)^n it says that the expected discounted payoff is at least lower / (unit * B), less
-- the tail (P / Q)^n * span / unit.
abbrev pub FixedActionEarns : Numbers → (ℕ → ℕ) → ℕ → ℕ → ℤ → Type 0
FixedActionEarns g first span a lower =
    (n whole : ℕ) (family : ℕ → InformedPlan n) → IsFamily g whole n family →
    let tail = pos (g.discount_over ^ n * span * sum_by first (below g.states)) in
    let scale = pos ((g.row_total * whole) ^ n) in
    ((lower *ℤ pos (g.discount_under ^ n) -ℤ tail) *ℤ scale) ≤ℤ (pos unit *ℤ family_pay g first n (always a n) family)

-- always playing an action earns the product of its seed vector with the first belief
abbrev pub SeedsEarn : Type 0
SeedsEarn =
    (g : Numbers) (span a : ℕ) (vector : ℕ → ℤ) (first : ℕ → ℕ) (lower : ℤ) →
    KeepsSpan g span → a < g.own_actions → IsSeed g span a vector → product g first vector ≡ lower →
    FixedActionEarns g first span a lower
