-- The definitions compute: a game of two states over two stages, with every play that counts, its weight and
-- its gain. All numbers agree with a count by hand.
use Rattle.std.proofs.Common.{◌≡◌, ℕ, suc, zero, ◌+◌, ◌*◌, ◌<◌, ◌≤◌, List, [], ◌∷◌, length, refl, cond, ◌==◌, arith}
use Rattle.std.specs.Prelude.{ℤ, pos, neg_ℤ, ◌*ℤ◌, sum_by, map, filter, slice_index_or, nat_lt}
use Rattle.std.specs.List.{AllByRecursion}
use Rattle.scaled_num.specs.Sums.{below}
use Rattle.game_model.specs.Numbers.{Numbers, RowsAreFull}
use Rattle.game_model.specs.Plan.{OwnPlan, InformedPlan, IsOwnPlan, IsInformedPlan, branches_total}
use Rattle.game_model.specs.Play.{Step, plays, play_weight, gain, pay, always}
use Rattle.game_model.proofs.Steps.{step_of}

-- The rewards, and the weights of the rows out of 3, by the state and both actions (s, a, c) in rising order.
-- The weights of a row stand by the observation and the next state (o, t): (0, 0), (0, 1), (1, 0), (1, 1).
abbrev rewards : List ℤ
rewards = pos 5 ∷ neg_ℤ (pos 1) ∷ pos 0 ∷ pos 2 ∷ neg_ℤ (pos 4) ∷ pos 1 ∷ pos 3 ∷ neg_ℤ (pos 2) ∷ []

abbrev rows : List (List ℕ)
rows =
    (1 ∷ 0 ∷ 0 ∷ 2 ∷ [])
    ∷ (0 ∷ 3 ∷ 0 ∷ 0 ∷ [])
    ∷ (0 ∷ 0 ∷ 3 ∷ 0 ∷ [])
    ∷ (2 ∷ 0 ∷ 1 ∷ 0 ∷ [])
    ∷ (0 ∷ 0 ∷ 0 ∷ 3 ∷ [])
    ∷ (3 ∷ 0 ∷ 0 ∷ 0 ∷ [])
    ∷ (0 ∷ 1 ∷ 0 ∷ 2 ∷ [])
    ∷ (0 ∷ 0 ∷ 3 ∷ 0 ∷ [])
    ∷ []

-- the discount is 2/3
abbrev game : Numbers
game = record {
  states = 2;
  own_actions = 2;
  informed_actions = 2;
  observations = 2;
  row_total = 3;
  discount_over = 2;
  discount_under = 3;
  reward = λ s a c. slice_index_or rewards (4 * s + 2 * a + c) (pos 0);
  weight = λ s a c o t. slice_index_or (slice_index_or rows (4 * s + 2 * a + c) []) (2 * o + t) 0;
}

-- One stage of player one: both actions, with these weights, whatever is observed.
abbrev own_stage : ℕ → ℕ → OwnPlan 1
own_stage first second = λ a o. (cond (a == 0) first second, tt) ∷ []

-- Player one's plan, of total 3. Its first action is 0 with weight 2 and 1 with weight 1. After action 0 and
-- observation 0 a coin decides between going on by action 0 alone and by both actions with the weights 1 and
-- 2; after observation 1 it goes on by both. After action 1 it goes on by action 0 alone.
abbrev own : OwnPlan 2
own = λ a o.
    cond (a == 0)
    (cond (o == 0) ((1, own_stage 3 0) ∷ (1, own_stage 1 2) ∷ []) ((2, own_stage 1 2) ∷ []))
    ((1, own_stage 3 0) ∷ [])

-- One stage of the informed player.
abbrev informed_stage : ℕ → ℕ → InformedPlan 1
informed_stage first second = λ c a o t. (cond (c == 0) first second, tt) ∷ []

-- The informed player's plan, of total 3. Its first action is 0 with weight 2 and 1 with weight 1. After
-- action 0 it goes on by action 0 in the state 0; in the state 1 a coin decides between the two actions.
-- After action 1 it goes on by action 1.
abbrev informed : InformedPlan 2
informed = λ c a o t.
    cond (c == 0)
    (cond (t == 0) ((2, informed_stage 3 0) ∷ []) ((1, informed_stage 3 0) ∷ (1, informed_stage 0 3) ∷ []))
    ((1, informed_stage 0 3) ∷ [])

-- the plays of positive weight from a state, with weight, gain, and their product
abbrev counted : ℕ → List (List Step × ℕ × ℤ × ℤ)
counted s =
    filter (λ row. nat_lt 0 row.1)
    (map (λ play. (play, play_weight game 2 s own informed play, gain game s play, pos (play_weight game 2 s own informed play) *ℤ gain game s play))
    (plays game 2 own informed))

-- There are 400 plays. All but those below have weight 0: the row or a branch has none. A step is written as
-- own action, informed action, observation, next state, and the places of both branches. The first play from
-- the state 0 has the weight (1 * 1 * 2) * (1 * 3 * 3) = 18, by row, own branch and informed branch of each
-- step, and the gain 5 * 3 * 3 + 2 * (5 * 3) = 75.
count : length (plays game 2 own informed) ≡ 400
count = refl

from_state_0 : counted 0 ≡
    (step_of 0 0 0 0 0 0 ∷ step_of 0 0 0 0 0 0 ∷ [], 18, pos 75, pos 1350) ∷
    (step_of 0 0 0 0 0 0 ∷ step_of 0 0 1 1 0 0 ∷ [], 36, pos 75, pos 2700) ∷
    (step_of 0 0 0 0 1 0 ∷ step_of 0 0 0 0 0 0 ∷ [], 6, pos 75, pos 450) ∷
    (step_of 0 0 0 0 1 0 ∷ step_of 0 0 1 1 0 0 ∷ [], 12, pos 75, pos 900) ∷
    (step_of 0 0 0 0 1 0 ∷ step_of 1 0 1 0 0 0 ∷ [], 36, pos 45, pos 1620) ∷
    (step_of 0 0 1 1 0 0 ∷ step_of 0 0 1 1 0 0 ∷ [], 36, pos 21, pos 756) ∷
    (step_of 0 0 1 1 0 0 ∷ step_of 1 0 0 1 0 0 ∷ [], 24, pos 63, pos 1512) ∷
    (step_of 0 0 1 1 0 0 ∷ step_of 1 0 1 1 0 0 ∷ [], 48, pos 63, pos 3024) ∷
    (step_of 0 0 1 1 0 1 ∷ step_of 0 1 0 0 0 0 ∷ [], 36, pos 51, pos 1836) ∷
    (step_of 0 0 1 1 0 1 ∷ step_of 1 1 1 0 0 0 ∷ [], 72, pos 33, pos 2376) ∷
    (step_of 0 1 0 1 0 0 ∷ step_of 0 1 0 0 0 0 ∷ [], 81, neg_ℤ (pos 3), neg_ℤ (pos 243)) ∷
    (step_of 0 1 0 1 1 0 ∷ step_of 0 1 0 0 0 0 ∷ [], 27, neg_ℤ (pos 3), neg_ℤ (pos 81)) ∷
    (step_of 0 1 0 1 1 0 ∷ step_of 1 1 1 0 0 0 ∷ [], 54, neg_ℤ (pos 21), neg_ℤ (pos 1134)) ∷
    (step_of 1 0 1 0 0 0 ∷ step_of 0 0 0 0 0 0 ∷ [], 54, pos 30, pos 1620) ∷
    (step_of 1 0 1 0 0 0 ∷ step_of 0 0 1 1 0 0 ∷ [], 108, pos 30, pos 3240) ∷
    (step_of 1 1 0 0 0 0 ∷ step_of 0 1 0 1 0 0 ∷ [], 54, pos 12, pos 648) ∷
    (step_of 1 1 1 0 0 0 ∷ step_of 0 1 0 1 0 0 ∷ [], 27, pos 12, pos 324) ∷
    []
from_state_0 = refl

from_state_1 : counted 1 ≡
    (step_of 0 0 1 1 0 0 ∷ step_of 0 0 1 1 0 0 ∷ [], 54, neg_ℤ (pos 60), neg_ℤ (pos 3240)) ∷
    (step_of 0 0 1 1 0 0 ∷ step_of 1 0 0 1 0 0 ∷ [], 36, neg_ℤ (pos 18), neg_ℤ (pos 648)) ∷
    (step_of 0 0 1 1 0 0 ∷ step_of 1 0 1 1 0 0 ∷ [], 72, neg_ℤ (pos 18), neg_ℤ (pos 1296)) ∷
    (step_of 0 0 1 1 0 1 ∷ step_of 0 1 0 0 0 0 ∷ [], 54, neg_ℤ (pos 30), neg_ℤ (pos 1620)) ∷
    (step_of 0 0 1 1 0 1 ∷ step_of 1 1 1 0 0 0 ∷ [], 108, neg_ℤ (pos 48), neg_ℤ (pos 5184)) ∷
    (step_of 0 1 0 0 0 0 ∷ step_of 0 1 0 1 0 0 ∷ [], 81, pos 3, pos 243) ∷
    (step_of 0 1 0 0 1 0 ∷ step_of 0 1 0 1 0 0 ∷ [], 27, pos 3, pos 81) ∷
    (step_of 0 1 0 0 1 0 ∷ step_of 1 1 0 0 0 0 ∷ [], 36, pos 21, pos 756) ∷
    (step_of 0 1 0 0 1 0 ∷ step_of 1 1 1 0 0 0 ∷ [], 18, pos 21, pos 378) ∷
    (step_of 1 0 0 1 0 0 ∷ step_of 0 0 1 1 0 0 ∷ [], 27, pos 3, pos 81) ∷
    (step_of 1 0 0 1 0 1 ∷ step_of 0 1 0 0 0 0 ∷ [], 27, pos 33, pos 891) ∷
    (step_of 1 0 1 1 0 0 ∷ step_of 0 0 1 1 0 0 ∷ [], 54, pos 3, pos 162) ∷
    (step_of 1 0 1 1 0 1 ∷ step_of 0 1 0 0 0 0 ∷ [], 54, pos 33, pos 1782) ∷
    (step_of 1 1 1 0 0 0 ∷ step_of 0 1 0 1 0 0 ∷ [], 81, neg_ℤ (pos 24), neg_ℤ (pos 1944)) ∷
    []
from_state_1 = refl

-- the weights sum to (3 * 3 * 3)^2
weights_0 : sum_by (play_weight game 2 0 own informed) (plays game 2 own informed) ≡ 729
weights_0 = refl

weights_1 : sum_by (play_weight game 2 1 own informed) (plays game 2 own informed) ≡ 729
weights_1 = refl

-- the sums of the last column
pay_0 : pay game 2 0 own informed ≡ pos 20898
pay_0 = refl

pay_1 : pay game 2 1 own informed ≡ neg_ℤ (pos 9558)
pay_1 = refl

-- Against the same plan, always to play action 0 pays 6 * 75 + 12 * 75 + 18 * 21 + 18 * 51 - 27 * 3 from the state 0.
always_pay_0 : pay game 2 0 (always 0 2) informed ≡ pos 2565
always_pay_0 = refl

-- a property of both numbers below 2
both : (P : ℕ → Type 0) → P 0 → P 1 → (i : ℕ) → i < 2 → P i
both P p q zero l = p
both P p q (suc zero) l = q
both P p q (suc (suc i)) l = absurd (omega arith)

-- So the premises of the laws hold here: the rows are full, and both plans are right plans of total 3.
full : RowsAreFull game
full s a c ls la lc =
    let row = λ (s a c : ℕ). sum_by (λ o. sum_by (λ t. game.weight s a c o t) (below 2)) (below 2) ≡ 3 in
    both (λ s. row s a c)
    (both (λ a. row 0 a c) (both (λ c. row 0 0 c) refl refl c lc) (both (λ c. row 0 1 c) refl refl c lc) a la)
    (both (λ a. row 1 a c) (both (λ c. row 1 0 c) refl refl c lc) (both (λ c. row 1 1 c) refl refl c lc) a la)
    s ls

own_stage-right : (first second : ℕ) → first + second ≡ 3 → IsOwnPlan game 3 1 (own_stage first second)
own_stage-right first second sums = record {
  some = omega arith;
  part = λ a. cond (a == 0) first second;
  same = λ a o la lo. omega arith;
  sums = omega arith;
  rest = λ a o la lo. (tt, tt);
}

own-right : IsOwnPlan game 3 2 own
own-right =
    let enough : 1 ≤ 3 = omega arith in
    let alone = own_stage-right 3 0 refl in
    let mixed = own_stage-right 1 2 refl in
    let part = λ (a : ℕ). cond (a == 0) 2 1 in
    let right = λ (a o : ℕ). AllByRecursion (λ branch. IsOwnPlan game 3 1 branch.1) (own a o) in
    record {
      some = enough;
      part = part;
      same = λ a o la lo.
          both (λ a. branches_total (own a o) ≡ part a) (both (λ o. branches_total (own 0 o) ≡ 2) refl refl o lo) refl a la;
      sums = refl;
      rest = λ a o la lo.
          both (λ a. right a o) (both (λ o. right 0 o) (alone, (mixed, tt)) (mixed, tt) o lo) (alone, tt) a la;
    }

informed_stage-right : (first second : ℕ) → first + second ≡ 3 → IsInformedPlan game 3 1 (informed_stage first second)
informed_stage-right first second sums = record {
  some = omega arith;
  part = λ c. cond (c == 0) first second;
  same = λ c a o t lc la lo lt. omega arith;
  sums = omega arith;
  rest = λ c a o t lc la lo lt. (tt, tt);
}

informed-right : IsInformedPlan game 3 2 informed
informed-right =
    let enough : 1 ≤ 3 = omega arith in
    let first = informed_stage-right 3 0 refl in
    let second = informed_stage-right 0 3 refl in
    let part = λ (c : ℕ). cond (c == 0) 2 1 in
    let right = λ (c a o t : ℕ). AllByRecursion (λ branch. IsInformedPlan game 3 1 branch.1) (informed c a o t) in
    record {
      some = enough;
      part = part;
      same = λ c a o t lc la lo lt.
          both (λ c. branches_total (informed c a o t) ≡ part c) (both (λ t. branches_total (informed 0 a o t) ≡ 2) refl refl t lt) refl c lc;
      sums = refl;
      rest = λ c a o t lc la lo lt.
          both (λ c. right c a o t) (both (λ t. right 0 a o t) (first, tt) (first, (second, tt)) t lt) (second, tt) c lc;
    }
