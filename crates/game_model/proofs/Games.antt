-- What an accepted game keeps at each triple, and what its numbers keep.
use Rattle.std.proofs.Common.{◌≡◌, ℕ, zero, suc, ◌+◌, ◌-◌, ◌*◌, ◌/◌, ◌<◌, ◌≤◌, max, List, [], ◌∷◌, length, get_or, ap, arith, sym, subst, ◌∙◌, refl}
use Rattle.std.specs.Prelude.{ℤ, pos, ◌≤ℤ◌, unsigned_abs, sum_by, fold}
use Rattle.std.specs.List.{AllByRecursion}
use Rattle.std.proofs.Math.Nat.{mul-le-mul_right, mul-le-mul_left}
use Rattle.std.proofs.lemmas.Int.{ints}
use Rattle.std.proofs.lemmas.Nat.{div-add-mod', mod_below}
use Rattle.scaled_num.proofs.Sums.{total-same, total-pos, each-at}
use Rattle.game_model.specs.Numbers.{RowsAreFull}
use Rattle.game_model.specs.Game.{GameData, IsGame, IsLanding, IsRow, IsRewardInRange, IsNarrow, unit, triple, triples, reward_at, row_at, row_sum, numbers, span, greatest_reward}
use Rattle.game_model.specs.Seeds.{KeepsSpan}
use Rattle.game_model.specs.declared.parts.Landing.{Landing}
use Rattle.game_model.specs.declared.parts.Shape.{Shape}
use Rattle.game_model.proofs.Pay.{each-from}
use Rattle.game_model.proofs.Rows.{row-full}

-- the place of a triple in range
pub triple-lt : (S A C s a c : ℕ) → s < S → a < A → c < C → (s * A + a) * C + c < S * A * C
triple-lt S A C s a c ls la lc =
    let x : suc s * A ≤ S * A = mul-le-mul_right A ls in
    let y : suc (s * A + a) ≤ S * A = omega arith in
    let z : suc (s * A + a) * C ≤ S * A * C = mul-le-mul_right C y in
    omega arith

pub place-lt : (shape : Shape) (s a c : ℕ) → s < shape.states → a < shape.own_actions → c < shape.informed_actions → triple shape s a c < triples shape
place-lt shape s a c ls la lc = triple-lt shape.states shape.own_actions shape.informed_actions s a c ls la lc

-- the reward and the row of a triple in range
pub reward-in : (g : GameData) → IsGame g → (s a c : ℕ) → s < g.shape.states → a < g.shape.own_actions → c < g.shape.informed_actions →
    IsRewardInRange (reward_at g s a c) × IsNarrow g.shape (reward_at g s a c)
reward-in g h s a c ls la lc =
    each-at (λ r. IsRewardInRange r × IsNarrow g.shape r) (pos 0) g.rewards (triple g.shape s a c) h.rewards
    (subst (λ (n : ℕ). triple g.shape s a c < n) (sym h.rewards_count) (place-lt g.shape s a c ls la lc))

pub row-in : (g : GameData) → IsGame g → (s a c : ℕ) → s < g.shape.states → a < g.shape.own_actions → c < g.shape.informed_actions → IsRow g.shape (row_at g s a c)
row-in g h s a c ls la lc =
    each-at (IsRow g.shape) [] g.rows (triple g.shape s a c) h.rows
    (subst (λ (n : ℕ). triple g.shape s a c < n) (sym h.rows_count) (place-lt g.shape s a c ls la lc))

-- a sum of positive weights
pub weight-abs : (x : ℤ) → pos 1 ≤ℤ x → x ≡ pos (unsigned_abs x)
weight-abs (pos n) h = refl
weight-abs x h = omega (arith, ints)

pub row-sum-abs : (shape : Shape) (row : List Landing) → AllByRecursion (IsLanding shape) row → row_sum row ≡ pos (sum_by (λ (l : Landing). unsigned_abs l.weight) row)
row-sum-abs shape row each =
    total-same (λ (l : Landing). l.weight) (λ (l : Landing). pos (unsigned_abs l.weight)) row
    (each-from (IsLanding shape) (λ (l : Landing). l.weight ≡ pos (unsigned_abs l.weight)) row (λ l i. weight-abs l.weight i.weight.0) each)
    ∙ total-pos (λ (l : Landing). unsigned_abs l.weight) row

pub row-sum-low : (shape : Shape) (row : List Landing) → AllByRecursion (IsLanding shape) row → pos 0 ≤ℤ (row_sum row)
row-sum-low shape row each = subst (λ (x : ℤ). pos 0 ≤ℤ x) (sym (row-sum-abs shape row each)) (omega (arith, ints))

pub row-weights : (shape : Shape) (row : List Landing) → IsRow shape row → sum_by (λ (l : Landing). unsigned_abs l.weight) row ≡ unsigned_abs shape.row_total
row-weights shape row h = ap unsigned_abs (sym (row-sum-abs shape row h.each) ∙ h.sums)

rows-full : (g : GameData) → IsGame g → RowsAreFull (numbers g)
rows-full g h s a c ls la lc =
    let row = row-in g h s a c ls la lc in
    row-full (λ (l : Landing). l.seen) (λ (l : Landing). l.to) (λ (l : Landing). unsigned_abs l.weight) g.shape.states g.shape.observations (unsigned_abs g.shape.row_total) (row_at g s a c)
    (each-from (IsLanding g.shape) _ (row_at g s a c) (λ l i. (i.seen, i.to)) row.each) (row-weights g.shape (row_at g s a c) row)

-- a running maximum is no less than what it began with, and than each element
max-from : (rewards : List ℤ) (n : ℕ) → n ≤ fold (λ most r. max most (unsigned_abs r)) n rewards
max-from [] n = omega arith
max-from (r ∷ rs) n = omega (arith, max-from rs (max n (unsigned_abs r)))

pub max-bound : (rewards : List ℤ) (n i : ℕ) (d : ℤ) → i < length rewards → unsigned_abs (get_or rewards i d) ≤ fold (λ most r. max most (unsigned_abs r)) n rewards
max-bound [] n i d l = absurd (omega arith)
max-bound (r ∷ rs) n zero d l = omega (arith, max-from rs (max n (unsigned_abs r)))
max-bound (r ∷ rs) n (suc i) d l = max-bound rs (max n (unsigned_abs r)) i d (omega arith)

pub reward-bound : (g : GameData) → IsGame g → (s a c : ℕ) → s < g.shape.states → a < g.shape.own_actions → c < g.shape.informed_actions →
    unsigned_abs (reward_at g s a c) ≤ greatest_reward g
reward-bound g h s a c ls la lc =
    max-bound g.rewards 0 (triple g.shape s a c) (pos 0)
    (subst (λ (n : ℕ). triple g.shape s a c < n) (sym h.rewards_count) (place-lt g.shape s a c ls la lc))

-- a quotient rounded up
pub ceil-le : (n room : ℕ) → 1 ≤ room → n ≤ (n + room - 1) / room * room
ceil-le n room h =
    let whole = div-add-mod' (n + room - 1) room in
    let rest = mod_below (n + room - 1) room h in
    omega arith

pub keeps-span : (g : GameData) → IsGame g → KeepsSpan (numbers g) (span g)
keeps-span g h =
    let d = h.shape.row_total.0 in
    let p = h.shape.discount.0 in
    let q = h.shape.discount.1 in
    record {
      full = rows-full g h;
      whole = omega (arith, ints);
      discount = omega (arith, ints);
      informed = h.shape.informed_actions.0;
      rewards = λ s a c ls la lc.
          let under = unsigned_abs g.shape.discount.1 in
          let room = under - unsigned_abs g.shape.discount.0 in
          let some : 1 ≤ room = omega (arith, ints) in
          let most : unit * unsigned_abs (reward_at g s a c) * under ≤ unit * greatest_reward g * under =
          mul-le-mul_right under (mul-le-mul_left unit (reward-bound g h s a c ls la lc)) in
          omega (arith, ceil-le (unit * greatest_reward g * under) room some);
    }
