-- What one stage and the old entries are worth, and how large it is.
use Rattle.std.proofs.Common.{◌≡◌, ℕ, zero, suc, ◌+◌, ◌-◌, ◌*◌, ◌/◌, ◌^◌, ◌<◌, ◌≤◌, max, List, [], ◌∷◌, get_or, refl, ap, arith, sym, subst, ◌∙◌}
use Rattle.std.specs.Prelude.{ℤ, pos, ◌+ℤ◌, ◌*ℤ◌, ◌≤ℤ◌, ◌<ℤ◌, unsigned_abs, FitsSigned, sum_by, fold}
use Rattle.std.specs.List.{AllByRecursion}
use Rattle.std.specs.Int.{w128}
use Rattle.std.proofs.Math.Nat.{mul-le-mul_left, mul-le-mul_right}
use Rattle.std.proofs.lemmas.Int.{ints, fits_signed_from_abs, unsigned_abs-mul}
use Rattle.std.proofs.lemmas.Nat.{div_below, mul-le}
use Rattle.std.proofs.lemmas.List.Sums.{sum_by-cons}
use Rattle.scaled_num.specs.Sums.{total}
use Rattle.scaled_num.proofs.Sums.{total-same, each-at}
use Rattle.game_model.specs.Numbers.{over_row}
use Rattle.game_model.specs.Game.{GameData, IsGame, IsLanding, IsRewardInRange, reward_at, row_at, numbers, span, unit, greatest_reward}
use Rattle.game_model.specs.Seeds.{stage_worth}
use Rattle.game_model.specs.Bounds.{IsBounded, IsWithinSpan, IsWorthWithin}
use Rattle.game_model.specs.declared.parts.Landing.{Landing}
use Rattle.game_model.proofs.Pay.{each-from}
use Rattle.game_model.proofs.Rows.{row-landings}
use Rattle.game_model.proofs.Width.{reward_small}
use Rattle.game_model.proofs.Games.{row-in, reward-in, row-weights, weight-abs, keeps-span}
use Rattle.scaled_num.proofs.Products.{abs-add, magnitude-is}

-- a sum is no larger than the sum of bounds
pub total-bound : {X : Type 0} (f : X → ℤ) (w : X → ℕ) (most : ℕ) (xs : List X) → AllByRecursion (λ x. unsigned_abs (f x) ≤ w x * most) xs → unsigned_abs (total f xs) ≤ sum_by w xs * most
total-bound f w most [] h = omega arith
total-bound f w most (x ∷ xs) h =
    rw (sum_by-cons w x xs) (omega (arith, abs-add (f x) (total f xs), h.0, total-bound f w most xs h.1))

-- the span is no more than 2^66
pub ceil-small : (n room : ℕ) → 1 ≤ room → (n + room - 1) / room ≤ n
ceil-small n room some = let below = div_below (n + room - 1) room (suc n) some (omega (arith, mul-le-mul_left n some)) in omega arith

greatest-small : (rewards : List ℤ) (n : ℕ) → n ≤ 2 ^ 30 → AllByRecursion IsRewardInRange rewards → fold (λ most r. max most (unsigned_abs r)) n rewards ≤ 2 ^ 30
greatest-small [] n l h = l
greatest-small (r ∷ rs) n l h = greatest-small rs (max n (unsigned_abs r)) (omega (arith, reward_small r h.0)) h.1

pub span-small : (g : GameData) → IsGame g → span g ≤ 2 ^ 66
span-small g h =
    let p = h.shape.discount.0 in
    let q = h.shape.discount.1 in
    let r = h.shape.discount.2 in
    let under : ℕ = unsigned_abs g.shape.discount.1 in
    let some : 1 ≤ under - unsigned_abs g.shape.discount.0 = omega (arith, ints) in
    let low : under ≤ 2 ^ 20 = omega (arith, ints) in
    let most : greatest_reward g ≤ 2 ^ 30 = greatest-small g.rewards 0 (omega arith) (each-from _ IsRewardInRange g.rewards (λ x i. i.0) h.rewards) in
    let n : unit * greatest_reward g * under ≤ 2 ^ 66 = mul-le (unit * greatest_reward g) under (2 ^ 46) (2 ^ 20) (omega arith) low in
    omega (arith, ceil-small (unit * greatest_reward g * under) (under - unsigned_abs g.shape.discount.0) some)

-- a sum over a row is a sum over its landings
pub stage-sum : (g : GameData) → IsGame g → (s a c : ℕ) → s < g.shape.states → a < g.shape.own_actions → c < g.shape.informed_actions → (old : ℕ → ℤ) →
    over_row (numbers g) s a c (λ o t. old t) ≡ total (λ (l : Landing). l.weight *ℤ old l.to) (row_at g s a c)
stage-sum g h s a c ls la lc old =
    let row = row-in g h s a c ls la lc in
    row-landings (λ (l : Landing). l.seen) (λ (l : Landing). l.to) (λ (l : Landing). unsigned_abs l.weight) g.shape.states g.shape.observations (row_at g s a c) (λ o t. old t)
    (each-from (IsLanding g.shape) _ (row_at g s a c) (λ l i. (i.seen, i.to)) row.each)
    ∙ total-same (λ (l : Landing). pos (unsigned_abs l.weight) *ℤ old l.to) (λ (l : Landing). l.weight *ℤ old l.to) (row_at g s a c)
    (each-from (IsLanding g.shape) _ (row_at g s a c) (λ l i. ap (λ (z : ℤ). z *ℤ old l.to) (sym (weight-abs l.weight i.weight.0))) row.each)

pub row-sum-bound : (g : GameData) → IsGame g → (s a c : ℕ) → s < g.shape.states → a < g.shape.own_actions → c < g.shape.informed_actions → (old : List ℤ) → IsBounded g old →
    unsigned_abs (total (λ (l : Landing). l.weight *ℤ get_or old l.to (pos 0)) (row_at g s a c)) ≤ unsigned_abs g.shape.row_total * span g
row-sum-bound g h s a c ls la lc old bounded =
    let row = row-in g h s a c ls la lc in
    subst (λ (n : ℕ). unsigned_abs (total (λ (l : Landing). l.weight *ℤ get_or old l.to (pos 0)) (row_at g s a c)) ≤ n * span g) (row-weights g.shape (row_at g s a c) row)
    (total-bound (λ (l : Landing). l.weight *ℤ get_or old l.to (pos 0)) (λ (l : Landing). unsigned_abs l.weight) (span g) (row_at g s a c)
    (each-from (IsLanding g.shape) _ (row_at g s a c) (λ l i.
    rw (unsigned_abs-mul l.weight (get_or old l.to (pos 0))) (mul-le-mul_left (unsigned_abs l.weight)
    (each-at (IsWithinSpan g) (pos 0) old l.to bounded.each (subst (λ (n : ℕ). l.to < n) (sym bounded.long) i.to)))) row.each))

product : (x y : ℤ) → pos 0 ≤ℤ x → pos 0 ≤ℤ y → x *ℤ y ≡ pos (unsigned_abs x * unsigned_abs y)
product x y h k = rw (magnitude-is x h, magnitude-is y k) refl

-- the worth as the code finds it
abbrev pub found : GameData → ℤ → ℤ → ℤ
found g r sum = (pos 65536 *ℤ r) *ℤ (g.shape.row_total *ℤ g.shape.discount.1) +ℤ g.shape.discount.0 *ℤ sum

pub found-is : (g : GameData) → IsGame g → (s a c : ℕ) → s < g.shape.states → a < g.shape.own_actions → c < g.shape.informed_actions → (old : List ℤ) →
    found g (reward_at g s a c) (total (λ (l : Landing). l.weight *ℤ get_or old l.to (pos 0)) (row_at g s a c)) ≡ stage_worth (numbers g) a (λ t. get_or old t (pos 0)) s c
found-is g h s a c ls la lc old =
    let p = h.shape.discount.0 in
    let q = h.shape.discount.1 in
    let d = h.shape.row_total.0 in
    let r : ℤ = reward_at g s a c in
    let sum : ℤ = total (λ (l : Landing). l.weight *ℤ get_or old l.to (pos 0)) (row_at g s a c) in
    let whole : ℤ = g.shape.row_total in
    let over : ℤ = g.shape.discount.0 in
    let under : ℤ = g.shape.discount.1 in
    ap (λ (z : ℤ). (pos 65536 *ℤ r) *ℤ z +ℤ over *ℤ sum) (product whole under (omega (arith, ints)) (omega (arith, ints)))
    ∙ ap (λ (z : ℤ). (pos 65536 *ℤ r) *ℤ pos (unsigned_abs whole * unsigned_abs under) +ℤ z *ℤ sum) (magnitude-is over p)
    ∙ ap (λ (z : ℤ). (pos 65536 *ℤ r) *ℤ pos (unsigned_abs whole * unsigned_abs under) +ℤ pos (unsigned_abs over) *ℤ z) (sym (stage-sum g h s a c ls la lc (λ t. get_or old t (pos 0))))

-- in plain numbers: span S, room k, over P, row total D, and what is earned at once
within-plain : (S k P D Q R W : ℕ) → R ≤ S * k → W ≤ D * S → k + P ≡ Q → R * D + P * W ≤ S * D * Q
within-plain S k P D Q R W h w e =
    let first : R * D ≤ S * k * D = mul-le-mul_right D h in
    let second : P * W ≤ P * (D * S) = mul-le-mul_left P w in
    subst (λ (q : ℕ). R * D + P * W ≤ S * D * q) e (omega arith)

pub found-within : (g : GameData) → IsGame g → (s a c : ℕ) → s < g.shape.states → a < g.shape.own_actions → c < g.shape.informed_actions → (sum : ℤ) →
    unsigned_abs sum ≤ unsigned_abs g.shape.row_total * span g → IsWorthWithin g (found g (reward_at g s a c) sum)
found-within g h s a c ls la lc sum bound =
    let p = h.shape.discount.0 in
    let q = h.shape.discount.1 in
    let r : ℤ = reward_at g s a c in
    let whole : ℤ = g.shape.row_total in
    let over : ℤ = g.shape.discount.0 in
    let under : ℤ = g.shape.discount.1 in
    let keeps = keeps-span g h in
    let earned : unsigned_abs ((pos 65536 *ℤ r) *ℤ (whole *ℤ under)) ≡ unit * unsigned_abs r * (unsigned_abs whole * unsigned_abs under) =
    unsigned_abs-mul (pos 65536 *ℤ r) (whole *ℤ under) ∙ rw (unsigned_abs-mul (pos 65536) r, unsigned_abs-mul whole under) refl in
    let later : unsigned_abs (over *ℤ sum) ≡ unsigned_abs over * unsigned_abs sum = unsigned_abs-mul over sum in
    let plain = within-plain (span g) (unsigned_abs under - unsigned_abs over) (unsigned_abs over) (unsigned_abs whole) (unsigned_abs under) (unit * unsigned_abs r * unsigned_abs under) (unsigned_abs sum)
    (keeps.rewards s a c ls la lc) bound (omega (arith, ints)) in
    omega (arith, abs-add ((pos 65536 *ℤ r) *ℤ (whole *ℤ under)) (over *ℤ sum))

-- what the code forms on the way fits
pub record FoundFits (g : GameData) (r sum : ℤ) : Type 0 where
  pub whole : FitsSigned w128 g.shape.row_total
  pub over : FitsSigned w128 g.shape.discount.0
  pub under : FitsSigned w128 g.shape.discount.1
  pub reward : FitsSigned w128 r
  pub sum_fits : FitsSigned w128 sum
  pub units : FitsSigned w128 (pos 65536 *ℤ r)
  pub divisor : FitsSigned w128 (g.shape.row_total *ℤ g.shape.discount.1)
  pub earned : FitsSigned w128 ((pos 65536 *ℤ r) *ℤ (g.shape.row_total *ℤ g.shape.discount.1))
  pub later : FitsSigned w128 (g.shape.discount.0 *ℤ sum)
  pub all : FitsSigned w128 (found g r sum)

pub found-fits : (g : GameData) → IsGame g → (s a c : ℕ) → s < g.shape.states → a < g.shape.own_actions → c < g.shape.informed_actions → (sum : ℤ) →
    unsigned_abs sum ≤ unsigned_abs g.shape.row_total * span g → FoundFits g (reward_at g s a c) sum
found-fits g h s a c ls la lc sum bound =
    let p = h.shape.discount.0 in
    let q = h.shape.discount.1 in
    let u = h.shape.discount.2 in
    let d = h.shape.row_total.0 in
    let e = h.shape.row_total.1 in
    let r : ℤ = reward_at g s a c in
    let whole : ℤ = g.shape.row_total in
    let over : ℤ = g.shape.discount.0 in
    let under : ℤ = g.shape.discount.1 in
    let r_size : unsigned_abs r ≤ 2 ^ 30 = reward_small r (reward-in g h s a c ls la lc).0 in
    let d_size : unsigned_abs whole ≤ 2 ^ 30 = omega (arith, ints) in
    let p_size : unsigned_abs over ≤ 2 ^ 20 = omega (arith, ints) in
    let q_size : unsigned_abs under ≤ 2 ^ 20 = omega (arith, ints) in
    let sum_size : unsigned_abs sum ≤ 2 ^ 96 = omega (arith, bound, mul-le (unsigned_abs whole) (span g) (2 ^ 30) (2 ^ 66) d_size (span-small g h)) in
    let units_size : unsigned_abs (pos 65536 *ℤ r) ≤ 2 ^ 46 = rw (unsigned_abs-mul (pos 65536) r) (omega arith) in
    let divisor_size : unsigned_abs (whole *ℤ under) ≤ 2 ^ 50 = rw (unsigned_abs-mul whole under) (mul-le (unsigned_abs whole) (unsigned_abs under) (2 ^ 30) (2 ^ 20) d_size q_size) in
    let earned_size : unsigned_abs ((pos 65536 *ℤ r) *ℤ (whole *ℤ under)) ≤ 2 ^ 96 =
    rw (unsigned_abs-mul (pos 65536 *ℤ r) (whole *ℤ under)) (mul-le (unsigned_abs (pos 65536 *ℤ r)) (unsigned_abs (whole *ℤ under)) (2 ^ 46) (2 ^ 50) units_size divisor_size) in
    let later_size : unsigned_abs (over *ℤ sum) ≤ 2 ^ 116 = rw (unsigned_abs-mul over sum) (mul-le (unsigned_abs over) (unsigned_abs sum) (2 ^ 20) (2 ^ 96) p_size sum_size) in
    record {
      whole = fits_signed_from_abs w128 whole (omega arith);
      over = fits_signed_from_abs w128 over (omega arith);
      under = fits_signed_from_abs w128 under (omega arith);
      reward = fits_signed_from_abs w128 r (omega arith);
      sum_fits = fits_signed_from_abs w128 sum (omega arith);
      units = fits_signed_from_abs w128 (pos 65536 *ℤ r) (omega arith);
      divisor = fits_signed_from_abs w128 (whole *ℤ under) (omega arith);
      earned = fits_signed_from_abs w128 ((pos 65536 *ℤ r) *ℤ (whole *ℤ under)) (omega arith);
      later = fits_signed_from_abs w128 (over *ℤ sum) (omega arith);
      all = fits_signed_from_abs w128 (found g r sum) (omega (arith, abs-add ((pos 65536 *ℤ r) *ℤ (whole *ℤ under)) (over *ℤ sum)));
    }

-- the divisor D * Q
pub record DivisorFits (g : GameData) : Type 0 where
  pub whole : FitsSigned w128 g.shape.row_total
  pub under : FitsSigned w128 g.shape.discount.1
  pub divisor : FitsSigned w128 (g.shape.row_total *ℤ g.shape.discount.1)

pub divisor-is : (g : GameData) → IsGame g → g.shape.row_total *ℤ g.shape.discount.1 ≡ pos (unsigned_abs g.shape.row_total * unsigned_abs g.shape.discount.1)
divisor-is g h =
    let d = h.shape.row_total.0 in
    let p = h.shape.discount.0 in
    let q = h.shape.discount.1 in
    product g.shape.row_total g.shape.discount.1 (omega (arith, ints)) (omega (arith, ints))

pub divisor-fits : (g : GameData) → IsGame g → DivisorFits g
divisor-fits g h =
    let p = h.shape.discount.0 in
    let q = h.shape.discount.1 in
    let u = h.shape.discount.2 in
    let d = h.shape.row_total.0 in
    let e = h.shape.row_total.1 in
    let whole : ℤ = g.shape.row_total in
    let under : ℤ = g.shape.discount.1 in
    let d_size : unsigned_abs whole ≤ 2 ^ 30 = omega (arith, ints) in
    let q_size : unsigned_abs under ≤ 2 ^ 20 = omega (arith, ints) in
    let size : unsigned_abs (whole *ℤ under) ≤ 2 ^ 50 = rw (unsigned_abs-mul whole under) (mul-le (unsigned_abs whole) (unsigned_abs under) (2 ^ 30) (2 ^ 20) d_size q_size) in
    record {
      whole = fits_signed_from_abs w128 whole (omega arith);
      under = fits_signed_from_abs w128 under (omega arith);
      divisor = fits_signed_from_abs w128 (whole *ℤ under) (omega arith);
    }

positive : (x y : ℕ) → 1 ≤ x → 1 ≤ y → pos 0 <ℤ (pos (x * y))
positive (suc x) (suc y) h k = omega (arith, ints)
positive zero y h k = absurd (omega arith)
positive (suc x) zero h k = absurd (omega arith)

pub divisor-positive : (g : GameData) → IsGame g → pos 0 <ℤ (g.shape.row_total *ℤ g.shape.discount.1)
divisor-positive g h =
    let d = h.shape.row_total.0 in
    let p = h.shape.discount.0 in
    let q = h.shape.discount.1 in
    subst (λ (z : ℤ). pos 0 <ℤ z) (sym (divisor-is g h)) (positive (unsigned_abs g.shape.row_total) (unsigned_abs g.shape.discount.1) (omega (arith, ints)) (omega (arith, ints)))
