-- Sums over the first numbers, step by step, and how large entries grow.
use Rattle.std.proofs.Common.{◌≡◌, ℕ, zero, suc, ◌+◌, ◌*◌, ◌^◌, ◌<◌, ◌≤◌, List, [], length, get_or, ap, arith, sym, ◌∙◌, add-one}
use Rattle.std.specs.Prelude.{ℤ, pos, ◌+ℤ◌, unsigned_abs, sum_by}
use Rattle.std.specs.List.{AllByRecursion, range_with_len}
use Rattle.std.proofs.lemmas.Int.{ints}
use Rattle.std.proofs.lemmas.Nat.{mul-le}
use Rattle.std.proofs.Math.Nat.{mul-le-mul_right}
use Rattle.scaled_num.proofs.Sums.{each-at}
use Rattle.std.proofs.lemmas.List.Sums.{sum_by-cons}
use Rattle.scaled_num.specs.Sums.{below}
use Rattle.game_model.specs.Game.{GameData, IsGame, IsWithin, row_at, weight_in}
use Rattle.belief.specs.Beliefs.{mix_weight, weight_at}
use Rattle.belief.specs.Masses.{AreBelow, from_state}
use Rattle.belief.specs.Mixes.{AreMixes, MixesData, mix_at}
use Rattle.belief.proofs.Landings.{weight-light}

sum-range-more : (f : ℕ → ℕ) (a n : ℕ) → sum_by f (range_with_len a (suc n)) ≡ sum_by f (range_with_len a n) + f (a + n)
sum-range-more f a zero = sum_by-cons f a [] ∙ omega (arith, ap f (same a))
  where
    same : (a : ℕ) → a ≡ a + 0
    same a = omega arith
sum-range-more f a (suc n) =
    sum_by-cons f a (range_with_len (a + 1) (suc n))
    ∙ ap (λ (k : ℕ). f a + k) (sum-range-more f (a + 1) n)
    ∙ omega (arith, sum_by-cons f a (range_with_len (a + 1) n), ap f (same a n))
  where
    same : (a n : ℕ) → a + 1 + n ≡ a + suc n
    same a n = omega arith

pub sum-below-more : (f : ℕ → ℕ) (n : ℕ) → sum_by f (below (n + 1)) ≡ sum_by f (below n) + f n
sum-below-more f n = rw (add-one n) (sum-range-more f 0 n ∙ ap (λ (k : ℕ). sum_by f (below n) + f k) (same n))
  where
    same : (n : ℕ) → 0 + n ≡ n
    same n = omega arith

sum-range-most : (f : ℕ → ℕ) (a n most : ℕ) → ((i : ℕ) → a ≤ i → i < a + n → f i ≤ most) → sum_by f (range_with_len a n) ≤ n * most
sum-range-most f a zero most h = omega arith
sum-range-most f a (suc n) most h = omega (arith, sum_by-cons f a (range_with_len (a + 1) n), h a (omega arith) (omega arith), sum-range-most f (a + 1) n most (λ i l m. h i (omega arith) (omega arith)))

pub sum-below-most : (f : ℕ → ℕ) (n most : ℕ) → ((i : ℕ) → i < n → f i ≤ most) → sum_by f (below n) ≤ n * most
sum-below-most f n most h = sum-range-most f 0 n most (λ i l m. h i (omega arith))

-- entries that grew by so much
pub grown : (old out : List ℤ) (f : ℕ → ℕ) (m n k : ℕ) → length out ≡ length old → AreBelow (pos m) old →
    ((t : ℕ) → t < length out → get_or out t (pos 0) ≡ get_or old t (pos 0) +ℤ pos (f t)) → ((t : ℕ) → f t ≤ n) → m + n ≤ k → AreBelow (pos k) out
grown old out f m n k same room is most fits t l =
    let low = (room t (omega arith)).0 in
    let high = (room t (omega arith)).1 in
    (omega (arith, ints, is t l), omega (arith, ints, is t l, most t))

pub magnitude-small : (x : ℤ) (n : ℕ) → IsWithin (pos 0) (pos n) x → unsigned_abs x ≤ n
magnitude-small x n h = let low = h.0 in let high = h.1 in omega (arith, ints)

pub triple-small : (w m v : ℕ) → w ≤ 2 ^ 20 → m ≤ 65536 → v ≤ 2 ^ 30 → w * m * v ≤ 2 ^ 66
triple-small w m v lw lm lv = mul-le (w * m) v (2 ^ 36) (2 ^ 30) (mul-le w m (2 ^ 20) 65536 lw lm) lv

pub from_state-small : (g : GameData) → IsGame g → (mixes : MixesData) (weight s a o t n : ℕ) → weight ≤ 2 ^ 20 → s < g.shape.states → a < g.shape.own_actions → n ≤ g.shape.informed_actions →
    ((c : ℕ) → c < n → mix_weight mixes s c ≤ 65536) →
    sum_by (λ c. weight * mix_weight mixes s c * weight_in (row_at g s a c) o t) (below n) ≤ 6 * 2 ^ 66
from_state-small g h mixes weight s a o t n lw ls la lc light =
    let few = h.shape.informed_actions.1 in
    let upto = sum-below-most (λ c. weight * mix_weight mixes s c * weight_in (row_at g s a c) o t) n (2 ^ 66) (λ c l.
    triple-small weight (mix_weight mixes s c) (weight_in (row_at g s a c) o t) lw (light c l) (weight-light g h s a c o t ls la (omega arith))) in
    omega arith

-- a state of no weight brings nothing
pub from-none : (g : GameData) (mixes : MixesData) (s a o t : ℕ) → from_state g mixes 0 s a o t ≡ 0
from-none g mixes s a o t = let upto = sum-below-most (λ c. 0 * mix_weight mixes s c * weight_in (row_at g s a c) o t) g.shape.informed_actions 0 (λ c l. omega arith) in omega arith

-- a weight of mixes
pub mix-small : (mixes : MixesData) → AreMixes mixes → (s c : ℕ) → s < mixes.states → c < mixes.actions → mix_weight mixes s c ≤ 65536
mix-small mixes h s c ls lc =
    let up : suc s * mixes.actions ≤ mixes.states * mixes.actions = mul-le-mul_right mixes.actions ls in
    magnitude-small (mix_at mixes s c) 65536 (each-at (IsWithin (pos 0) (pos 65536)) (pos 0) mixes.weights (s * mixes.actions + c) h.each (omega (arith, h.long)))

-- one more informed action
pub next-action : (z : ℤ) (f : ℕ → ℕ) (n w m v : ℕ) → f n ≡ w * m * v → z +ℤ pos (sum_by f (below n)) +ℤ pos (w * m * v) ≡ z +ℤ pos (sum_by f (below (n + 1)))
next-action z f n w m v e = omega (arith, ints, sum-below-more f n)

pub weight-small : (parts : List ℤ) (s : ℕ) → AllByRecursion (IsWithin (pos 0) (pos (2 ^ 20))) parts → s < length parts → weight_at parts s ≤ 2 ^ 20
weight-small parts s h l = magnitude-small (get_or parts s (pos 0)) (2 ^ 20) (each-at (IsWithin (pos 0) (pos (2 ^ 20))) (pos 0) parts s h l)

-- the masses of the first states
pub mass-small : (g : GameData) → IsGame g → (parts : List ℤ) (mixes : MixesData) (a o t n : ℕ) → AllByRecursion (IsWithin (pos 0) (pos (2 ^ 20))) parts → length parts ≡ g.shape.states →
    AreMixes mixes → mixes.states ≡ g.shape.states → mixes.actions ≡ g.shape.informed_actions → a < g.shape.own_actions → n ≤ g.shape.states →
    sum_by (λ s. from_state g mixes (weight_at parts s) s a o t) (below n) ≤ 2 ^ 80
mass-small g h parts mixes a o t n each long right states actions la ln =
    let few = h.shape.states.1 in
    let upto = sum-below-most (λ s. from_state g mixes (weight_at parts s) s a o t) n (6 * 2 ^ 66) (λ s l.
    from_state-small g h mixes (weight_at parts s) s a o t g.shape.informed_actions (weight-small parts s each (omega arith)) (omega arith) la (omega arith)
    (λ c k. mix-small mixes right s c (omega arith) (omega arith))) in
    omega arith

-- one more state
pub next-state : (f : ℕ → ℕ) (n : ℕ) → pos (sum_by f (below n)) +ℤ pos (f n) ≡ pos (sum_by f (below (n + 1)))
next-state f n = ap pos (sym (sum-below-more f n))
