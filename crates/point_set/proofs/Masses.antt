-- All masses after an own action, and what shares count for at most.
use Rattle.std.proofs.Common.{◌≡◌, ℕ, zero, suc, ◌+◌, ◌*◌, ◌^◌, ◌<◌, ◌≤◌, List, [], ◌∷◌, get_or, ap, arith, sym, subst, ◌∙◌}
use Rattle.std.specs.Prelude.{ℤ, pos, ◌*ℤ◌, unsigned_abs, sum_by}
use Rattle.std.specs.List.{AllByRecursion, range_with_len}
use Rattle.std.proofs.Math.Nat.{mul-le-mul_left, mul-le-mul_right}
use Rattle.std.proofs.lemmas.Int.{ints, unsigned_abs-mul}
use Rattle.std.proofs.lemmas.List.Sums.{sum_by-cons}
use Rattle.scaled_num.specs.Sums.{below, total, sum_of}
use Rattle.scaled_num.proofs.Products.{mulℤ_comm, products, sums, magnitude-is}
use Rattle.scaled_num.proofs.Sums.{each, each-at, total-below, total-places, total-pos, total-same, total-swap, total-weights, sum_by-same}
use Rattle.game_model.specs.Numbers.{Numbers, RowsAreFull}
use Rattle.game_model.specs.Game.{IsBelief, IsWithin}
use Rattle.game_model.proofs.Steps.{total-row}
use Rattle.belief.specs.Beliefs.{mix_weight, weight_at}
use Rattle.belief.specs.Mixes.{AreMixes, MixesData, mix_at}
use Rattle.point_set.specs.Members.{brought, counted, counted_size}
use Rattle.point_set.specs.Points.{Point, mass}
use Rattle.game_model.specs.declared.branches.Branch.{Branch as ShareParts}

-- the sums over states and actions trade places with those over observations and next states
pub behind-two : {S C O T : Type 0} (f : S → C → O → T → ℤ) (ss : List S) (cs : List C) (os : List O) (ts : List T) →
    total (λ s. total (λ c. total (λ o. total (λ t. f s c o t) ts) os) cs) ss ≡ total (λ o. total (λ t. total (λ s. total (λ c. f s c o t) cs) ss) ts) os
behind-two f ss cs os ts =
    total-same _ _ ss (each (λ s.
    total-swap (λ c o. total (λ t. f s c o t) ts) cs os
    ∙ total-same _ _ os (each (λ o. total-swap (λ c t. f s c o t) cs ts) os)) ss)
    ∙ total-swap (λ s o. total (λ t. total (λ c. f s c o t) cs) ts) ss os
    ∙ total-same _ _ os (each (λ o. total-swap (λ s t. total (λ c. f s c o t) cs) ss ts) os)

pub mass-total : (g : Numbers) (point : Point) (a o t : ℕ) (y : ℤ) →
    total (λ s. total (λ c. pos (point.belief s * point.mixes s c * g.weight s a c o t) *ℤ y) (below g.informed_actions)) (below g.states) ≡ pos (mass g point a o t) *ℤ y
mass-total g point a o t y =
    total-below g.states _ _ (λ s ls. total-weights (λ c. point.belief s * point.mixes s c * g.weight s a c o t) y (below g.informed_actions))
    ∙ total-weights (λ s. sum_by (λ c. point.belief s * point.mixes s c * g.weight s a c o t) (below g.informed_actions)) y (below g.states)

pub masses-total : (g : Numbers) (m : ℕ) (point : Point) → RowsAreFull g → ((s : ℕ) → s < g.states → sum_by (point.mixes s) (below g.informed_actions) ≡ m) → (a : ℕ) → a < g.own_actions →
    total (λ o. total (λ t. pos (mass g point a o t)) (below g.states)) (below g.observations) ≡ pos (g.row_total * m * sum_by point.belief (below g.states))
masses-total g m point full mixes a la =
    total-below g.observations _ _ (λ o lo. total-below g.states _ _ (λ t lt. once (pos (mass g point a o t)) ∙ sym (mass-total g point a o t (pos 1))))
    ∙ sym (behind-two (λ s c o t. pos (point.belief s * point.mixes s c * g.weight s a c o t) *ℤ pos 1) (below g.states) (below g.informed_actions) (below g.observations) (below g.states))
    ∙ total-below g.states _ (λ s. pos (point.belief s) *ℤ pos (g.row_total * m)) (λ s ls.
    total-below g.informed_actions _ (λ c. pos (point.mixes s c) *ℤ pos (g.row_total * point.belief s)) (λ c lc.
    total-below g.observations _ _ (λ o lo. total-below g.states _ _ (λ t lt.
    turn (pos (point.belief s)) (pos (point.mixes s c)) (pos (g.weight s a c o t))))
    ∙ total-row g full s a c ls la lc (pos (point.belief s * point.mixes s c))
    ∙ swap (pos g.row_total) (pos (point.belief s)) (pos (point.mixes s c)))
    ∙ total-weights (point.mixes s) (pos (g.row_total * point.belief s)) (below g.informed_actions)
    ∙ ap (λ k. pos k *ℤ pos (g.row_total * point.belief s)) (mixes s ls)
    ∙ last (pos m) (pos g.row_total) (pos (point.belief s)))
    ∙ total-weights point.belief (pos (g.row_total * m)) (below g.states)
    ∙ mulℤ_comm (pos (sum_by point.belief (below g.states))) (pos (g.row_total * m))
  where
    once : (x : ℤ) → x ≡ x *ℤ pos 1
    once x = omega (arith, ints)

    turn : (b m w : ℤ) → ((b *ℤ m) *ℤ w) *ℤ pos 1 ≡ w *ℤ (b *ℤ m)
    turn b m w = sym (once ((b *ℤ m) *ℤ w)) ∙ mulℤ_comm (b *ℤ m) w

    swap : (d b m : ℤ) → d *ℤ (b *ℤ m) ≡ m *ℤ (d *ℤ b)
    swap d b m = simp products (omega (arith, sums))

    last : (m d b : ℤ) → m *ℤ (d *ℤ b) ≡ b *ℤ (d *ℤ m)
    last m d b = simp products (omega (arith, sums))

-- all masses after an own action sum to the row total times the mixes' total times the belief's
pub masses-sum : (g : Numbers) (m : ℕ) (point : Point) → RowsAreFull g → ((s : ℕ) → s < g.states → sum_by (point.mixes s) (below g.informed_actions) ≡ m) → (a : ℕ) → a < g.own_actions →
    sum_by (λ o. sum_by (λ t. mass g point a o t) (below g.states)) (below g.observations) ≡ g.row_total * m * sum_by point.belief (below g.states)
masses-sum g m point full mixes a la =
    ap unsigned_abs (sym (total-below g.observations _ _ (λ o lo. total-pos (λ t. mass g point a o t) (below g.states)) ∙ total-pos (λ o. sum_by (λ t. mass g point a o t) (below g.states)) (below g.observations))
    ∙ masses-total g m point full mixes a la)

-- the total of a belief, and of mixes
pub belief-total : (states : ℕ) (parts : List ℤ) → IsBelief states parts → sum_of parts ≡ pos (sum_by (weight_at parts) (below states))
belief-total states parts h =
    sym (total-places (λ (x : ℤ). x) (pos 0) parts)
    ∙ ap (λ (n : ℕ). total (λ i. get_or parts i (pos 0)) (below n)) h.long
    ∙ total-below states _ (λ s. pos (weight_at parts s)) (λ s l.
    magnitude-is (get_or parts s (pos 0)) (each-at (IsWithin (pos 0) (pos (2 ^ 20))) (pos 0) parts s h.each (subst (λ (n : ℕ). s < n) (sym h.long) l)).0)
    ∙ total-pos (weight_at parts) (below states)

pub mix-within : (mixes : MixesData) → AreMixes mixes → (s c : ℕ) → s < mixes.states → c < mixes.actions → IsWithin (pos 0) (pos 65536) (mix_at mixes s c)
mix-within mixes h s c ls lc =
    let up : suc s * mixes.actions ≤ mixes.states * mixes.actions = mul-le-mul_right mixes.actions ls in
    each-at (IsWithin (pos 0) (pos 65536)) (pos 0) mixes.weights (s * mixes.actions + c) h.each (omega (arith, h.long))

pub mix-total : (mixes : MixesData) → AreMixes mixes → (s : ℕ) → s < mixes.states → sum_by (mix_weight mixes s) (below mixes.actions) ≡ 65536
mix-total mixes h s ls =
    ap unsigned_abs (sym (total-below mixes.actions (λ c. mix_at mixes s c) (λ c. pos (mix_weight mixes s c)) (λ c lc. magnitude-is (mix_at mixes s c) (mix-within mixes h s c ls lc).0) ∙ total-pos (mix_weight mixes s) (below mixes.actions))
    ∙ h.sums s ls)

sum-split : {X : Type 0} (k : ℕ) (f h : X → ℕ) (xs : List X) → sum_by (λ x. k * f x + h x) xs ≡ k * sum_by f xs + sum_by h xs
sum-split k f h [] = omega arith
sum-split k f h (x ∷ xs) = omega (arith, sum_by-cons (λ x. k * f x + h x) x xs, ap (λ (n : ℕ). k * n) (sum_by-cons f x xs), sum_by-cons h x xs, sum-split k f h xs)

pub shares-size : (points : ℕ → Point) (most states : ℕ) (ws : List ShareParts) → AllByRecursion (λ (w : ShareParts). unsigned_abs (points w.k).value ≤ most * sum_by (points w.k).belief (below states)) ws →
    counted_size points ws ≤ most * sum_by (λ t. sum_by (brought points t) ws) (below states)
shares-size points most states [] h = omega arith
shares-size points most states (w ∷ ws) h =
    let weight : ℕ = unsigned_abs w.weight in
    let b : ℕ = sum_by (points w.k).belief (below states) in
    let rest : ℕ = sum_by (λ t. sum_by (brought points t) ws) (below states) in
    let first : unsigned_abs (counted points w) ≤ weight * (most * b) = rw (unsigned_abs-mul w.weight (points w.k).value) (mul-le-mul_left weight h.0) in
    let whole : sum_by (λ t. sum_by (brought points t) (w ∷ ws)) (below states) ≡ weight * b + rest =
    sum_by-same _ (λ t. weight * (points w.k).belief t + sum_by (brought points t) ws) (below states) (λ t. sum_by-cons (brought points t) w ws)
    ∙ sum-split weight (points w.k).belief (λ t. sum_by (brought points t) ws) (below states) in
    rw (sum_by-cons (λ (v : ShareParts). unsigned_abs (counted points v)) w ws, whole) (joined weight most b rest _ _ first (shares-size points most states ws h.1))
  where
    joined : (weight most b rest x y : ℕ) → x ≤ weight * (most * b) → y ≤ most * rest → x + y ≤ most * (weight * b + rest)
    joined weight most b rest x y p q = omega arith

sum-range-scaled : (f h : ℕ → ℕ) (most a n : ℕ) → ((i : ℕ) → a ≤ i → i < a + n → f i ≤ most * h i) → sum_by f (range_with_len a n) ≤ most * sum_by h (range_with_len a n)
sum-range-scaled f h most a zero each = omega arith
sum-range-scaled f h most a (suc n) each =
    rw (sum_by-cons f a (range_with_len (a + 1) n), sum_by-cons h a (range_with_len (a + 1) n))
    (joined most (h a) (sum_by h (range_with_len (a + 1) n)) (f a) (sum_by f (range_with_len (a + 1) n)) (each a (omega arith) (omega arith)) (sum-range-scaled f h most (a + 1) n (λ i l m. each i (omega arith) (omega arith))))
  where
    joined : (most p q x y : ℕ) → x ≤ most * p → y ≤ most * q → x + y ≤ most * (p + q)
    joined most p q x y k l = omega arith

pub sum-below-scaled : (f h : ℕ → ℕ) (most n : ℕ) → ((i : ℕ) → i < n → f i ≤ most * h i) → sum_by f (below n) ≤ most * sum_by h (below n)
sum-below-scaled f h most n each = sum-range-scaled f h most 0 n (λ i l m. each i (omega arith))

pub sum-below-same : (n : ℕ) (f g : ℕ → ℕ) → ((i : ℕ) → i < n → f i ≡ g i) → sum_by f (below n) ≡ sum_by g (below n)
sum-below-same n f g h = ap unsigned_abs (sym (total-pos f (below n)) ∙ total-below n (λ i. pos (f i)) (λ i. pos (g i)) (λ i l. ap pos (h i l)) ∙ total-pos g (below n))
