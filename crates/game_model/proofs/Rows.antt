-- A sum over a row, by its landings.
use Rattle.std.proofs.Common.{◌≡◌, ℕ, ◌<◌, List, refl, ap, arith, sym, ◌∙◌, Bool, true, false, cond, ◌&&◌, ◌==◌, inl, inr, eq-eqb, ne_eqb}
use Rattle.std.specs.Prelude.{ℤ, pos, ◌*ℤ◌, sum_by}
use Rattle.std.specs.List.{AllByRecursion}
use Rattle.std.proofs.lemmas.Int.{ints}
use borrow.Author.Differences.{up}
use Rattle.scaled_num.specs.Sums.{total, below}
use Rattle.scaled_num.proofs.Sums.{total-same, total-below, total-scale, total-pos, total-weights, total-swap, total-single, each}
use Rattle.game_model.proofs.Pay.{each-from}
use Rattle.std.proofs.lemmas.Bool.Decides.{eqb_tells}

-- the weight of an observation and a next state in a row of any landings
abbrev pub weight_by : {L : Type 0} → (L → ℕ) → (L → ℕ) → (L → ℕ) → List L → ℕ → ℕ → ℕ
weight_by seen to weight row o t = sum_by (λ l. cond ((seen l == o) && (to l == t)) (weight l) 0) row

-- a landing counts at its own observation and next state alone
counts : (f : ℕ → ℕ → ℤ) (seen to weight o t : ℕ) →
    pos (cond ((seen == o) && (to == t)) weight 0) *ℤ f o t ≡ pos weight *ℤ (pos (cond (o == seen) 1 0) *ℤ (pos (cond (t == to) 1 0) *ℤ f o t))
counts f seen to weight o t =
    by (seen == o) (to == t) weight (f o t)
    ∙ ap (λ (x : Bool). pos weight *ℤ (pos (cond x 1 0) *ℤ (pos (cond (to == t) 1 0) *ℤ f o t))) (turn seen o)
    ∙ ap (λ (y : Bool). pos weight *ℤ (pos (cond (o == seen) 1 0) *ℤ (pos (cond y 1 0) *ℤ f o t))) (turn to t)
  where
    turn : (a b : ℕ) → (a == b) ≡ (b == a)
    turn a b = elim (eqb_tells a b) [ inl e ↦ e.0 ∙ sym (eq-eqb b a (sym e.1)) | inr e ↦ e.0 ∙ sym (ne_eqb b a (λ k. e.1 (sym k))) ]

    one : (z : ℤ) → pos 1 *ℤ z ≡ z
    one z = omega (arith, ints)

    none : (z : ℤ) → pos 0 *ℤ z ≡ pos 0
    none z = omega (arith, ints)

    no_part : (k z : ℤ) → pos 0 *ℤ z ≡ k *ℤ pos 0
    no_part k z = omega (arith, ints)

    by : (x y : Bool) (w : ℕ) (z : ℤ) → pos (cond (x && y) w 0) *ℤ z ≡ pos w *ℤ (pos (cond x 1 0) *ℤ (pos (cond y 1 0) *ℤ z))
    by true true w z = rw (one z, one z) refl
    by true false w z = rw (none z) (ap pos (omega arith))
    by false y w z = rw (none (pos (cond y 1 0) *ℤ z)) (no_part (pos w) z)

-- a sum over a row is a sum over its landings
pub row-landings : {L : Type 0} (seen to weight : L → ℕ) (states observations : ℕ) (row : List L) (f : ℕ → ℕ → ℤ) →
    AllByRecursion (λ l. (seen l < observations) × (to l < states)) row →
    total (λ o. total (λ t. pos (weight_by seen to weight row o t) *ℤ f o t) (below states)) (below observations) ≡ total (λ l. pos (weight l) *ℤ f (seen l) (to l)) row
row-landings {L} seen to weight states observations row f inside =
    let at = λ (l : L) (o t : ℕ). pos (cond ((seen l == o) && (to l == t)) (weight l) 0) *ℤ f o t in
    total-below observations _ (λ o. total (λ l. total (λ t. at l o t) (below states)) row) (λ o lo.
    total-below states _ (λ t. total (λ l. at l o t) row) (λ t lt. sym (total-weights (λ l. cond ((seen l == o) && (to l == t)) (weight l) 0) (f o t) row))
    ∙ total-swap (λ t l. at l o t) (below states) row)
    ∙ total-swap (λ o l. total (λ t. at l o t) (below states)) (below observations) row
    ∙ total-same _ _ row (each-from (λ l. (seen l < observations) × (to l < states)) _ row (λ l i.
    total-below observations _ (λ o. pos (weight l) *ℤ (pos (cond (o == seen l) 1 0) *ℤ f o (to l))) (λ o lo.
    total-below states _ _ (λ t lt. counts f (seen l) (to l) (weight l) o t)
    ∙ total-scale (pos (weight l)) (λ t. pos (cond (o == seen l) 1 0) *ℤ (pos (cond (t == to l) 1 0) *ℤ f o t)) (below states)
    ∙ ap (λ z. pos (weight l) *ℤ z)
    (total-scale (pos (cond (o == seen l) 1 0)) (λ t. pos (cond (t == to l) 1 0) *ℤ f o t) (below states)
    ∙ ap (λ z. pos (cond (o == seen l) 1 0) *ℤ z) (total-single (λ t. f o t) (to l) states i.1)))
    ∙ total-scale (pos (weight l)) (λ o. pos (cond (o == seen l) 1 0) *ℤ f o (to l)) (below observations)
    ∙ ap (λ z. pos (weight l) *ℤ z) (total-single (λ o. f o (to l)) (seen l) observations i.0)) inside)

-- a row whose landings sum to the total is full
pub row-full : {L : Type 0} (seen to weight : L → ℕ) (states observations whole : ℕ) (row : List L) →
    AllByRecursion (λ l. (seen l < observations) × (to l < states)) row → sum_by weight row ≡ whole →
    sum_by (λ o. sum_by (λ t. weight_by seen to weight row o t) (below states)) (below observations) ≡ whole
row-full seen to weight states observations whole row inside full =
    ap up
    (sym (total-pos (λ o. sum_by (λ t. weight_by seen to weight row o t) (below states)) (below observations))
    ∙ total-below observations _ (λ o. total (λ t. pos (weight_by seen to weight row o t) *ℤ pos 1) (below states)) (λ o lo.
    sym (total-pos (λ t. weight_by seen to weight row o t) (below states)) ∙ total-below states _ _ (λ t lt. once (pos (weight_by seen to weight row o t))))
    ∙ row-landings seen to weight states observations row (λ o t. pos 1) inside
    ∙ total-same _ _ row (each {P = λ l. pos (weight l) *ℤ pos 1 ≡ pos (weight l)} (λ l. sym (once (pos (weight l)))) row)
    ∙ total-pos weight row)
    ∙ full
  where
    once : (x : ℤ) → x ≡ x *ℤ pos 1
    once x = omega (arith, ints)
