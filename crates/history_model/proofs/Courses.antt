-- Courses by their first stage.
use Rattle.std.proofs.Common.{◌≡◌, ℕ, suc, zero, ◌+◌, ◌-◌, ◌*◌, ◌^◌, List, [], ◌∷◌, ◌++◌, take, refl, ap, arith, sym, ◌∙◌, add-one}
use Rattle.std.specs.Prelude.{ℤ, pos, ◌+ℤ◌, ◌*ℤ◌}
use Rattle.std.specs.List.{range_with_len}
use Rattle.std.proofs.Math.Nat.{pow-zero, pow-suc}
use Rattle.scaled_num.specs.Sums.{below, total}
use Rattle.scaled_num.proofs.Products.{products, sums}
use Rattle.scaled_num.proofs.Sums.{total-below, total-flat_map, total-map, total-same, total-scale, each}
use Rattle.game_model.specs.Numbers.{Numbers}
use Rattle.history_model.specs.Courses.{InformedWeights, OwnWeights, Stage, courses, product_over, stage_at, stages, state_at, worth}
use Rattle.history_model.specs.Playing.{stage_of}

append-nil : {X : Type 0} (xs : List X) → xs ++ [] ≡ xs
append-nil [] = refl
append-nil (x ∷ xs) = ap (λ ys. x ∷ ys) (append-nil xs)

-- ---- products
pub product-same : (f h : ℕ → ℕ) (js : List ℕ) → ((j : ℕ) → f j ≡ h j) → product_over f js ≡ product_over h js
product-same f h [] e = refl
product-same f h (j ∷ js) e = ap (λ x. x * product_over f js) (e j) ∙ ap (λ x. h j * x) (product-same f h js e)

product-shift : (f : ℕ → ℕ) (a n : ℕ) → product_over f (range_with_len (a + 1) n) ≡ product_over (λ j. f (suc j)) (range_with_len a n)
product-shift f a zero = refl
product-shift f a (suc n) = rw (add-one a) (ap (λ z. f (suc a) * z) (rw (← (add-one a)) (product-shift f (a + 1) n)))

sum-shift : (f : ℕ → ℤ) (a n : ℕ) → total f (range_with_len (a + 1) n) ≡ total (λ j. f (suc j)) (range_with_len a n)
sum-shift f a zero = refl
sum-shift f a (suc n) = rw (add-one a) (ap (λ z. f (suc a) +ℤ z) (rw (← (add-one a)) (sum-shift f (a + 1) n)))

-- ---- the weight of a course after stages that were before it
abbrev pub weight_after : Numbers → List Stage → ℕ → OwnWeights → InformedWeights → List Stage → ℕ → ℕ
weight_after g past first own informed course j =
    let x = stage_at course j in
    g.weight (state_at first course j) x.own x.informed x.seen x.to
    * own (past ++ take j course) x.own x.seen x.own_coin
    * informed (past ++ take j course) x.informed x.own x.seen x.to x.informed_coin

abbrev pub chance_after : Numbers → List Stage → ℕ → ℕ → OwnWeights → InformedWeights → List Stage → ℕ
chance_after g past n first own informed course = product_over (weight_after g past first own informed course) (below n)

-- the weight of a first stage
abbrev pub first_weight : Numbers → List Stage → ℕ → OwnWeights → InformedWeights → Stage → ℕ
first_weight g past first own informed x =
    g.weight first x.own x.informed x.seen x.to * own past x.own x.seen x.own_coin * informed past x.informed x.own x.seen x.to x.informed_coin

snoc : {X : Type 0} (xs : List X) (x : X) (ys : List X) → (xs ++ x ∷ []) ++ ys ≡ xs ++ (x ∷ ys)
snoc [] x ys = refl
snoc (z ∷ xs) x ys = ap (λ zs. z ∷ zs) (snoc xs x ys)

later-weight : (g : Numbers) (past : List Stage) (first : ℕ) (own : OwnWeights) (informed : InformedWeights) (x : Stage) (later : List Stage) (j : ℕ) →
    weight_after g past first own informed (x ∷ later) (suc j) ≡ weight_after g (past ++ x ∷ []) x.to own informed later j
later-weight g past first own informed x later zero =
    ap (λ (p : List Stage). let y = stage_at later 0 in g.weight x.to y.own y.informed y.seen y.to * own p y.own y.seen y.own_coin * informed p y.informed y.own y.seen y.to y.informed_coin)
    (sym (snoc past x []))
later-weight g past first own informed x later (suc i) =
    ap (λ (p : List Stage). let y = stage_at later (suc i) in g.weight (stage_at later i).to y.own y.informed y.seen y.to * own p y.own y.seen y.own_coin * informed p y.informed y.own y.seen y.to y.informed_coin)
    (sym (snoc past x (take (suc i) later)))

pub chance-first : (g : Numbers) (past : List Stage) (n first : ℕ) (own : OwnWeights) (informed : InformedWeights) (x : Stage) (later : List Stage) →
    chance_after g past (suc n) first own informed (x ∷ later)
    ≡ first_weight g past first own informed x * chance_after g (past ++ x ∷ []) n x.to own informed later
chance-first g past n first own informed x later =
    ap (λ (p : List Stage). first_weight g p first own informed x * product_over (weight_after g past first own informed (x ∷ later)) (range_with_len 1 n)) (append-nil past)
    ∙ ap (λ (k : ℕ). first_weight g past first own informed x * k)
    (product-shift (weight_after g past first own informed (x ∷ later)) 0 n
    ∙ product-same _ _ (below n) (later-weight g past first own informed x later))

-- ---- worth
abbrev term : Numbers → ℕ → ℕ → List Stage → ℕ → ℤ
term g n first course j =
    let x = stage_at course j in
    g.reward (state_at first course j) x.own x.informed *ℤ pos (g.discount_over ^ j * g.discount_under ^ (n - j))

scale : (P Q j n : ℕ) (r : ℤ) → r *ℤ pos (P ^ suc j * Q ^ (suc n - suc j)) ≡ pos P *ℤ (r *ℤ pos (P ^ j * Q ^ (n - j)))
scale P Q j n r = ap (λ (k : ℕ). r *ℤ pos (P ^ suc j * Q ^ k)) (less n j) ∙ ap (λ (k : ℕ). r *ℤ pos (k * Q ^ (n - j))) (pow-suc P j) ∙ turn r (pos P) (pos (P ^ j)) (pos (Q ^ (n - j)))
  where
    less : (n j : ℕ) → suc n - suc j ≡ n - j
    less n j = omega arith

    turn : (r p a b : ℤ) → r *ℤ ((a *ℤ p) *ℤ b) ≡ p *ℤ (r *ℤ (a *ℤ b))
    turn r p a b = simp products (omega (arith, sums))

later-term : (g : Numbers) (n first : ℕ) (x : Stage) (later : List Stage) (j : ℕ) → term g (suc n) first (x ∷ later) (suc j) ≡ pos g.discount_over *ℤ term g n x.to later j
later-term g n first x later zero = scale g.discount_over g.discount_under 0 n (let y = stage_at later 0 in g.reward x.to y.own y.informed)
later-term g n first x later (suc i) = scale g.discount_over g.discount_under (suc i) n (let y = stage_at later (suc i) in g.reward (stage_at later i).to y.own y.informed)

pub worth-first : (g : Numbers) (n first : ℕ) (x : Stage) (later : List Stage) →
    worth g (suc n) first (x ∷ later) ≡ g.reward first x.own x.informed *ℤ pos (g.discount_under ^ suc n) +ℤ pos g.discount_over *ℤ worth g n x.to later
worth-first g n first x later =
    ap (λ z. z +ℤ total (term g (suc n) first (x ∷ later)) (range_with_len 1 n)) (head g.discount_over g.discount_under n (g.reward first x.own x.informed))
    ∙ ap (λ z. g.reward first x.own x.informed *ℤ pos (g.discount_under ^ suc n) +ℤ z)
    (sum-shift (term g (suc n) first (x ∷ later)) 0 n
    ∙ total-below n _ (λ j. pos g.discount_over *ℤ term g n x.to later j) (λ j lj. later-term g n first x later j)
    ∙ total-scale (pos g.discount_over) (term g n x.to later) (below n))
  where
    head : (P Q n : ℕ) (r : ℤ) → r *ℤ pos (P ^ 0 * Q ^ (suc n - 0)) ≡ r *ℤ pos (Q ^ suc n)
    head P Q n r = rw (pow-zero P) (ap (λ (k : ℕ). r *ℤ pos k) (one (Q ^ (suc n - 0)) ∙ ap (λ (k : ℕ). Q ^ k) (none n)))
      where
        one : (k : ℕ) → 1 * k ≡ k
        one k = omega arith

        none : (n : ℕ) → suc n - 0 ≡ suc n
        none n = omega arith

-- ---- sums over courses
pub total-courses : (g : Numbers) (U V n : ℕ) (f : List Stage → ℤ) →
    total f (courses g U V (suc n)) ≡ total (λ x. total (λ later. f (x ∷ later)) (courses g U V n)) (stages g U V)
total-courses g U V n f =
    total-flat_map f _ (stages g U V)
    ∙ total-same _ _ (stages g U V) (each (λ x. total-map f (λ later. x ∷ later) (courses g U V n)) (stages g U V))

pub total-stages : (g : Numbers) (U V : ℕ) (f : Stage → ℤ) →
    total f (stages g U V) ≡
    total (λ a. total (λ c. total (λ o. total (λ t. total (λ u. total (λ v. f (stage_of a c o t u v))
    (below V)) (below U)) (below g.states)) (below g.observations)) (below g.informed_actions)) (below g.own_actions)
total-stages g U V f = simp (total-flat_map, total-map)
