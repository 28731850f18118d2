-- Sums over the first steps of two plans.
use Rattle.std.proofs.Common.{◌≡◌, ℕ, suc, ◌*◌, ◌<◌, List, length, ap, arith, ◌∙◌}
use Rattle.std.specs.Prelude.{ℤ, pos, ◌+ℤ◌, ◌*ℤ◌, sum_by}
use Rattle.std.specs.List.{AllByRecursion}
use Rattle.scaled_num.specs.Sums.{total, below}
use Rattle.game_model.specs.Numbers.{Numbers, over_row, RowsAreFull}
use Rattle.game_model.specs.Plan.{OwnPlan, InformedPlan, IsOwnPlan, IsInformedPlan, branches_total}
use Rattle.game_model.specs.Play.{Step, first_steps, step_weight, own_branch, informed_branch, no_own_plan, no_informed_plan}
use Rattle.scaled_num.proofs.Products.{mul-addℤ, mulℤ_assoc, mulℤ_left_comm, products, sums}
use Rattle.scaled_num.proofs.Sums.{total-flat_map, total-map, total-scale, total-add, total-same, total-below, total-places, total-weights, each, each-flat_map, each-map, below-each}

abbrev pub step_of : ℕ → ℕ → ℕ → ℕ → ℕ → ℕ → Step
step_of a c o t u v = record { own = a; informed = c; seen = o; to = t; own_place = u; informed_place = v }

-- a sum over the first steps is six sums, one in another
pub total-first_steps : (g : Numbers) (n : ℕ) (sigma : OwnPlan (suc n)) (tau : InformedPlan (suc n)) (f : Step → ℤ) →
    total f (first_steps g n sigma tau) ≡
    total (λ a. total (λ c. total (λ o. total (λ t. total (λ u. total (λ v. f (step_of a c o t u v))
    (below (length (tau c a o t)))) (below (length (sigma a o)))) (below g.states)) (below g.observations)) (below g.informed_actions)) (below g.own_actions)
total-first_steps g n sigma tau f = simp (total-flat_map, total-map)

-- what holds of each step whose parts are in range holds of each first step
pub first_steps-each : (g : Numbers) (n : ℕ) (sigma : OwnPlan (suc n)) (tau : InformedPlan (suc n)) (P : Step → Type 0) →
    ((a c o t u v : ℕ) → a < g.own_actions → c < g.informed_actions → o < g.observations → t < g.states →
    u < length (sigma a o) → v < length (tau c a o t) → P (step_of a c o t u v)) →
    AllByRecursion P (first_steps g n sigma tau)
first_steps-each g n sigma tau P h =
    each-flat_map P _ (below g.own_actions) (below-each _ g.own_actions (λ a la.
    each-flat_map P _ (below g.informed_actions) (below-each _ g.informed_actions (λ c lc.
    each-flat_map P _ (below g.observations) (below-each _ g.observations (λ o lo.
    each-flat_map P _ (below g.states) (below-each _ g.states (λ t lt.
    each-flat_map P _ (below (length (sigma a o))) (below-each _ (length (sigma a o)) (λ u lu.
    each-map P _ (below (length (tau c a o t))) (below-each _ (length (tau c a o t)) (λ v lv.
    h a c o t u v la lc lo lt lu lv))))))))))))

-- the coins of the informed player, at one place: the weights of the branches sum to q
informed_coins : (n w q : ℕ) (bs : List (ℕ × InformedPlan n)) (z : ℤ) → branches_total bs ≡ q →
    total (λ v. pos (w * (informed_branch n bs v).0) *ℤ z) (below (length bs)) ≡ pos w *ℤ (pos q *ℤ z)
informed_coins n w q bs z e =
    total-places (λ (b : ℕ × InformedPlan n). pos (w * b.0) *ℤ z) (0, no_informed_plan n) bs
    ∙ total-same _ _ bs (each {P = λ b. pos (w * b.0) *ℤ z ≡ pos w *ℤ (pos b.0 *ℤ z)} (λ b. mulℤ_assoc (pos w) (pos b.0) z) bs)
    ∙ total-scale (pos w) (λ (b : ℕ × InformedPlan n). pos b.0 *ℤ z) bs
    ∙ ap (λ y. pos w *ℤ y) (total-weights (λ (b : ℕ × InformedPlan n). b.0) z bs ∙ ap (λ k. pos k *ℤ z) e)

-- a sum over the first steps of weight times a number that does not see the informed player's coins
pub total-informed_coins : (g : Numbers) (n s : ℕ) (sigma : OwnPlan (suc n)) (tau : InformedPlan (suc n)) (q : ℕ → ℕ) →
    ((c a o t : ℕ) → c < g.informed_actions → a < g.own_actions → o < g.observations → t < g.states → branches_total (tau c a o t) ≡ q c) →
    (f : ℕ → ℕ → ℕ → ℕ → ℕ → ℤ) →
    total (λ x. pos (step_weight g n s sigma tau x) *ℤ f x.own x.informed x.seen x.to x.own_place) (first_steps g n sigma tau) ≡
    total (λ a. total (λ c. total (λ o. total (λ t. total (λ u.
    pos (g.weight s a c o t * (own_branch n (sigma a o) u).0) *ℤ (pos (q c) *ℤ f a c o t u))
    (below (length (sigma a o)))) (below g.states)) (below g.observations)) (below g.informed_actions)) (below g.own_actions)
total-informed_coins g n s sigma tau q h f =
    total-first_steps g n sigma tau (λ x. pos (step_weight g n s sigma tau x) *ℤ f x.own x.informed x.seen x.to x.own_place)
    ∙ total-below g.own_actions _ _ (λ a la.
    total-below g.informed_actions _ _ (λ c lc.
    total-below g.observations _ _ (λ o lo.
    total-below g.states _ _ (λ t lt.
    total-below (length (sigma a o)) _ _ (λ u lu.
    informed_coins n (g.weight s a c o t * (own_branch n (sigma a o) u).0) (q c) (tau c a o t) (f a c o t u) (h c a o t lc la lo lt))))))

-- the same of player one's coins
own_coins : (n w p : ℕ) (bs : List (ℕ × OwnPlan n)) (z : ℤ) → branches_total bs ≡ p →
    total (λ u. pos (w * (own_branch n bs u).0) *ℤ z) (below (length bs)) ≡ pos w *ℤ (pos p *ℤ z)
own_coins n w p bs z e =
    total-places (λ (b : ℕ × OwnPlan n). pos (w * b.0) *ℤ z) (0, no_own_plan n) bs
    ∙ total-same _ _ bs (each {P = λ b. pos (w * b.0) *ℤ z ≡ pos w *ℤ (pos b.0 *ℤ z)} (λ b. mulℤ_assoc (pos w) (pos b.0) z) bs)
    ∙ total-scale (pos w) (λ (b : ℕ × OwnPlan n). pos b.0 *ℤ z) bs
    ∙ ap (λ y. pos w *ℤ y) (total-weights (λ (b : ℕ × OwnPlan n). b.0) z bs ∙ ap (λ k. pos k *ℤ z) e)

-- a sum over the first steps of weight times a number that sees no coins
pub total-coins : (g : Numbers) (n s : ℕ) (sigma : OwnPlan (suc n)) (tau : InformedPlan (suc n)) (p q : ℕ → ℕ) →
    ((a o : ℕ) → a < g.own_actions → o < g.observations → branches_total (sigma a o) ≡ p a) →
    ((c a o t : ℕ) → c < g.informed_actions → a < g.own_actions → o < g.observations → t < g.states → branches_total (tau c a o t) ≡ q c) →
    (f : ℕ → ℕ → ℕ → ℕ → ℤ) →
    total (λ x. pos (step_weight g n s sigma tau x) *ℤ f x.own x.informed x.seen x.to) (first_steps g n sigma tau) ≡
    total (λ a. total (λ c. total (λ o. total (λ t.
    pos (g.weight s a c o t) *ℤ (pos (p a) *ℤ (pos (q c) *ℤ f a c o t)))
    (below g.states)) (below g.observations)) (below g.informed_actions)) (below g.own_actions)
total-coins g n s sigma tau p q hp hq f =
    total-informed_coins g n s sigma tau q hq (λ a c o t u. f a c o t)
    ∙ total-below g.own_actions _ _ (λ a la.
    total-below g.informed_actions _ _ (λ c lc.
    total-below g.observations _ _ (λ o lo.
    total-below g.states _ _ (λ t lt.
    own_coins n (g.weight s a c o t) (p a) (sigma a o) (pos (q c) *ℤ f a c o t) (hp a o la lo)))))

-- the weights of a row sum to the row total
pub total-row : (g : Numbers) → RowsAreFull g → (s a c : ℕ) → s < g.states → a < g.own_actions → c < g.informed_actions → (z : ℤ) →
    total (λ o. total (λ t. pos (g.weight s a c o t) *ℤ z) (below g.states)) (below g.observations) ≡ pos g.row_total *ℤ z
total-row g full s a c ls la lc z =
    total-below g.observations _ _ (λ o lo. total-weights (λ t. g.weight s a c o t) z (below g.states))
    ∙ total-weights (λ o. sum_by (λ t. g.weight s a c o t) (below g.states)) z (below g.observations)
    ∙ ap (λ k. pos k *ℤ z) (full s a c ls la lc)

-- the weights of the first steps sum to the product of the row total and both totals
pub total-step_weight : (g : Numbers) (n₁ n₂ n s : ℕ) (sigma : OwnPlan (suc n)) (tau : InformedPlan (suc n)) → RowsAreFull g → s < g.states →
    IsOwnPlan g n₁ (suc n) sigma → IsInformedPlan g n₂ (suc n) tau → (z : ℤ) →
    total (λ x. pos (step_weight g n s sigma tau x) *ℤ z) (first_steps g n sigma tau) ≡ pos (g.row_total * n₁ * n₂) *ℤ z
total-step_weight g n₁ n₂ n s sigma tau full ls own informed z =
    total-coins g n s sigma tau own.part informed.part own.same informed.same (λ a c o t. z)
    ∙ total-below g.own_actions _ _ (λ a la.
    total-below g.informed_actions _ _ (λ c lc.
    total-row g full s a c ls la lc (pos (own.part a) *ℤ (pos (informed.part c) *ℤ z))
    ∙ swap (pos g.row_total) (pos (own.part a)) (pos (informed.part c)) z)
    ∙ total-weights informed.part (pos (own.part a) *ℤ (pos g.row_total *ℤ z)) (below g.informed_actions)
    ∙ ap (λ k. pos k *ℤ (pos (own.part a) *ℤ (pos g.row_total *ℤ z))) informed.sums
    ∙ mulℤ_left_comm (pos n₂) (pos (own.part a)) (pos g.row_total *ℤ z))
    ∙ total-weights own.part (pos n₂ *ℤ (pos g.row_total *ℤ z)) (below g.own_actions)
    ∙ ap (λ k. pos k *ℤ (pos n₂ *ℤ (pos g.row_total *ℤ z))) own.sums
    ∙ join (pos n₁) (pos n₂) (pos g.row_total) z
  where
    swap : (d p q y : ℤ) → d *ℤ (p *ℤ (q *ℤ y)) ≡ q *ℤ (p *ℤ (d *ℤ y))
    swap d p q y = simp products (omega (arith, sums))

    join : (p q d y : ℤ) → p *ℤ (q *ℤ (d *ℤ y)) ≡ ((d *ℤ p) *ℤ q) *ℤ y
    join p q d y = simp products (omega (arith, sums))

pub over_row-scale : (g : Numbers) (s a c : ℕ) (k : ℤ) (f : ℕ → ℕ → ℤ) → over_row g s a c (λ o t. k *ℤ f o t) ≡ k *ℤ over_row g s a c f
over_row-scale g s a c k f =
    total-below g.observations _ _ (λ o lo.
    total-below g.states _ _ (λ t lt. mulℤ_left_comm (pos (g.weight s a c o t)) k (f o t))
    ∙ total-scale k (λ t. pos (g.weight s a c o t) *ℤ f o t) (below g.states))
    ∙ total-scale k (λ o. total (λ t. pos (g.weight s a c o t) *ℤ f o t) (below g.states)) (below g.observations)

pub over_row-add : (g : Numbers) (s a c : ℕ) (f h : ℕ → ℕ → ℤ) → over_row g s a c (λ o t. f o t +ℤ h o t) ≡ over_row g s a c f +ℤ over_row g s a c h
over_row-add g s a c f h =
    total-below g.observations _ _ (λ o lo.
    total-below g.states _ _ (λ t lt. mul-addℤ (pos (g.weight s a c o t)) (f o t) (h o t))
    ∙ total-add (λ t. pos (g.weight s a c o t) *ℤ f o t) (λ t. pos (g.weight s a c o t) *ℤ h o t) (below g.states))
    ∙ total-add _ _ (below g.observations)

-- `total-coins`, with each player's coins before the sum over the row
pub total-coins_row : (g : Numbers) (n s : ℕ) (sigma : OwnPlan (suc n)) (tau : InformedPlan (suc n)) (p q : ℕ → ℕ) →
    ((a o : ℕ) → a < g.own_actions → o < g.observations → branches_total (sigma a o) ≡ p a) →
    ((c a o t : ℕ) → c < g.informed_actions → a < g.own_actions → o < g.observations → t < g.states → branches_total (tau c a o t) ≡ q c) →
    (f : ℕ → ℕ → ℕ → ℕ → ℤ) →
    total (λ x. pos (step_weight g n s sigma tau x) *ℤ f x.own x.informed x.seen x.to) (first_steps g n sigma tau) ≡
    total (λ a. pos (p a) *ℤ total (λ c. pos (q c) *ℤ over_row g s a c (f a c)) (below g.informed_actions)) (below g.own_actions)
total-coins_row g n s sigma tau p q hp hq f =
    total-coins g n s sigma tau p q hp hq f
    ∙ total-below g.own_actions _ _ (λ a la.
    total-below g.informed_actions _ _ (λ c lc.
    over_row-scale g s a c (pos (p a)) (λ o t. pos (q c) *ℤ f a c o t)
    ∙ ap (λ z. pos (p a) *ℤ z) (over_row-scale g s a c (pos (q c)) (f a c)))
    ∙ total-scale (pos (p a)) (λ c. pos (q c) *ℤ over_row g s a c (f a c)) (below g.informed_actions))
