-- What the plan of a node earns at least.
use Rattle.std.proofs.Common.{◌≡◌, ℕ, suc, zero, ◌*◌, ◌^◌, ◌<◌, ◌≤◌, List, [], ◌∷◌, length, get_or, refl, ap, subst, arith, sym, ◌∙◌}
use Rattle.std.specs.Prelude.{ℤ, pos, ◌+ℤ◌, ◌*ℤ◌, ◌≤ℤ◌, sum_by, map}
use Rattle.std.proofs.Math.Nat.{pow-zero, pow-suc}
use Rattle.std.proofs.lemmas.Int.{ints}
use Rattle.scaled_num.specs.Sums.{total, below}
use Rattle.game_model.specs.Branches.{Continuation}
use Rattle.game_model.specs.Numbers.{Numbers, over_row, RowsAreFull}
use Rattle.game_model.specs.Plan.{OwnPlan, InformedPlan, IsOwnPlan, IsInformedPlan, branches_total}
use Rattle.game_model.specs.Play.{first_steps, step_weight, own_branch, informed_branch, own_after, informed_after, no_own_plan, no_informed_plan, pay}
use Rattle.alpha_set.specs.Nodes.{Node, steps_at, steps_worth}
use Rattle.history_model.specs.Plans.{own_plan}
use Rattle.controller.specs.Members.{NodeKeeps}
use Rattle.history_model.proofs.Parts.{NodeGains, ControllerEarns, ControllerEarnsFamily}
use Rattle.scaled_num.proofs.Products.{mulℤ_left_comm, le-mulℤ, products, sums}
use Rattle.scaled_num.proofs.Sums.{total-scale, total-add, total-same, total-below, total-below-le, total-weights, total-pos, total-swap, total-places, sum_by-map, each, each-at, each-map}
use Rattle.game_model.proofs.Steps.{first_steps-each, total-informed_coins, total-row, over_row-add, over_row-scale}
use Rattle.game_model.proofs.Pay.{each-from}
use Rattle.game_model.proofs.Family.{family-lower}
use Rattle.game_model.proofs.Lower.{stage-lower, less_tail}

-- the branch that a step of a node makes
abbrev branch_of : (ℕ → Node) → (n : ℕ) → Continuation → ℕ × OwnPlan n
branch_of nodes n step = (step.weight, own_plan nodes step.member n)

-- the plan of a node is a right plan, of the total of its mix
pub own_plan-is_plan : (g : Numbers) (m v count : ℕ) (nodes : ℕ → Node) → 1 ≤ m → ((i : ℕ) → i < count → NodeKeeps g m v count (nodes i)) →
    (n i : ℕ) → i < count → IsOwnPlan g m n (own_plan nodes i n)
own_plan-is_plan g m v count nodes lm fits zero i li = tt
own_plan-is_plan g m v count nodes lm fits (suc n) i li =
    record {
      some = lm;
      part = (nodes i).mix;
      same = λ a o la lo. sum_by-map (λ (b : ℕ × OwnPlan n). b.0) (branch_of nodes n) (steps_at (nodes i) a o) ∙ (fits i li).steps_sum a o la lo;
      sums = (fits i li).mix_sums;
      rest = λ a o la lo. each-map (λ (b : ℕ × OwnPlan n). IsOwnPlan g m n b.1) (branch_of nodes n) (steps_at (nodes i) a o)
          (each-from (λ step. step.member < count) _ (steps_at (nodes i) a o) (λ step l. own_plan-is_plan g m v count nodes lm fits n step.member l) ((fits i li).named a o la lo));
    }

-- the step of a node at a place
abbrev no_step : Continuation
no_step = record { own = 0; seen = 0; member = 0; weight = 0 }

abbrev step_at : Node → ℕ → ℕ → ℕ → Continuation
step_at node a o u = get_or (steps_at node a o) u no_step

-- an element of a mapped list, where the place is in the list
get_or-map : {X Y : Type 0} (f : X → Y) (xs : List X) (i : ℕ) (d : X) (e : Y) → i < length (map f xs) → get_or (map f xs) i e ≡ f (get_or xs i d)
get_or-map f [] i d e l = absurd (omega arith)
get_or-map f (x ∷ xs) zero d e l = refl
get_or-map f (x ∷ xs) (suc i) d e l = get_or-map f xs i d e (omega arith)

len-map : {X Y : Type 0} (f : X → Y) (xs : List X) → length (map f xs) ≡ length xs
len-map f [] = refl
len-map f (x ∷ xs) = ap suc (len-map f xs)

-- a sum over the places of a node's branches, as a sum over its steps
places : {X : Type 0} (f : Continuation → ℤ) (h : Continuation → X) (node : Node) (a o : ℕ) →
    total (λ u. f (step_at node a o u)) (below (length (map h (steps_at node a o)))) ≡ total f (steps_at node a o)
places f h node a o = rw (len-map h (steps_at node a o)) (total-places f no_step (steps_at node a o))

-- one place of the row: the sum over the places of player one's branches
one_place : (n : ℕ) (nodes : ℕ → Node) (i a o t w q : ℕ) (er p k : ℤ) →
    total (λ u. pos (w * (own_branch n (own_plan nodes i (suc n) a o) u).0) *ℤ (pos q *ℤ (er +ℤ p *ℤ ((nodes (step_at (nodes i) a o u).member).vector t *ℤ k))))
    (below (length (own_plan nodes i (suc n) a o)))
    ≡ pos w *ℤ (pos q *ℤ (pos (sum_by (λ step. step.weight) (steps_at (nodes i) a o)) *ℤ er +ℤ (p *ℤ k) *ℤ steps_worth nodes (nodes i) a o t))
one_place n nodes i a o t w q er p k =
    let steps = steps_at (nodes i) a o in
    let h = branch_of nodes n in
    let f = λ (step : Continuation). pos (w * step.weight) *ℤ (pos q *ℤ (er +ℤ p *ℤ ((nodes step.member).vector t *ℤ k))) in
    total-below (length (map h steps)) _ (λ u. f (step_at (nodes i) a o u))
    (λ u lu. ap (λ (b : ℕ × OwnPlan n). pos (w * b.0) *ℤ (pos q *ℤ (er +ℤ p *ℤ ((nodes (step_at (nodes i) a o u).member).vector t *ℤ k))))
    (get_or-map h steps u no_step (0, no_own_plan n) lu))
    ∙ places f h (nodes i) a o
    ∙ total-same f (λ step. (pos w *ℤ (pos q *ℤ er)) *ℤ pos step.weight +ℤ (pos w *ℤ (pos q *ℤ (p *ℤ k))) *ℤ (pos step.weight *ℤ (nodes step.member).vector t)) steps
    (each (λ step. spread (pos w) (pos step.weight) (pos q) er p ((nodes step.member).vector t) k) steps)
    ∙ total-add _ _ steps
    ∙ ap (λ z. z +ℤ total (λ step. (pos w *ℤ (pos q *ℤ (p *ℤ k))) *ℤ (pos step.weight *ℤ (nodes step.member).vector t)) steps)
    (total-scale (pos w *ℤ (pos q *ℤ er)) (λ step. pos step.weight) steps ∙ ap (λ z. (pos w *ℤ (pos q *ℤ er)) *ℤ z) (total-pos (λ step. step.weight) steps))
    ∙ ap (λ z. (pos w *ℤ (pos q *ℤ er)) *ℤ pos (sum_by (λ step. step.weight) steps) +ℤ z)
    (total-scale (pos w *ℤ (pos q *ℤ (p *ℤ k))) (λ step. pos step.weight *ℤ (nodes step.member).vector t) steps)
    ∙ gather (pos w) (pos q) er p k (pos (sum_by (λ step. step.weight) steps)) (steps_worth nodes (nodes i) a o t)
  where
    spread : (w x q er p y k : ℤ) → (w *ℤ x) *ℤ (q *ℤ (er +ℤ p *ℤ (y *ℤ k))) ≡ (w *ℤ (q *ℤ er)) *ℤ x +ℤ (w *ℤ (q *ℤ (p *ℤ k))) *ℤ (x *ℤ y)
    spread w x q er p y k = simp products (omega (arith, sums))

    gather : (w q er p k m s : ℤ) → (w *ℤ (q *ℤ er)) *ℤ m +ℤ (w *ℤ (q *ℤ (p *ℤ k))) *ℤ s ≡ w *ℤ (q *ℤ (m *ℤ er +ℤ (p *ℤ k) *ℤ s))
    gather w q er p k m s = simp products (omega (arith, sums))

-- what the first steps of a node's plan give, sorted by the informed player's action
stage-gives : (g : Numbers) (m v count n s i : ℕ) (nodes : ℕ → Node) (tau : InformedPlan (suc n)) (q : ℕ → ℕ) → RowsAreFull g → s < g.states → NodeKeeps g m v count (nodes i) →
    ((c a o t : ℕ) → c < g.informed_actions → a < g.own_actions → o < g.observations → t < g.states → branches_total (tau c a o t) ≡ q c) →
    (e p k k₁ : ℤ) →
    total (λ x. pos (step_weight g n s (own_plan nodes i (suc n)) tau x)
    *ℤ (e *ℤ (g.reward s x.own x.informed *ℤ k₁) +ℤ p *ℤ ((nodes (step_at (nodes i) x.own x.seen x.own_place).member).vector x.to *ℤ k)))
    (first_steps g n (own_plan nodes i (suc n)) tau)
    ≡ total (λ c. pos (q c) *ℤ total (λ a.
    pos g.row_total *ℤ (pos ((nodes i).mix a) *ℤ (e *ℤ (g.reward s a c *ℤ k₁))) +ℤ (p *ℤ k) *ℤ over_row g s a c (λ o t. steps_worth nodes (nodes i) a o t))
    (below g.own_actions)) (below g.informed_actions)
stage-gives g m v count n s i nodes tau q full ls fit hq e p k k₁ =
    let sigma : OwnPlan (suc n) = own_plan nodes i (suc n) in
    let er = λ (a c : ℕ). e *ℤ (g.reward s a c *ℤ k₁) in
    let worth = λ (a o t : ℕ). steps_worth nodes (nodes i) a o t in
    let inside = λ (a c : ℕ). pos g.row_total *ℤ (pos ((nodes i).mix a) *ℤ er a c) +ℤ (p *ℤ k) *ℤ over_row g s a c (worth a) in
    total-informed_coins g n s sigma tau q hq (λ a c o t u. er a c +ℤ p *ℤ ((nodes (step_at (nodes i) a o u).member).vector t *ℤ k))
    ∙ total-below g.own_actions _ _ (λ a la.
    total-below g.informed_actions _ (λ c. pos (q c) *ℤ inside a c) (λ c lc.
    total-below g.observations _ _ (λ o lo.
    total-below g.states _ _ (λ t lt.
    one_place n nodes i a o t (g.weight s a c o t) (q c) (er a c) p k
    ∙ ap (λ z. pos (g.weight s a c o t) *ℤ (pos (q c) *ℤ (pos z *ℤ er a c +ℤ (p *ℤ k) *ℤ worth a o t))) (fit.steps_sum a o la lo)))
    ∙ over_row-scale g s a c (pos (q c)) (λ o t. pos ((nodes i).mix a) *ℤ er a c +ℤ (p *ℤ k) *ℤ worth a o t)
    ∙ ap (λ z. pos (q c) *ℤ z)
    (over_row-add g s a c (λ o t. pos ((nodes i).mix a) *ℤ er a c) (λ o t. (p *ℤ k) *ℤ worth a o t)
    ∙ ap (λ z. z +ℤ over_row g s a c (λ o t. (p *ℤ k) *ℤ worth a o t)) (total-row g full s a c ls la lc (pos ((nodes i).mix a) *ℤ er a c))
    ∙ ap (λ z. pos g.row_total *ℤ (pos ((nodes i).mix a) *ℤ er a c) +ℤ z) (over_row-scale g s a c (p *ℤ k) (worth a)))))
    ∙ total-swap (λ a c. pos (q c) *ℤ inside a c) (below g.own_actions) (below g.informed_actions)
    ∙ total-below g.informed_actions _ _ (λ c lc. total-scale (pos (q c)) (λ a. inside a c) (below g.own_actions))

pub controller-lower : (g : Numbers) (e m v count : ℕ) (nodes : ℕ → Node) → RowsAreFull g → 1 ≤ m →
    ((i : ℕ) → i < count → NodeKeeps g m v count (nodes i)) → ((i : ℕ) → i < count → NodeGains g e m nodes i) →
    (n₂ n i s : ℕ) (tau : InformedPlan n) → i < count → s < g.states → IsInformedPlan g n₂ n tau →
    ((nodes i).vector s *ℤ pos (g.discount_under ^ n * (g.row_total * m * n₂) ^ n))
    ≤ℤ (pos e *ℤ pay g n s (own_plan nodes i n) tau +ℤ pos (g.discount_over ^ n * v * (g.row_total * m * n₂) ^ n))
controller-lower g e m v count nodes full lm fits rule n₂ zero i s tau li ls informed =
    rw (pow-zero g.discount_under, pow-zero (g.row_total * m * n₂), pow-zero g.discount_over) (omega (arith, ints, (fits i li).at_most s ls))
controller-lower g e m v count nodes full lm fits rule n₂ (suc n) i s tau li ls informed =
    let X = g.row_total * m * n₂ in
    let Q = g.discount_under in
    let K = Q ^ n * X ^ n in
    let K₁ = Q ^ suc n * X ^ n in
    let tail = g.discount_over ^ n * v * X ^ n in
    let own = own_plan-is_plan g m v count nodes lm fits (suc n) i li in
    let p = pos g.discount_over in
    let sigma : OwnPlan (suc n) = own_plan nodes i (suc n) in
    let vector = (nodes i).vector in
    let stage = stage-lower g e m n₂ full n s sigma tau ls own informed tail (λ x. (nodes (step_at (nodes i) x.own x.seen x.own_place).member).vector x.to *ℤ pos K)
    (first_steps-each g n sigma tau
    (λ x. ((nodes (step_at (nodes i) x.own x.seen x.own_place).member).vector x.to *ℤ pos K) ≤ℤ (pos e *ℤ pay g n x.to (own_after n sigma x).1 (informed_after n tau x).1 +ℤ pos tail))
    (λ a c o t u w la lc lo lt lu lw.
    let tau' = (informed_branch n (tau c a o t) w).1 in
    let right = each-at (λ (b : ℕ × InformedPlan n). IsInformedPlan g n₂ n b.1) (0, no_informed_plan n) (tau c a o t) w (informed.rest c a o t lc la lo lt) lw in
    let k = (step_at (nodes i) a o u).member in
    let lu' : u < length (steps_at (nodes i) a o) = subst (λ (z : ℕ). u < z) (len-map (branch_of nodes n) (steps_at (nodes i) a o)) lu in
    let lk = each-at (λ step. step.member < count) no_step (steps_at (nodes i) a o) u ((fits i li).named a o la lo) lu' in
    let P = λ (b : ℕ × OwnPlan n). ((nodes k).vector t *ℤ pos K) ≤ℤ (pos e *ℤ pay g n t b.1 tau' +ℤ pos tail) in
    subst P (sym (get_or-map (branch_of nodes n) (steps_at (nodes i) a o) u no_step (0, no_own_plan n) lu))
    (controller-lower g e m v count nodes full lm fits rule n₂ n k t tau' lk lt right))) in
    let is = stage-gives g m v count n s i nodes tau informed.part full ls (fits i li) informed.same (pos e) p (pos K) (pos K₁) in
    let least : total (λ c. pos (informed.part c) *ℤ (vector s *ℤ pos (m * g.row_total * Q * K))) (below g.informed_actions)
    ≤ℤ total (λ c. pos (informed.part c) *ℤ total (λ a.
    pos g.row_total *ℤ (pos ((nodes i).mix a) *ℤ (pos e *ℤ (g.reward s a c *ℤ pos K₁))) +ℤ (p *ℤ pos K) *ℤ over_row g s a c (λ o t. steps_worth nodes (nodes i) a o t))
    (below g.own_actions)) (below g.informed_actions) =
    total-below-le g.informed_actions _ _ (λ c lc. le-mulℤ (informed.part c) _ _
    (one (vector s) (pos (m * g.row_total * Q)) (pos K)
    (total (λ a. pos ((nodes i).mix a) *ℤ g.reward s a c *ℤ pos (e * g.row_total * Q)) (below g.own_actions))
    p (total (λ a. over_row g s a c (λ o t. steps_worth nodes (nodes i) a o t)) (below g.own_actions)) _
    (total-below g.own_actions _ (λ a. pos K *ℤ (pos ((nodes i).mix a) *ℤ g.reward s a c *ℤ pos (e * g.row_total * Q)) +ℤ (p *ℤ pos K) *ℤ over_row g s a c (λ o t. steps_worth nodes (nodes i) a o t))
    (λ a la. ap (λ z. z +ℤ (p *ℤ pos K) *ℤ over_row g s a c (λ o t. steps_worth nodes (nodes i) a o t))
    (ap (λ z. pos g.row_total *ℤ (pos ((nodes i).mix a) *ℤ (pos e *ℤ (g.reward s a c *ℤ pos z)))) (power Q X n)
    ∙ turn (pos g.row_total) (pos ((nodes i).mix a)) (pos e) (g.reward s a c) (pos Q) (pos K)))
    ∙ total-add _ _ (below g.own_actions)
    ∙ ap (λ z. z +ℤ total (λ a. (p *ℤ pos K) *ℤ over_row g s a c (λ o t. steps_worth nodes (nodes i) a o t)) (below g.own_actions))
    (total-scale (pos K) (λ a. pos ((nodes i).mix a) *ℤ g.reward s a c *ℤ pos (e * g.row_total * Q)) (below g.own_actions))
    ∙ ap (λ z. pos K *ℤ total (λ a. pos ((nodes i).mix a) *ℤ g.reward s a c *ℤ pos (e * g.row_total * Q)) (below g.own_actions) +ℤ z)
    (total-scale (p *ℤ pos K) (λ a. over_row g s a c (λ o t. steps_worth nodes (nodes i) a o t)) (below g.own_actions)))
    (le-mulℤ K _ _ (rule i li s c ls lc)))) in
    let whole = total-weights informed.part (vector s *ℤ pos (m * g.row_total * Q * K)) (below g.informed_actions)
    ∙ ap (λ k. pos k *ℤ (vector s *ℤ pos (m * g.row_total * Q * K))) informed.sums in
    glue _ _ _ _ (pos e *ℤ pay g (suc n) s sigma tau) _ _
    (ap (λ k. vector s *ℤ pos k) (powers g.row_total Q m n₂ n) ∙ mulℤ_left_comm (vector s) (pos n₂) (pos (m * g.row_total * Q * K)) ∙ sym whole)
    least is stage (ap pos (tails g.row_total g.discount_over m n₂ v n))
  where
    turn : (d m e r q k : ℤ) → d *ℤ (m *ℤ (e *ℤ (r *ℤ (q *ℤ k)))) ≡ k *ℤ ((m *ℤ r) *ℤ ((e *ℤ d) *ℤ q))
    turn d m e r q k = simp products (omega (arith, sums))

    one : (x d k r p y row : ℤ) → row ≡ k *ℤ r +ℤ (p *ℤ k) *ℤ y → (k *ℤ (x *ℤ d)) ≤ℤ (k *ℤ (r +ℤ p *ℤ y)) → (x *ℤ (d *ℤ k)) ≤ℤ row
    one x d k r p y row is h =
        let left : k *ℤ (x *ℤ d) ≡ x *ℤ (d *ℤ k) = simp products (omega (arith, sums)) in
        let right : k *ℤ (r +ℤ p *ℤ y) ≡ k *ℤ r +ℤ (p *ℤ k) *ℤ y = simp products (omega (arith, sums)) in
        omega (arith, sums, left, right, is)

    power : (Q X n : ℕ) → Q ^ suc n * X ^ n ≡ Q * (Q ^ n * X ^ n)
    power Q X n = omega (arith, ap (λ (z : ℕ). z * X ^ n) (pow-suc Q n))

    powers : (D Q m₁ m n : ℕ) → Q ^ suc n * (D * m₁ * m) ^ suc n ≡ m * (m₁ * D * Q * (Q ^ n * (D * m₁ * m) ^ n))
    powers D Q m₁ m n = rw (pow-suc Q n, pow-suc (D * m₁ * m) n) (omega arith)

    tails : (D P m₁ m v n : ℕ) → D * m₁ * m * (P * (P ^ n * v * (D * m₁ * m) ^ n)) ≡ P ^ suc n * v * (D * m₁ * m) ^ suc n
    tails D P m₁ m v n = rw (pow-suc P n, pow-suc (D * m₁ * m) n) (omega arith)

    glue : (want s₁ s₂ s₃ y t₁ t₂ : ℤ) → want ≡ s₁ → s₁ ≤ℤ s₂ → s₃ ≡ s₂ → s₃ ≤ℤ (y +ℤ t₁) → t₁ ≡ t₂ → want ≤ℤ (y +ℤ t₂)
    glue want s₁ s₂ s₃ y t₁ t₂ a b c d e = omega (arith, sums)

pub controller-earns : ControllerEarns
controller-earns g e m v count nodes full lm fits rule n₂ n i s tau li ls informed =
    less_tail ((nodes i).vector s) (pos (g.discount_under ^ n)) (pos (g.discount_over ^ n * v)) (pos ((g.row_total * m * n₂) ^ n))
    (pos e *ℤ pay g n s (own_plan nodes i n) tau)
    (controller-lower g e m v count nodes full lm fits rule n₂ n i s tau li ls informed)

pub controller-earns_family : ControllerEarnsFamily
controller-earns_family g e m v count nodes belief full lm fits stand n₂ n i family li right =
    family-lower g.states e (g.discount_under ^ n) ((g.row_total * m * n₂) ^ n) (g.discount_over ^ n * v) belief (nodes i).vector (λ s. pay g n s (own_plan nodes i n) (family s))
    (λ s ls. controller-lower g e m v count nodes full lm fits stand n₂ n i s (family s) li ls (right s ls))
