-- What a plan of player one earns at least.
use Rattle.std.proofs.Common.{◌≡◌, ℕ, suc, zero, ◌*◌, ◌^◌, ◌<◌, [], ◌∷◌, length, refl, ap, subst, arith, sym, ◌∙◌}
use Rattle.std.specs.Prelude.{ℤ, pos, ◌+ℤ◌, ◌-ℤ◌, ◌*ℤ◌, ◌≤ℤ◌, cond, ◌==◌, Bool, true, false}
use Rattle.std.specs.List.{AllByRecursion}
use Rattle.std.proofs.Math.Nat.{pow-zero, pow-suc}
use Rattle.std.proofs.lemmas.Int.{ints}
use Rattle.scaled_num.specs.Sums.{total, below}
use Rattle.game_model.specs.Numbers.{Numbers, over_row, RowsAreFull}
use Rattle.game_model.specs.Plan.{OwnPlan, InformedPlan, IsOwnPlan, IsInformedPlan, branches_total}
use Rattle.game_model.specs.Play.{Step, first_steps, step_weight, own_branch, informed_branch, own_after, informed_after, no_informed_plan, pay, always}
use Rattle.game_model.specs.Laws.{AlwaysStands, AlwaysEarns}
use Rattle.scaled_num.proofs.Products.{mulℤ_assoc, mulℤ_left_comm, le-mulℤ, add-mulℤ, products, sums}
use Rattle.scaled_num.proofs.Sums.{total-scale, total-add, total-same, total-le, total-below, total-below-le, total-weights, total-single, sum-single, each, each-at}
use Rattle.game_model.proofs.Steps.{first_steps-each, total-step_weight, total-coins_row, total-row, over_row-add, over_row-scale}
use Rattle.game_model.proofs.Pay.{each-from, step_pay, pay-first_steps}

-- One stage: where each plan of what is left earns at least `low`, less a tail, both plans earn at least what
-- the first steps give with `low` in place of what is left, less the tail of this stage.
pub stage-lower : (g : Numbers) (e n₁ n₂ : ℕ) → RowsAreFull g → (n s : ℕ) (sigma : OwnPlan (suc n)) (tau : InformedPlan (suc n)) →
    s < g.states → IsOwnPlan g n₁ (suc n) sigma → IsInformedPlan g n₂ (suc n) tau →
    (tail : ℕ) (low : Step → ℤ) →
    AllByRecursion (λ x. low x ≤ℤ (pos e *ℤ pay g n x.to (own_after n sigma x).1 (informed_after n tau x).1 +ℤ pos tail)) (first_steps g n sigma tau) →
    total (λ x. pos (step_weight g n s sigma tau x) *ℤ
    (pos e *ℤ (g.reward s x.own x.informed *ℤ pos (g.discount_under ^ suc n * (g.row_total * n₁ * n₂) ^ n)) +ℤ pos g.discount_over *ℤ low x)) (first_steps g n sigma tau)
    ≤ℤ (pos e *ℤ pay g (suc n) s sigma tau +ℤ pos (g.row_total * n₁ * n₂) *ℤ (pos g.discount_over *ℤ pos tail))
stage-lower g e n₁ n₂ full n s sigma tau ls own informed tail low h =
    let steps = first_steps g n sigma tau in
    let X = g.row_total * n₁ * n₂ in
    let w = λ (x : Step). pos (step_weight g n s sigma tau x) in
    let p = pos g.discount_over in
    let gone = p *ℤ pos tail in
    let is : total (λ x. w x *ℤ (pos e *ℤ step_pay g X n s sigma tau x +ℤ gone)) steps ≡ pos e *ℤ pay g (suc n) s sigma tau +ℤ pos X *ℤ gone =
    total-same _ (λ x. pos e *ℤ (w x *ℤ step_pay g X n s sigma tau x) +ℤ w x *ℤ gone) steps
    (each (λ x. spread (w x) (pos e) (step_pay g X n s sigma tau x) gone) steps)
    ∙ total-add _ _ steps
    ∙ ap (λ z. z +ℤ total (λ x. w x *ℤ gone) steps)
    (total-scale (pos e) (λ x. w x *ℤ step_pay g X n s sigma tau x) steps ∙ ap (λ z. pos e *ℤ z) (sym (pay-first_steps g n₁ n₂ full n s sigma tau own informed)))
    ∙ ap (λ z. pos e *ℤ pay g (suc n) s sigma tau +ℤ z) (total-step_weight g n₁ n₂ n s sigma tau full ls own informed gone) in
    let goal = λ (z : ℤ). total (λ x. w x *ℤ (pos e *ℤ (g.reward s x.own x.informed *ℤ pos (g.discount_under ^ suc n * X ^ n)) +ℤ p *ℤ low x)) steps ≤ℤ z in
    subst goal is
    (total-le _ (λ x. w x *ℤ (pos e *ℤ step_pay g X n s sigma tau x +ℤ gone)) steps
    (each-from (λ x. low x ≤ℤ (pos e *ℤ pay g n x.to (own_after n sigma x).1 (informed_after n tau x).1 +ℤ pos tail)) _ steps
    (λ x l. le-mulℤ (step_weight g n s sigma tau x) _ _
    (one (g.reward s x.own x.informed *ℤ pos (g.discount_under ^ suc n * X ^ n)) (low x) (pay g n x.to (own_after n sigma x).1 (informed_after n tau x).1) (pos tail) g.discount_over (pos e) l))
    h))
  where
    spread : (w e z k : ℤ) → w *ℤ (e *ℤ z +ℤ k) ≡ e *ℤ (w *ℤ z) +ℤ w *ℤ k
    spread w e z k = simp products (omega (arith, sums))

    same : (p e r y t : ℤ) → e *ℤ r +ℤ p *ℤ (e *ℤ y +ℤ t) ≡ e *ℤ (r +ℤ p *ℤ y) +ℤ p *ℤ t
    same p e r y t = simp products (omega (arith, sums))

    one : (r l y t : ℤ) (p : ℕ) (e : ℤ) → l ≤ℤ (e *ℤ y +ℤ t) → (e *ℤ r +ℤ pos p *ℤ l) ≤ℤ (e *ℤ (r +ℤ pos p *ℤ y) +ℤ pos p *ℤ t)
    one r l y t p e h = let more = le-mulℤ p l (e *ℤ y +ℤ t) h in omega (arith, sums, same (pos p) e r y t)

-- a plan of one branch, or of none
one_branch-total : {X : Type 0} (x : X) (t : Bool) → branches_total (cond t ((1, x) ∷ []) []) ≡ cond t 1 0
one_branch-total x true = refl
one_branch-total x false = refl

one_branch-each : {X : Type 0} (P : X → Type 0) (x : X) (t : Bool) → P x → AllByRecursion (λ (branch : ℕ × X). P branch.1) (cond t ((1, x) ∷ []) [])
one_branch-each P x true h = (h, tt)
one_branch-each P x false h = tt

-- `always` is a right plan of total 1
pub always-is_plan : (g : Numbers) (a : ℕ) → a < g.own_actions → (n : ℕ) → IsOwnPlan g 1 n (always a n)
always-is_plan g a la zero = tt
always-is_plan g a la (suc n) =
    record {
      some = omega arith;
      part = λ own. cond (own == a) 1 0;
      same = λ own seen lo ls. one_branch-total (always a n) (own == a);
      sums = sum-single a g.own_actions la;
      rest = λ own seen lo ls. one_branch-each (IsOwnPlan g 1 n) (always a n) (own == a) (always-is_plan g a la n);
    }

-- the only plan that a branch of `always` leads to
after-always : (n a : ℕ) (t : Bool) (u : ℕ) → u < length {A = ℕ × OwnPlan n} (cond t ((1, always a n) ∷ []) []) →
    always a n ≡ (own_branch n (cond t ((1, always a n) ∷ []) []) u).1
after-always n a true zero l = refl
after-always n a true (suc u) l = absurd (omega arith)
after-always n a false u l = absurd (omega arith)

-- the sum over a row of what one stage of an always-same plan gives
row-gives : (g : Numbers) (e : ℤ) (vector : ℕ → ℤ) → RowsAreFull g → (s a c : ℕ) → s < g.states → a < g.own_actions → c < g.informed_actions → (r k₁ p k : ℤ) →
    over_row g s a c (λ o t. e *ℤ (r *ℤ k₁) +ℤ p *ℤ (vector t *ℤ k)) ≡ pos g.row_total *ℤ (e *ℤ (r *ℤ k₁)) +ℤ (p *ℤ k) *ℤ over_row g s a c (λ o t. vector t)
row-gives g e vector full s a c ls la lc r k₁ p k =
    over_row-add g s a c (λ o t. e *ℤ (r *ℤ k₁)) (λ o t. p *ℤ (vector t *ℤ k))
    ∙ ap (λ z. z +ℤ over_row g s a c (λ o t. p *ℤ (vector t *ℤ k))) (total-row g full s a c ls la lc (e *ℤ (r *ℤ k₁)))
    ∙ ap (λ z. pos g.row_total *ℤ (e *ℤ (r *ℤ k₁)) +ℤ z)
    (total-below g.observations _ _ (λ o lo. total-below g.states _ _ (λ t lt. ap (λ z. pos (g.weight s a c o t) *ℤ z) (turn p (vector t) k)))
    ∙ over_row-scale g s a c (p *ℤ k) (λ o t. vector t))
  where
    turn : (p x k : ℤ) → p *ℤ (x *ℤ k) ≡ (p *ℤ k) *ℤ x
    turn p x k = simp products (omega (arith, sums))

-- the lower half for `always`, with the tail on the other side
pub always-lower : (g : Numbers) (e n₂ a v : ℕ) (vector : ℕ → ℤ) → RowsAreFull g → a < g.own_actions →
    ((s : ℕ) → s < g.states → vector s ≤ℤ pos v) → AlwaysStands g e a vector →
    (n s : ℕ) (tau : InformedPlan n) → s < g.states → IsInformedPlan g n₂ n tau →
    (vector s *ℤ pos (g.discount_under ^ n * (g.row_total * 1 * n₂) ^ n))
    ≤ℤ (pos e *ℤ pay g n s (always a n) tau +ℤ pos (g.discount_over ^ n * v * (g.row_total * 1 * n₂) ^ n))
always-lower g e n₂ a v vector full la most rule zero s tau ls informed =
    rw (pow-zero g.discount_under, pow-zero (g.row_total * 1 * n₂), pow-zero g.discount_over) (omega (arith, ints, most s ls))
always-lower g e n₂ a v vector full la most rule (suc n) s tau ls informed =
    let X = g.row_total * 1 * n₂ in
    let Q = g.discount_under in
    let K = Q ^ n * X ^ n in
    let K₁ = Q ^ suc n * X ^ n in
    let tail = g.discount_over ^ n * v * X ^ n in
    let own = always-is_plan g a la (suc n) in
    let p = pos g.discount_over in
    let sigma : OwnPlan (suc n) = always a (suc n) in
    let f = λ (a' c o t : ℕ). pos e *ℤ (g.reward s a' c *ℤ pos K₁) +ℤ p *ℤ (vector t *ℤ pos K) in
    let stage = stage-lower g e 1 n₂ full n s sigma tau ls own informed tail (λ x. vector x.to *ℤ pos K)
    (first_steps-each g n sigma tau (λ x. (vector x.to *ℤ pos K) ≤ℤ (pos e *ℤ pay g n x.to (own_after n sigma x).1 (informed_after n tau x).1 +ℤ pos tail))
    (λ a' c o t u w la' lc lo lt lu lw.
    let tau' = (informed_branch n (tau c a' o t) w).1 in
    let right = each-at (λ (b : ℕ × InformedPlan n). IsInformedPlan g n₂ n b.1) (0, no_informed_plan n) (tau c a' o t) w (informed.rest c a' o t lc la' lo lt) lw in
    let P = λ (plan : OwnPlan n). (vector t *ℤ pos K) ≤ℤ (pos e *ℤ pay g n t plan tau' +ℤ pos tail) in
    subst P (after-always n a (a' == a) u lu) (always-lower g e n₂ a v vector full la most rule n t tau' lt right))) in
    let is = total-coins_row g n s sigma tau (λ i. cond (i == a) 1 0) informed.part (λ i o li lo. one_branch-total (always a n) (i == a)) informed.same f
    ∙ total-single (λ a'. total (λ c. pos (informed.part c) *ℤ over_row g s a' c (f a' c)) (below g.informed_actions)) a g.own_actions la in
    let least : total (λ c. pos (informed.part c) *ℤ (vector s *ℤ pos (g.row_total * Q * K))) (below g.informed_actions)
    ≤ℤ total (λ c. pos (informed.part c) *ℤ over_row g s a c (f a c)) (below g.informed_actions) =
    total-below-le g.informed_actions _ _ (λ c lc. le-mulℤ (informed.part c) _ _
    (one (vector s) (pos g.row_total) (pos Q) (pos K) (pos e) (g.reward s a c) p (over_row g s a c (λ o t. vector t)) (over_row g s a c (f a c)) (pos K₁)
    (row-gives g (pos e) vector full s a c ls la lc (g.reward s a c) (pos K₁) p (pos K))
    (ap pos (power Q X n))
    (le-mulℤ K _ _ (rule s c ls lc)))) in
    let whole = total-weights informed.part (vector s *ℤ pos (g.row_total * Q * K)) (below g.informed_actions)
    ∙ ap (λ k. pos k *ℤ (vector s *ℤ pos (g.row_total * Q * K))) informed.sums in
    glue _ _ _ _ (pos e *ℤ pay g (suc n) s sigma tau) _ _
    (ap (λ k. vector s *ℤ pos k) (powers g.row_total Q n₂ n) ∙ mulℤ_left_comm (vector s) (pos n₂) (pos (g.row_total * Q * K)) ∙ sym whole)
    least is stage (ap pos (tails g.row_total g.discount_over n₂ v n))
  where
    one : (x d q k e r p y row k₁ : ℤ) → row ≡ d *ℤ (e *ℤ (r *ℤ k₁)) +ℤ (p *ℤ k) *ℤ y → k₁ ≡ q *ℤ k →
        (k *ℤ (x *ℤ (d *ℤ q))) ≤ℤ (k *ℤ ((e *ℤ r) *ℤ (d *ℤ q) +ℤ p *ℤ y)) → (x *ℤ ((d *ℤ q) *ℤ k)) ≤ℤ row
    one x d q k e r p y row k₁ is once h =
        let left : k *ℤ (x *ℤ (d *ℤ q)) ≡ x *ℤ ((d *ℤ q) *ℤ k) = simp products (omega (arith, sums)) in
        let right : k *ℤ ((e *ℤ r) *ℤ (d *ℤ q) +ℤ p *ℤ y) ≡ d *ℤ (e *ℤ (r *ℤ (q *ℤ k))) +ℤ (p *ℤ k) *ℤ y = simp products (omega (arith, sums)) in
        let ends : row ≡ d *ℤ (e *ℤ (r *ℤ (q *ℤ k))) +ℤ (p *ℤ k) *ℤ y = is ∙ ap (λ z. d *ℤ (e *ℤ (r *ℤ z)) +ℤ (p *ℤ k) *ℤ y) once in
        omega (arith, sums, left, right, ends)

    power : (Q X n : ℕ) → Q ^ suc n * X ^ n ≡ Q * (Q ^ n * X ^ n)
    power Q X n = omega (arith, ap (λ (z : ℕ). z * X ^ n) (pow-suc Q n))

    powers : (D Q m n : ℕ) → Q ^ suc n * (D * 1 * m) ^ suc n ≡ m * (D * Q * (Q ^ n * (D * 1 * m) ^ n))
    powers D Q m n = rw (pow-suc Q n, pow-suc (D * 1 * m) n) (omega arith)

    tails : (D P m v n : ℕ) → D * 1 * m * (P * (P ^ n * v * (D * 1 * m) ^ n)) ≡ P ^ suc n * v * (D * 1 * m) ^ suc n
    tails D P m v n = rw (pow-suc P n, pow-suc (D * 1 * m) n) (omega arith)

    glue : (want s₁ s₂ s₃ y t₁ t₂ : ℤ) → want ≡ s₁ → s₁ ≤ℤ s₂ → s₃ ≡ s₂ → s₃ ≤ℤ (y +ℤ t₁) → t₁ ≡ t₂ → want ≤ℤ (y +ℤ t₂)
    glue want s₁ s₂ s₃ y t₁ t₂ a b c d e = omega (arith, sums)

-- the tail on the other side of the order
pub less_tail : (x q t y z : ℤ) → (x *ℤ (q *ℤ y)) ≤ℤ (z +ℤ t *ℤ y) → ((x *ℤ q -ℤ t) *ℤ y) ≤ℤ z
less_tail x q t y z h =
    let one : (x *ℤ q -ℤ t) *ℤ y +ℤ t *ℤ y ≡ x *ℤ (q *ℤ y) =
    sym (add-mulℤ (x *ℤ q -ℤ t) t y) ∙ ap (λ w. w *ℤ y) (back (x *ℤ q) t) ∙ mulℤ_assoc x q y in
    omega (arith, sums, one)
  where
    back : (x t : ℤ) → x -ℤ t +ℤ t ≡ x
    back x t = omega (arith, sums)

pub always-earns : AlwaysEarns
always-earns g e v a vector full la most rule n₂ n s tau ls informed =
    let lower = always-lower g e n₂ a v vector full la most rule n s tau ls informed in
    let same : g.row_total * 1 * n₂ ≡ g.row_total * n₂ = omega arith in
    less_tail (vector s) (pos (g.discount_under ^ n)) (pos (g.discount_over ^ n * v)) (pos ((g.row_total * n₂) ^ n)) (pos e *ℤ pay g n s (always a n) tau)
    (rw same at lower)
