-- The weights of all plays, and pay by its first steps.
use Rattle.std.proofs.Common.{◌≡◌, ℕ, suc, zero, ◌*◌, ◌^◌, ◌<◌, List, [], ◌∷◌, length, refl, ap, arith, sym, ◌∙◌}
use Rattle.std.specs.Prelude.{ℤ, pos, ◌+ℤ◌, ◌*ℤ◌, sum_by}
use Rattle.std.specs.List.{AllByRecursion}
use Rattle.std.proofs.Math.Nat.{pow-zero, pow-suc}
use borrow.Author.Differences.{up}
use Rattle.scaled_num.specs.Sums.{total}
use Rattle.game_model.specs.Numbers.{Numbers, RowsAreFull}
use Rattle.game_model.specs.Plan.{OwnPlan, InformedPlan, IsOwnPlan, IsInformedPlan}
use Rattle.game_model.specs.Play.{Step, first_steps, step_weight, own_after, informed_after, no_own_plan, no_informed_plan, plays, play_weight, gain, pay}
use Rattle.scaled_num.proofs.Products.{products, sums}
use Rattle.scaled_num.proofs.Sums.{total-flat_map, total-map, total-scale, total-add, total-same, total-pos, each, each-flat_map, each-map, each-at}
use Rattle.game_model.proofs.Steps.{first_steps-each, total-step_weight}

-- what a first step leads to: a state, and right plans of the stages that are left
pub record LeadsOn (g : Numbers) (n₁ n₂ n : ℕ) (sigma : OwnPlan (suc n)) (tau : InformedPlan (suc n)) (x : Step) : Type 0 where
  pub to : x.to < g.states
  pub own : IsOwnPlan g n₁ n (own_after n sigma x).1
  pub informed : IsInformedPlan g n₂ n (informed_after n tau x).1

pub leads_on : (g : Numbers) (n₁ n₂ n : ℕ) (sigma : OwnPlan (suc n)) (tau : InformedPlan (suc n)) →
    IsOwnPlan g n₁ (suc n) sigma → IsInformedPlan g n₂ (suc n) tau → AllByRecursion (LeadsOn g n₁ n₂ n sigma tau) (first_steps g n sigma tau)
leads_on g n₁ n₂ n sigma tau own informed =
    first_steps-each g n sigma tau (LeadsOn g n₁ n₂ n sigma tau) (λ a c o t u v la lc lo lt lu lv. record {
      to = lt;
      own = each-at (λ (b : ℕ × OwnPlan n). IsOwnPlan g n₁ n b.1) (0, no_own_plan n) (sigma a o) u (own.rest a o la lo) lu;
      informed = each-at (λ (b : ℕ × InformedPlan n). IsInformedPlan g n₂ n b.1) (0, no_informed_plan n) (tau c a o t) v (informed.rest c a o t lc la lo lt) lv;
    })

-- what follows from a fact of each element
pub each-from : {X : Type 0} (P Q : X → Type 0) (xs : List X) → ((x : X) → P x → Q x) → AllByRecursion P xs → AllByRecursion Q xs
each-from P Q [] f h = tt
each-from P Q (x ∷ xs) f h = (f x h.0, each-from P Q xs f h.1)

-- a sum over all plays is a sum over the first steps, of sums over the plays of what is left
pub total-plays : (g : Numbers) (n : ℕ) (sigma : OwnPlan (suc n)) (tau : InformedPlan (suc n)) (f : List Step → ℤ) →
    total f (plays g (suc n) sigma tau)
    ≡ total (λ x. total (λ rest. f (x ∷ rest)) (plays g n (own_after n sigma x).1 (informed_after n tau x).1)) (first_steps g n sigma tau)
total-plays g n sigma tau f =
    total-flat_map f _ (first_steps g n sigma tau)
    ∙ total-same _ _ (first_steps g n sigma tau)
    (each (λ x. total-map f (λ rest. x ∷ rest) (plays g n (own_after n sigma x).1 (informed_after n tau x).1)) (first_steps g n sigma tau))

-- the sum of the weights of all plays
pub total-play_weight : (g : Numbers) (n₁ n₂ : ℕ) → RowsAreFull g → (n s : ℕ) (sigma : OwnPlan n) (tau : InformedPlan n) →
    s < g.states → IsOwnPlan g n₁ n sigma → IsInformedPlan g n₂ n tau →
    total (λ play. pos (play_weight g n s sigma tau play)) (plays g n sigma tau) ≡ pos ((g.row_total * n₁ * n₂) ^ n)
total-play_weight g n₁ n₂ full zero s sigma tau ls own informed = ap pos (sym (pow-zero (g.row_total * n₁ * n₂)))
total-play_weight g n₁ n₂ full (suc n) s sigma tau ls own informed =
    let X = g.row_total * n₁ * n₂ in
    total-plays g n sigma tau (λ play. pos (play_weight g (suc n) s sigma tau play))
    ∙ total-same _ (λ x. pos (step_weight g n s sigma tau x) *ℤ pos (X ^ n)) (first_steps g n sigma tau)
    (each-from (LeadsOn g n₁ n₂ n sigma tau) _ (first_steps g n sigma tau)
    (λ x on.
    total-scale (pos (step_weight g n s sigma tau x))
    (λ play. pos (play_weight g n x.to (own_after n sigma x).1 (informed_after n tau x).1 play))
    (plays g n (own_after n sigma x).1 (informed_after n tau x).1)
    ∙ ap (λ k. pos (step_weight g n s sigma tau x) *ℤ k)
    (total-play_weight g n₁ n₂ full n x.to (own_after n sigma x).1 (informed_after n tau x).1 on.to on.own on.informed))
    (leads_on g n₁ n₂ n sigma tau own informed))
    ∙ total-step_weight g n₁ n₂ n s sigma tau full ls own informed (pos (X ^ n))
    ∙ ap pos (omega (arith, pow-suc X n))

pub sum-play_weight : (g : Numbers) (n₁ n₂ : ℕ) → RowsAreFull g → (n s : ℕ) (sigma : OwnPlan n) (tau : InformedPlan n) →
    s < g.states → IsOwnPlan g n₁ n sigma → IsInformedPlan g n₂ n tau →
    sum_by (play_weight g n s sigma tau) (plays g n sigma tau) ≡ (g.row_total * n₁ * n₂) ^ n
sum-play_weight g n₁ n₂ full n s sigma tau ls own informed =
    ap up (sym (total-pos (play_weight g n s sigma tau) (plays g n sigma tau)) ∙ total-play_weight g n₁ n₂ full n s sigma tau ls own informed)

-- each play of n stages has n steps
pub plays-length : (g : Numbers) (n : ℕ) (sigma : OwnPlan n) (tau : InformedPlan n) → AllByRecursion (λ play. length play ≡ n) (plays g n sigma tau)
plays-length g zero sigma tau = (refl, tt)
plays-length g (suc n) sigma tau =
    each-flat_map (λ play. length play ≡ suc n) _ (first_steps g n sigma tau)
    (each (λ x. each-map (λ play. length play ≡ suc n) _ (plays g n (own_after n sigma x).1 (informed_after n tau x).1)
    (each-from (λ play. length play ≡ n) _ (plays g n (own_after n sigma x).1 (informed_after n tau x).1) (λ rest e. ap suc e)
    (plays-length g n (own_after n sigma x).1 (informed_after n tau x).1)))
    (first_steps g n sigma tau))

-- a first step's part of pay
abbrev pub step_pay : Numbers → ℕ → (n : ℕ) → ℕ → OwnPlan (suc n) → InformedPlan (suc n) → Step → ℤ
step_pay g whole n s sigma tau x =
    g.reward s x.own x.informed *ℤ pos (g.discount_under ^ suc n * whole ^ n)
    +ℤ pos g.discount_over *ℤ pay g n x.to (own_after n sigma x).1 (informed_after n tau x).1

pay-step : (g : Numbers) (n₁ n₂ : ℕ) → RowsAreFull g → (n s : ℕ) (sigma : OwnPlan (suc n)) (tau : InformedPlan (suc n)) →
    IsOwnPlan g n₁ (suc n) sigma → IsInformedPlan g n₂ (suc n) tau → (x : Step) → LeadsOn g n₁ n₂ n sigma tau x →
    total (λ rest. pos (play_weight g (suc n) s sigma tau (x ∷ rest)) *ℤ gain g s (x ∷ rest)) (plays g n (own_after n sigma x).1 (informed_after n tau x).1)
    ≡ pos (step_weight g n s sigma tau x) *ℤ step_pay g (g.row_total * n₁ * n₂) n s sigma tau x
pay-step g n₁ n₂ full n s sigma tau own informed x on =
    let own' = (own_after n sigma x).1 in
    let informed' = (informed_after n tau x).1 in
    let rests = plays g n own' informed' in
    let w = pos (step_weight g n s sigma tau x) in
    let r = g.reward s x.own x.informed in
    let c = r *ℤ pos (g.discount_under ^ suc n) in
    let p = pos g.discount_over in
    let h = λ (rest : List Step). pos (play_weight g n x.to own' informed' rest) in
    let k = λ (rest : List Step). gain g x.to rest in
    total-same _ (λ rest. (w *ℤ c) *ℤ h rest +ℤ (w *ℤ p) *ℤ (h rest *ℤ k rest)) rests
    (each-from (λ rest. length rest ≡ n) _ rests
    (λ rest e. ap (λ m. (w *ℤ h rest) *ℤ (r *ℤ pos (g.discount_under ^ suc m) +ℤ p *ℤ k rest)) e ∙ spread w (h rest) c p (k rest))
    (plays-length g n own' informed'))
    ∙ total-add _ _ rests
    ∙ ap (λ z. z +ℤ total (λ rest. (w *ℤ p) *ℤ (h rest *ℤ k rest)) rests)
    (total-scale (w *ℤ c) h rests ∙ ap (λ z. (w *ℤ c) *ℤ z) (total-play_weight g n₁ n₂ full n x.to own' informed' on.to on.own on.informed))
    ∙ ap (λ z. (w *ℤ c) *ℤ pos ((g.row_total * n₁ * n₂) ^ n) +ℤ z) (total-scale (w *ℤ p) (λ rest. h rest *ℤ k rest) rests)
    ∙ gather w r (pos (g.discount_under ^ suc n)) (pos ((g.row_total * n₁ * n₂) ^ n)) p (pay g n x.to own' informed')
  where
    spread : (w h c p k : ℤ) → (w *ℤ h) *ℤ (c +ℤ p *ℤ k) ≡ (w *ℤ c) *ℤ h +ℤ (w *ℤ p) *ℤ (h *ℤ k)
    spread w h c p k = simp products (omega (arith, sums))

    gather : (w r q y p z : ℤ) → (w *ℤ (r *ℤ q)) *ℤ y +ℤ (w *ℤ p) *ℤ z ≡ w *ℤ (r *ℤ (q *ℤ y) +ℤ p *ℤ z)
    gather w r q y p z = simp products (omega (arith, sums))

pub pay-first_steps : (g : Numbers) (n₁ n₂ : ℕ) → RowsAreFull g → (n s : ℕ) (sigma : OwnPlan (suc n)) (tau : InformedPlan (suc n)) →
    IsOwnPlan g n₁ (suc n) sigma → IsInformedPlan g n₂ (suc n) tau →
    pay g (suc n) s sigma tau ≡ total (λ x. pos (step_weight g n s sigma tau x) *ℤ step_pay g (g.row_total * n₁ * n₂) n s sigma tau x) (first_steps g n sigma tau)
pay-first_steps g n₁ n₂ full n s sigma tau own informed =
    total-plays g n sigma tau (λ play. pos (play_weight g (suc n) s sigma tau play) *ℤ gain g s play)
    ∙ total-same _ _ (first_steps g n sigma tau)
    (each-from (LeadsOn g n₁ n₂ n sigma tau) _ (first_steps g n sigma tau)
    (λ x on. pay-step g n₁ n₂ full n s sigma tau own informed x on)
    (leads_on g n₁ n₂ n sigma tau own informed))
