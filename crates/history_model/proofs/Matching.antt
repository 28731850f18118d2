-- Plans that play as weights say, and that both pay the same.
use Rattle.std.proofs.Common.{◌≡◌, ℕ, suc, zero, ◌*◌, ◌^◌, List, [], ◌∷◌, ◌++◌, length, refl, ap, arith, sym, ◌∙◌}
use Rattle.std.specs.Prelude.{ℤ, pos, ◌+ℤ◌, ◌*ℤ◌}
use borrow.Author.Differences.{up}
use Rattle.std.proofs.lemmas.Int.{ints}
use Rattle.scaled_num.specs.Sums.{below, total}
use Rattle.scaled_num.proofs.Products.{products, sums}
use Rattle.scaled_num.proofs.Sums.{each, total-below, total-places, total-pos, total-same, total-scale}
use Rattle.game_model.specs.Numbers.{Numbers}
use Rattle.game_model.specs.Plan.{InformedPlan, OwnPlan}
use Rattle.game_model.specs.Play.{Step, first_steps, gain, informed_after, no_informed_plan, no_own_plan, own_after, own_branch, play_weight, plays, step_weight}
use Rattle.game_model.proofs.Pay.{each-from, plays-length, sum-play_weight, total-plays}
use Rattle.game_model.proofs.Steps.{total-first_steps}
use Rattle.history_model.specs.Courses.{InformedWeights, OwnWeights, Stage, chance, courses, stages, worth}
use Rattle.history_model.specs.Playing.{CoursesWeigh, InformedPlaysAs, OwnPlaysAs, PlansPay, PlansWeigh, stage_of}
use Rattle.history_model.proofs.Courses.{chance-first, chance_after, first_weight, total-courses, total-stages, worth-first}

-- both sums of an affine function of the gain
abbrev of_plans : Numbers → (n : ℕ) → ℕ → OwnPlan n → InformedPlan n → ℤ → ℤ → ℤ
of_plans g n s sigma tau x y = total (λ play. pos (play_weight g n s sigma tau play) *ℤ (x +ℤ y *ℤ gain g s play)) (plays g n sigma tau)

abbrev pub of_weights : Numbers → ℕ → ℕ → OwnWeights → InformedWeights → (n : ℕ) → List Stage → ℕ → ℤ → ℤ → ℤ
of_weights g U V own informed n past s x y =
    total (λ course. pos (chance_after g past n s own informed course) *ℤ (x +ℤ y *ℤ worth g n s course)) (courses g U V n)

spread : (w h x y r q p k : ℤ) → (w *ℤ h) *ℤ (x +ℤ y *ℤ (r *ℤ q +ℤ p *ℤ k)) ≡ w *ℤ (h *ℤ ((x +ℤ y *ℤ (r *ℤ q)) +ℤ (y *ℤ p) *ℤ k))
spread w h x y r q p k = simp products (omega (arith, sums))

-- what a first stage adds
abbrev pub next_x : Numbers → ℕ → ℕ → ℕ → ℕ → ℤ → ℤ → ℤ
next_x g n s a c x y = x +ℤ y *ℤ (g.reward s a c *ℤ pos (g.discount_under ^ suc n))

abbrev pub next_y : Numbers → ℤ → ℤ
next_y g y = y *ℤ pos g.discount_over

-- a factor, and two sums of weights
factors : {X Y : Type 0} (w : ℕ) (f : X → ℕ) (h : Y → ℕ) (k : X → Y → ℤ) (xs : List X) (ys : List Y) →
    total (λ x. total (λ y. pos (w * f x * h y) *ℤ k x y) ys) xs ≡ pos w *ℤ total (λ x. pos (f x) *ℤ total (λ y. pos (h y) *ℤ k x y) ys) xs
factors w f h k xs ys =
    total-same _ (λ x. pos w *ℤ (pos (f x) *ℤ total (λ y. pos (h y) *ℤ k x y) ys)) xs (each (λ x.
    total-same _ (λ y. (pos w *ℤ pos (f x)) *ℤ (pos (h y) *ℤ k x y)) ys (each (λ y. one (pos w) (pos (f x)) (pos (h y)) (k x y)) ys)
    ∙ total-scale (pos w *ℤ pos (f x)) (λ y. pos (h y) *ℤ k x y) ys
    ∙ two (pos w) (pos (f x)) (total (λ y. pos (h y) *ℤ k x y) ys)) xs)
    ∙ total-scale (pos w) (λ x. pos (f x) *ℤ total (λ y. pos (h y) *ℤ k x y) ys) xs
  where
    one : (w f h k : ℤ) → ((w *ℤ f) *ℤ h) *ℤ k ≡ (w *ℤ f) *ℤ (h *ℤ k)
    one w f h k = simp products (omega (arith, sums))

    two : (w f k : ℤ) → (w *ℤ f) *ℤ k ≡ w *ℤ (f *ℤ k)
    two w f k = simp products (omega (arith, sums))

plans-first : (g : Numbers) (n s : ℕ) (sigma : OwnPlan (suc n)) (tau : InformedPlan (suc n)) (x y : ℤ) →
    of_plans g (suc n) s sigma tau x y
    ≡ total (λ a. total (λ c. total (λ o. total (λ t.
    pos (g.weight s a c o t) *ℤ total (λ (b : ℕ × OwnPlan n). pos b.0 *ℤ total (λ (d : ℕ × InformedPlan n). pos d.0 *ℤ
    of_plans g n t b.1 d.1 (next_x g n s a c x y) (next_y g y)) (tau c a o t)) (sigma a o))
    (below g.states)) (below g.observations)) (below g.informed_actions)) (below g.own_actions)
plans-first g n s sigma tau x y =
    let rests = λ (k : Step). plays g n (own_after n sigma k).1 (informed_after n tau k).1 in
    let later = λ (k : Step). of_plans g n k.to (own_after n sigma k).1 (informed_after n tau k).1 (next_x g n s k.own k.informed x y) (next_y g y) in
    total-plays g n sigma tau (λ play. pos (play_weight g (suc n) s sigma tau play) *ℤ (x +ℤ y *ℤ gain g s play))
    ∙ total-same _ (λ k. pos (step_weight g n s sigma tau k) *ℤ later k) (first_steps g n sigma tau) (each (λ k.
    total-same _ (λ rest. pos (step_weight g n s sigma tau k) *ℤ (pos (play_weight g n k.to (own_after n sigma k).1 (informed_after n tau k).1 rest) *ℤ (next_x g n s k.own k.informed x y +ℤ next_y g y *ℤ gain g k.to rest))) (rests k)
    (each-from (λ rest. length rest ≡ n) _ (rests k) (λ rest e.
    ap (λ (m : ℕ). pos (step_weight g n s sigma tau k * play_weight g n k.to (own_after n sigma k).1 (informed_after n tau k).1 rest) *ℤ (x +ℤ y *ℤ (g.reward s k.own k.informed *ℤ pos (g.discount_under ^ suc m) +ℤ pos g.discount_over *ℤ gain g k.to rest))) e
    ∙ spread (pos (step_weight g n s sigma tau k)) (pos (play_weight g n k.to (own_after n sigma k).1 (informed_after n tau k).1 rest)) x y (g.reward s k.own k.informed) (pos (g.discount_under ^ suc n)) (pos g.discount_over) (gain g k.to rest))
    (plays-length g n (own_after n sigma k).1 (informed_after n tau k).1))
    ∙ total-scale (pos (step_weight g n s sigma tau k)) _ (rests k)) (first_steps g n sigma tau))
    ∙ total-first_steps g n sigma tau (λ k. pos (step_weight g n s sigma tau k) *ℤ later k)
    ∙ total-below g.own_actions _ _ (λ a la. total-below g.informed_actions _ _ (λ c lc. total-below g.observations _ _ (λ o lo. total-below g.states _ _ (λ t lt.
    let rest = λ (b : OwnPlan n) (d : InformedPlan n). of_plans g n t b d (next_x g n s a c x y) (next_y g y) in
    let w = g.weight s a c o t in
    total-below (length (sigma a o)) _ _ (λ u lu.
    total-places (λ (d : ℕ × InformedPlan n). pos (w * (own_branch n (sigma a o) u).0 * d.0) *ℤ rest (own_branch n (sigma a o) u).1 d.1) (0, no_informed_plan n) (tau c a o t))
    ∙ total-places (λ (b : ℕ × OwnPlan n). total (λ (d : ℕ × InformedPlan n). pos (w * b.0 * d.0) *ℤ rest b.1 d.1) (tau c a o t)) (0, no_own_plan n) (sigma a o)
    ∙ factors w (λ (b : ℕ × OwnPlan n). b.0) (λ (d : ℕ × InformedPlan n). d.0) (λ b d. rest b.1 d.1) (sigma a o) (tau c a o t)))))

pub weights-first : (g : Numbers) (U V : ℕ) (own : OwnWeights) (informed : InformedWeights) (n : ℕ) (past : List Stage) (s : ℕ) (x y : ℤ) →
    of_weights g U V own informed (suc n) past s x y
    ≡ total (λ a. total (λ c. total (λ o. total (λ t.
    pos (g.weight s a c o t) *ℤ total (λ u. pos (own past a o u) *ℤ total (λ v. pos (informed past c a o t v) *ℤ
    of_weights g U V own informed n (past ++ stage_of a c o t u v ∷ []) t (next_x g n s a c x y) (next_y g y)) (below V)) (below U))
    (below g.states)) (below g.observations)) (below g.informed_actions)) (below g.own_actions)
weights-first g U V own informed n past s x y =
    let later = λ (k : Stage). of_weights g U V own informed n (past ++ k ∷ []) k.to (next_x g n s k.own k.informed x y) (next_y g y) in
    total-courses g U V n (λ course. pos (chance_after g past (suc n) s own informed course) *ℤ (x +ℤ y *ℤ worth g (suc n) s course))
    ∙ total-same _ (λ k. pos (first_weight g past s own informed k) *ℤ later k) (stages g U V) (each (λ k.
    total-same _ (λ rest. pos (first_weight g past s own informed k) *ℤ (pos (chance_after g (past ++ k ∷ []) n k.to own informed rest) *ℤ (next_x g n s k.own k.informed x y +ℤ next_y g y *ℤ worth g n k.to rest))) (courses g U V n)
    (each (λ rest.
    ap (λ (m : ℕ). pos m *ℤ (x +ℤ y *ℤ worth g (suc n) s (k ∷ rest))) (chance-first g past n s own informed k rest)
    ∙ ap (λ (z : ℤ). pos (first_weight g past s own informed k * chance_after g (past ++ k ∷ []) n k.to own informed rest) *ℤ (x +ℤ y *ℤ z)) (worth-first g n s k rest)
    ∙ spread (pos (first_weight g past s own informed k)) (pos (chance_after g (past ++ k ∷ []) n k.to own informed rest)) x y (g.reward s k.own k.informed) (pos (g.discount_under ^ suc n)) (pos g.discount_over) (worth g n k.to rest))
    (courses g U V n))
    ∙ total-scale (pos (first_weight g past s own informed k)) _ (courses g U V n)) (stages g U V))
    ∙ total-stages g U V (λ k. pos (first_weight g past s own informed k) *ℤ later k)
    ∙ total-below g.own_actions _ _ (λ a la. total-below g.informed_actions _ _ (λ c lc. total-below g.observations _ _ (λ o lo. total-below g.states _ _ (λ t lt.
    factors (g.weight s a c o t) (λ u. own past a o u) (λ v. informed past c a o t v)
    (λ u v. of_weights g U V own informed n (past ++ stage_of a c o t u v ∷ []) t (next_x g n s a c x y) (next_y g y)) (below U) (below V)))))

agree : (g : Numbers) (U V : ℕ) (own : OwnWeights) (informed : InformedWeights) (n : ℕ) (past : List Stage) (s : ℕ) (sigma : OwnPlan n) (tau : InformedPlan n) (x y : ℤ) →
    OwnPlaysAs g U own n sigma past → InformedPlaysAs g V informed n tau past →
    of_plans g n s sigma tau x y ≡ of_weights g U V own informed n past s x y
agree g U V own informed zero past s sigma tau x y om im = refl
agree g U V own informed (suc n) past s sigma tau x y om im =
    plans-first g n s sigma tau x y
    ∙ total-below g.own_actions _ _ (λ a la. total-below g.informed_actions _ _ (λ c lc. total-below g.observations _ _ (λ o lo. total-below g.states _ _ (λ t lt.
    let nx = next_x g n s a c x y in
    let ny = next_y g y in
    ap (λ (z : ℤ). pos (g.weight s a c o t) *ℤ z)
    (om a o la lo
    (λ (b : OwnPlan n). total (λ (d : ℕ × InformedPlan n). pos d.0 *ℤ of_plans g n t b d.1 nx ny) (tau c a o t))
    (λ u. total (λ v. pos (informed past c a o t v) *ℤ of_weights g U V own informed n (past ++ stage_of a c o t u v ∷ []) t nx ny) (below V))
    (λ u lu rest on.
    im c a o t lc la lo lt
    (λ (d : InformedPlan n). of_plans g n t rest d nx ny)
    (λ v. of_weights g U V own informed n (past ++ stage_of a c o t u v ∷ []) t nx ny)
    (λ v lv other on'. agree g U V own informed n (past ++ stage_of a c o t u v ∷ []) t rest other nx ny (on c t v) (on' u))))))))
    ∙ sym (weights-first g U V own informed n past s x y)

-- What two plans pay is what the weights earn.
pub pays : PlansPay
pays g U V own informed n s sigma tau om im =
    total-same _ _ (plays g n sigma tau) (each (λ play. plain (pos (play_weight g n s sigma tau play)) (gain g s play)) (plays g n sigma tau))
    ∙ agree g U V own informed n [] s sigma tau (pos 0) (pos 1) om im
    ∙ total-same _ _ (courses g U V n) (each (λ course. sym (plain (pos (chance_after g [] n s own informed course)) (worth g n s course))) (courses g U V n))
  where
    plain : (w z : ℤ) → w *ℤ z ≡ w *ℤ (pos 0 +ℤ pos 1 *ℤ z)
    plain w z = ap (λ (k : ℤ). w *ℤ k) (same z)
      where
        same : (z : ℤ) → z ≡ pos 0 +ℤ pos 1 *ℤ z
        same z = omega (arith, ints)

-- The weights of all courses sum to those of all plays.
pub weighs : PlansWeigh
weighs g U V own informed n s sigma tau om im =
    ap up
    (sym (total-pos (play_weight g n s sigma tau) (plays g n sigma tau))
    ∙ total-same _ _ (plays g n sigma tau) (each (λ play. plain (pos (play_weight g n s sigma tau play)) (gain g s play)) (plays g n sigma tau))
    ∙ agree g U V own informed n [] s sigma tau (pos 1) (pos 0) om im
    ∙ total-same _ _ (courses g U V n) (each (λ course. sym (plain (pos (chance_after g [] n s own informed course)) (worth g n s course))) (courses g U V n))
    ∙ total-pos (chance g n s own informed) (courses g U V n))
  where
    plain : (w z : ℤ) → w ≡ w *ℤ (pos 1 +ℤ pos 0 *ℤ z)
    plain w z = one w ∙ ap (λ (k : ℤ). w *ℤ k) (same z)
      where
        one : (w : ℤ) → w ≡ w *ℤ pos 1
        one w = omega (arith, ints)

        same : (z : ℤ) → pos 1 ≡ pos 1 +ℤ pos 0 *ℤ z
        same z = omega (arith, ints)

pub courses-weigh : CoursesWeigh
courses-weigh g U V own informed own_total informed_total n s sigma tau full ls right right' om im =
    sym (weighs g U V own informed n s sigma tau om im) ∙ sum-play_weight g own_total informed_total full n s sigma tau ls right right'
