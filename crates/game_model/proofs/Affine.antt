-- What any two plans pay, as a sum over the branches of their first stage; plans need not be right for it.
use Rattle.std.proofs.Common.{◌≡◌, ℕ, suc, zero, ◌*◌, ◌^◌, ◌<◌, List, [], ◌∷◌, length, refl, ap, arith, sym, ◌∙◌}
use Rattle.std.specs.Prelude.{ℤ, pos, ◌+ℤ◌, ◌*ℤ◌}
use Rattle.std.proofs.lemmas.Int.{ints}
use Rattle.scaled_num.specs.Sums.{below, total}
use Rattle.scaled_num.proofs.Products.{mulℤ_left_comm, products, sums}
use Rattle.scaled_num.proofs.Sums.{each, total-below, total-places, total-same, total-scale, total-swap}
use Rattle.game_model.specs.Numbers.{Numbers}
use Rattle.game_model.specs.Plan.{InformedPlan, OwnPlan}
use Rattle.game_model.specs.Play.{Step, first_steps, gain, informed_after, no_informed_plan, no_own_plan, own_after, own_branch, pay, play_weight, plays, step_weight}
use Rattle.game_model.proofs.Pay.{each-from, plays-length, total-plays}
use Rattle.game_model.proofs.Steps.{total-first_steps}

-- the weighted sum over branches of what they go on to
abbrev pub over : {X : Type 0} → List (ℕ × X) → (X → ℤ) → ℤ
over {X} branches f = total (λ (b : ℕ × X). pos b.0 *ℤ f b.1) branches

-- the sum over what a stage may bring: both actions, the observation and the next state, by their weight
abbrev pub stage : Numbers → ℕ → (ℕ → ℕ → ℕ → ℕ → ℤ) → ℤ
stage g s f =
    total (λ a. total (λ c. total (λ o. total (λ t. pos (g.weight s a c o t) *ℤ f a c o t)
    (below g.states)) (below g.observations)) (below g.informed_actions)) (below g.own_actions)

-- the sum over all plays of an affine function of the gain
abbrev pub affine : Numbers → (n : ℕ) → ℕ → OwnPlan n → InformedPlan n → ℤ → ℤ → ℤ
affine g n s sigma tau x y = total (λ play. pos (play_weight g n s sigma tau play) *ℤ (x +ℤ y *ℤ gain g s play)) (plays g n sigma tau)

-- what a first stage adds to it
abbrev pub next_x : Numbers → ℕ → ℕ → ℕ → ℕ → ℤ → ℤ → ℤ
next_x g n s a c x y = x +ℤ y *ℤ (g.reward s a c *ℤ pos (g.discount_under ^ suc n))

abbrev pub next_y : Numbers → ℤ → ℤ
next_y g y = y *ℤ pos g.discount_over

spread : (w h x y r q p k : ℤ) → (w *ℤ h) *ℤ (x +ℤ y *ℤ (r *ℤ q +ℤ p *ℤ k)) ≡ w *ℤ (h *ℤ ((x +ℤ y *ℤ (r *ℤ q)) +ℤ (y *ℤ p) *ℤ k))
spread w h x y r q p k = simp products (omega (arith, sums))

-- a factor, and two sums of weights
factors : {X Y : Type 0} (w : ℕ) (f : X → ℕ) (h : Y → ℕ) (k : X → Y → ℤ) (xs : List X) (ys : List Y) →
    total (λ x. total (λ y. pos (w * f x * h y) *ℤ k x y) ys) xs ≡ pos w *ℤ total (λ x. pos (f x) *ℤ total (λ y. pos (h y) *ℤ k x y) ys) xs
factors w f h k xs ys =
    total-same _ (λ x. pos w *ℤ (pos (f x) *ℤ total (λ y. pos (h y) *ℤ k x y) ys)) xs (each (λ x.
    total-same _ (λ y. (pos w *ℤ pos (f x)) *ℤ (pos (h y) *ℤ k x y)) ys (each (λ y. one (pos w) (pos (f x)) (pos (h y)) (k x y)) ys)
    ∙ total-scale (pos w *ℤ pos (f x)) (λ y. pos (h y) *ℤ k x y) ys
    ∙ two (pos w) (pos (f x)) (total (λ y. pos (h y) *ℤ k x y) ys)) xs)
    ∙ total-scale (pos w) (λ x. pos (f x) *ℤ total (λ y. pos (h y) *ℤ k x y) ys) xs
  where
    one : (w f h k : ℤ) → ((w *ℤ f) *ℤ h) *ℤ k ≡ (w *ℤ f) *ℤ (h *ℤ k)
    one w f h k = simp products (omega (arith, sums))

    two : (w f k : ℤ) → (w *ℤ f) *ℤ k ≡ w *ℤ (f *ℤ k)
    two w f k = simp products (omega (arith, sums))

pub affine-first : (g : Numbers) (n s : ℕ) (sigma : OwnPlan (suc n)) (tau : InformedPlan (suc n)) (x y : ℤ) →
    affine g (suc n) s sigma tau x y
    ≡ stage g s (λ a c o t. over (sigma a o) (λ (b : OwnPlan n). over (tau c a o t) (λ (d : InformedPlan n). affine g n t b d (next_x g n s a c x y) (next_y g y))))
affine-first g n s sigma tau x y =
    let rests = λ (k : Step). plays g n (own_after n sigma k).1 (informed_after n tau k).1 in
    let later = λ (k : Step). affine g n k.to (own_after n sigma k).1 (informed_after n tau k).1 (next_x g n s k.own k.informed x y) (next_y g y) in
    total-plays g n sigma tau (λ play. pos (play_weight g (suc n) s sigma tau play) *ℤ (x +ℤ y *ℤ gain g s play))
    ∙ total-same _ (λ k. pos (step_weight g n s sigma tau k) *ℤ later k) (first_steps g n sigma tau) (each (λ k.
    total-same _ (λ rest. pos (step_weight g n s sigma tau k) *ℤ (pos (play_weight g n k.to (own_after n sigma k).1 (informed_after n tau k).1 rest) *ℤ (next_x g n s k.own k.informed x y +ℤ next_y g y *ℤ gain g k.to rest))) (rests k)
    (each-from (λ rest. length rest ≡ n) _ (rests k) (λ rest e.
    ap (λ (m : ℕ). pos (step_weight g n s sigma tau k * play_weight g n k.to (own_after n sigma k).1 (informed_after n tau k).1 rest) *ℤ (x +ℤ y *ℤ (g.reward s k.own k.informed *ℤ pos (g.discount_under ^ suc m) +ℤ pos g.discount_over *ℤ gain g k.to rest))) e
    ∙ spread (pos (step_weight g n s sigma tau k)) (pos (play_weight g n k.to (own_after n sigma k).1 (informed_after n tau k).1 rest)) x y (g.reward s k.own k.informed) (pos (g.discount_under ^ suc n)) (pos g.discount_over) (gain g k.to rest))
    (plays-length g n (own_after n sigma k).1 (informed_after n tau k).1))
    ∙ total-scale (pos (step_weight g n s sigma tau k)) _ (rests k)) (first_steps g n sigma tau))
    ∙ total-first_steps g n sigma tau (λ k. pos (step_weight g n s sigma tau k) *ℤ later k)
    ∙ total-below g.own_actions _ _ (λ a la. total-below g.informed_actions _ _ (λ c lc. total-below g.observations _ _ (λ o lo. total-below g.states _ _ (λ t lt.
    let rest = λ (b : OwnPlan n) (d : InformedPlan n). affine g n t b d (next_x g n s a c x y) (next_y g y) in
    let w = g.weight s a c o t in
    total-below (length (sigma a o)) _ _ (λ u lu.
    total-places (λ (d : ℕ × InformedPlan n). pos (w * (own_branch n (sigma a o) u).0 * d.0) *ℤ rest (own_branch n (sigma a o) u).1 d.1) (0, no_informed_plan n) (tau c a o t))
    ∙ total-places (λ (b : ℕ × OwnPlan n). total (λ (d : ℕ × InformedPlan n). pos (w * b.0 * d.0) *ℤ rest b.1 d.1) (tau c a o t)) (0, no_own_plan n) (sigma a o)
    ∙ factors w (λ (b : ℕ × OwnPlan n). b.0) (λ (d : ℕ × InformedPlan n). d.0) (λ b d. rest b.1 d.1) (sigma a o) (tau c a o t)))))

-- pay is one of these sums
pub pay-affine : (g : Numbers) (n s : ℕ) (sigma : OwnPlan n) (tau : InformedPlan n) → pay g n s sigma tau ≡ affine g n s sigma tau (pos 0) (pos 1)
pay-affine g n s sigma tau =
    total-same _ _ (plays g n sigma tau) (each (λ play. plain (pos (play_weight g n s sigma tau play)) (gain g s play)) (plays g n sigma tau))
  where
    plain : (w z : ℤ) → w *ℤ z ≡ w *ℤ (pos 0 +ℤ pos 1 *ℤ z)
    plain w z = ap (λ (k : ℤ). w *ℤ k) (same z)
      where
        same : (z : ℤ) → z ≡ pos 0 +ℤ pos 1 *ℤ z
        same z = omega (arith, ints)

-- ---- sums over a stage, and over branches
pub stage-same : (g : Numbers) (s : ℕ) (f h : ℕ → ℕ → ℕ → ℕ → ℤ) → ((a c o t : ℕ) → f a c o t ≡ h a c o t) → stage g s f ≡ stage g s h
stage-same g s f h same =
    total-below g.own_actions _ _ (λ a la. total-below g.informed_actions _ _ (λ c lc. total-below g.observations _ _ (λ o lo. total-below g.states _ _ (λ t lt.
    ap (λ (z : ℤ). pos (g.weight s a c o t) *ℤ z) (same a c o t)))))

pub stage-scale : (g : Numbers) (s : ℕ) (k : ℤ) (f : ℕ → ℕ → ℕ → ℕ → ℤ) → stage g s (λ a c o t. k *ℤ f a c o t) ≡ k *ℤ stage g s f
stage-scale g s k f =
    total-below g.own_actions _ _ (λ a la. total-below g.informed_actions _ _ (λ c lc. total-below g.observations _ _ (λ o lo.
    total-below g.states _ _ (λ t lt. mulℤ_left_comm (pos (g.weight s a c o t)) k (f a c o t))
    ∙ total-scale k (λ t. pos (g.weight s a c o t) *ℤ f a c o t) (below g.states))
    ∙ total-scale k _ (below g.observations))
    ∙ total-scale k _ (below g.informed_actions))
    ∙ total-scale k _ (below g.own_actions)

-- a sum of sums over a stage
pub stage-total : {X : Type 0} (g : Numbers) (s : ℕ) (f : X → ℕ → ℕ → ℕ → ℕ → ℤ) (xs : List X) →
    stage g s (λ a c o t. total (λ x. f x a c o t) xs) ≡ total (λ x. stage g s (f x)) xs
stage-total g s f xs =
    total-below g.own_actions _ _ (λ a la.
    total-below g.informed_actions _ _ (λ c lc.
    total-below g.observations _ _ (λ o lo.
    total-below g.states _ _ (λ t lt. sym (total-scale (pos (g.weight s a c o t)) (λ x. f x a c o t) xs))
    ∙ total-swap (λ t x. pos (g.weight s a c o t) *ℤ f x a c o t) (below g.states) xs)
    ∙ total-swap (λ o x. total (λ t. pos (g.weight s a c o t) *ℤ f x a c o t) (below g.states)) (below g.observations) xs)
    ∙ total-swap (λ c x. total (λ o. total (λ t. pos (g.weight s a c o t) *ℤ f x a c o t) (below g.states)) (below g.observations)) (below g.informed_actions) xs)
    ∙ total-swap (λ a x. total (λ c. total (λ o. total (λ t. pos (g.weight s a c o t) *ℤ f x a c o t) (below g.states)) (below g.observations)) (below g.informed_actions)) (below g.own_actions) xs

pub over-same : {X : Type 0} (branches : List (ℕ × X)) (f h : X → ℤ) → ((x : X) → f x ≡ h x) → over branches f ≡ over branches h
over-same {X} branches f h same =
    total-same _ _ branches (each (λ (b : ℕ × X). ap (λ (z : ℤ). pos b.0 *ℤ z) (same b.1)) branches)

pub over-scale : {X : Type 0} (branches : List (ℕ × X)) (k : ℤ) (f : X → ℤ) → over branches (λ x. k *ℤ f x) ≡ k *ℤ over branches f
over-scale {X} branches k f =
    total-same _ (λ (b : ℕ × X). k *ℤ (pos b.0 *ℤ f b.1)) branches (each (λ (b : ℕ × X). mulℤ_left_comm (pos b.0) k (f b.1)) branches)
    ∙ total-scale k (λ (b : ℕ × X). pos b.0 *ℤ f b.1) branches
