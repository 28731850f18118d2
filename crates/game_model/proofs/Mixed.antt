-- Scaled plans and draws among plans: that they are right, and what they pay.
use Rattle.std.proofs.Common.{◌≡◌, ℕ, suc, zero, ◌+◌, ◌*◌, ◌^◌, ◌<◌, ◌≤◌, List, [], ◌∷◌, ◌++◌, refl, ap, arith, sym, ◌∙◌}
use Rattle.std.specs.Prelude.{ℤ, pos, ◌+ℤ◌, ◌*ℤ◌, sum_by, map, flat_map}
use Rattle.std.specs.List.{AllByRecursion}
use Rattle.std.proofs.Math.Nat.{pow-zero, pow-suc, mul-pos}
use Rattle.std.proofs.lemmas.Int.{ints}
use Rattle.std.proofs.lemmas.List.Sums.{sum_by-append, sum_by-cons}
use borrow.Author.Differences.{up}
use Rattle.scaled_num.specs.Sums.{below, total}
use Rattle.scaled_num.proofs.Products.{products, sums}
use Rattle.scaled_num.proofs.Sums.{each, each-flat_map, each-map, sum_by-map, total-add, total-flat_map, total-map, total-pos, total-same, total-scale, total-swap, total-weights}
use Rattle.game_model.specs.Mixed.{MixedAreRight, MixedPay, ScaledAreRight, ScaledPay, mixed_informed, mixed_own, scaled_informed, scaled_own}
use Rattle.game_model.specs.Numbers.{Numbers}
use Rattle.game_model.specs.Plan.{InformedPlan, IsInformedPlan, IsOwnPlan, OwnPlan, branches_total}
use Rattle.game_model.specs.Play.{pay}
use Rattle.game_model.proofs.Affine.{affine, affine-first, next_x, next_y, over, over-same, over-scale, pay-affine, stage, stage-same, stage-scale, stage-total}
use Rattle.game_model.proofs.Pay.{each-from}

-- ---- sums of weights
pub sum_by-scale : {X : Type 0} (k : ℕ) (f : X → ℕ) (xs : List X) → sum_by (λ x. k * f x) xs ≡ k * sum_by f xs
sum_by-scale k f xs = ap up (sym (total-pos (λ x. k * f x) xs) ∙ total-scale (pos k) (λ x. pos (f x)) xs ∙ ap (λ z. pos k *ℤ z) (total-pos f xs))

sum_by-add : {X : Type 0} (f h : X → ℕ) (xs : List X) → sum_by (λ x. f x + h x) xs ≡ sum_by f xs + sum_by h xs
sum_by-add f h xs =
    ap up (sym (total-pos (λ x. f x + h x) xs) ∙ total-add (λ x. pos (f x)) (λ x. pos (h x)) xs
    ∙ ap (λ (z : ℤ). z +ℤ total (λ x. pos (h x)) xs) (total-pos f xs) ∙ ap (λ (z : ℤ). pos (sum_by f xs) +ℤ z) (total-pos h xs))

none : (x y : ℕ) → 0 * x ≡ 0 * y
none x y = omega arith

-- the branches of a plan, their weights times k, and what they go on to changed by h
abbrev times : {X Y : Type 0} → ℕ → (X → Y) → ℕ × X → ℕ × Y
times k h branch = (k * branch.0, h branch.1)

times-total : {X Y : Type 0} (k : ℕ) (h : X → Y) (branches : List (ℕ × X)) → branches_total (map (times k h) branches) ≡ k * branches_total branches
times-total {X} {Y} k h branches =
    sum_by-map (λ (b : ℕ × Y). b.0) (times k h) branches ∙ sum_by-scale k (λ (b : ℕ × X). b.0) branches

-- ---- scaled plans are right
pub scaled_own-is_plan : (g : Numbers) (r whole : ℕ) → 1 ≤ r → (n : ℕ) (plan : OwnPlan n) → IsOwnPlan g whole n plan → IsOwnPlan g (r * whole) n (scaled_own r n plan)
scaled_own-is_plan g r whole some zero plan right = tt
scaled_own-is_plan g r whole some (suc n) plan right =
    record {
      some = mul-pos some right.some;
      part = λ a. r * right.part a;
      same = λ a o la lo. times-total r (scaled_own r n) (plan a o) ∙ ap (λ (k : ℕ). r * k) (right.same a o la lo);
      sums = sum_by-scale r right.part (below g.own_actions) ∙ ap (λ (k : ℕ). r * k) right.sums;
      rest = λ a o la lo. each-map (λ (b : ℕ × OwnPlan n). IsOwnPlan g (r * whole) n b.1) (times r (scaled_own r n)) (plan a o)
          (each-from (λ (b : ℕ × OwnPlan n). IsOwnPlan g whole n b.1) _ (plan a o) (λ b is. scaled_own-is_plan g r whole some n b.1 is) (right.rest a o la lo));
    }

pub scaled_informed-is_plan : (g : Numbers) (r whole : ℕ) → 1 ≤ r → (n : ℕ) (plan : InformedPlan n) → IsInformedPlan g whole n plan → IsInformedPlan g (r * whole) n (scaled_informed r n plan)
scaled_informed-is_plan g r whole some zero plan right = tt
scaled_informed-is_plan g r whole some (suc n) plan right =
    record {
      some = mul-pos some right.some;
      part = λ c. r * right.part c;
      same = λ c a o t lc la lo lt. times-total r (scaled_informed r n) (plan c a o t) ∙ ap (λ (k : ℕ). r * k) (right.same c a o t lc la lo lt);
      sums = sum_by-scale r right.part (below g.informed_actions) ∙ ap (λ (k : ℕ). r * k) right.sums;
      rest = λ c a o t lc la lo lt. each-map (λ (b : ℕ × InformedPlan n). IsInformedPlan g (r * whole) n b.1) (times r (scaled_informed r n)) (plan c a o t)
          (each-from (λ (b : ℕ × InformedPlan n). IsInformedPlan g whole n b.1) _ (plan c a o t) (λ b is. scaled_informed-is_plan g r whole some n b.1 is) (right.rest c a o t lc la lo lt));
    }

-- ---- draws are right

-- the weights of the branches of all plans, where each plan's have a part
abbrev drawn : {X : Type 0} → (X → ℕ) → List (ℕ × X) → ℕ
drawn {X} part plans = sum_by (λ (item : ℕ × X). item.0 * part item.1) plans

drawn-total : {X Y Z : Type 0} (h : Y → Z) (stage : X → List (ℕ × Y)) (plans : List (ℕ × X)) →
    branches_total (flat_map (λ (item : ℕ × X). map (times item.0 h) (stage item.1)) plans) ≡ drawn (λ x. branches_total (stage x)) plans
drawn-total h stage [] = refl
drawn-total {X} {Y} {Z} h stage (item ∷ plans) =
    sum_by-append (λ (b : ℕ × Z). b.0) (map (times item.0 h) (stage item.1)) (flat_map (λ (item : ℕ × X). map (times item.0 h) (stage item.1)) plans)
    ∙ ap (λ (k : ℕ). k + branches_total (flat_map (λ (item : ℕ × X). map (times item.0 h) (stage item.1)) plans)) (times-total item.0 h (stage item.1))
    ∙ ap (λ (k : ℕ). item.0 * branches_total (stage item.1) + k) (drawn-total h stage plans)
    ∙ sym (sum_by-cons (λ (item : ℕ × X). item.0 * branches_total (stage item.1)) item plans)

-- the parts of a draw
own_parts : (g : Numbers) (whole n : ℕ) (plans : List (ℕ × OwnPlan (suc n))) → AllByRecursion (λ item. IsOwnPlan g whole (suc n) item.1) plans → ℕ → ℕ
own_parts g whole n [] right a = 0
own_parts g whole n (item ∷ plans) right a = item.0 * right.0.part a + own_parts g whole n plans right.1 a

own_parts-same : (g : Numbers) (whole n : ℕ) (plans : List (ℕ × OwnPlan (suc n))) (right : AllByRecursion (λ item. IsOwnPlan g whole (suc n) item.1) plans) →
    (a o : ℕ) → a < g.own_actions → o < g.observations → drawn (λ (plan : OwnPlan (suc n)). branches_total (plan a o)) plans ≡ own_parts g whole n plans right a
unfolding own_parts
own_parts-same g whole n [] right a o la lo = refl
own_parts-same g whole n (item ∷ plans) right a o la lo =
    sum_by-cons (λ (item : ℕ × OwnPlan (suc n)). item.0 * branches_total (item.1 a o)) item plans
    ∙ ap (λ (k : ℕ). item.0 * k + drawn (λ (plan : OwnPlan (suc n)). branches_total (plan a o)) plans) (right.0.same a o la lo)
    ∙ ap (λ (k : ℕ). item.0 * right.0.part a + k) (own_parts-same g whole n plans right.1 a o la lo)

own_parts-sum : (g : Numbers) (whole n : ℕ) (plans : List (ℕ × OwnPlan (suc n))) (right : AllByRecursion (λ item. IsOwnPlan g whole (suc n) item.1) plans) →
    sum_by (own_parts g whole n plans right) (below g.own_actions) ≡ sum_by (λ item. item.0) plans * whole
unfolding own_parts
own_parts-sum g whole n [] right = sum_by-scale 0 (λ x. 0) (below g.own_actions) ∙ none (sum_by (λ x. 0) (below g.own_actions)) whole
own_parts-sum g whole n (item ∷ plans) right =
    sum_by-add (λ a. item.0 * right.0.part a) (own_parts g whole n plans right.1) (below g.own_actions)
    ∙ ap (λ (k : ℕ). k + sum_by (own_parts g whole n plans right.1) (below g.own_actions)) (sum_by-scale item.0 right.0.part (below g.own_actions) ∙ ap (λ (k : ℕ). item.0 * k) right.0.sums)
    ∙ ap (λ (k : ℕ). item.0 * whole + k) (own_parts-sum g whole n plans right.1)
    ∙ join item.0 (sum_by (λ (item : ℕ × OwnPlan (suc n)). item.0) plans) whole (sum_by (λ (item : ℕ × OwnPlan (suc n)). item.0) (item ∷ plans)) (sum_by-cons (λ (item : ℕ × OwnPlan (suc n)). item.0) item plans)
  where
    join : (x y whole z : ℕ) → z ≡ x + y → x * whole + y * whole ≡ z * whole
    join x y whole z e = rw e (omega arith)

pub mixed_own-is_plan : (g : Numbers) (whole each_total : ℕ) → 1 ≤ whole → 1 ≤ each_total → (n : ℕ) (plans : List (ℕ × OwnPlan n)) → sum_by (λ item. item.0) plans ≡ whole →
    AllByRecursion (λ item. IsOwnPlan g each_total n item.1) plans → IsOwnPlan g (whole * each_total) n (mixed_own whole n plans)
mixed_own-is_plan g whole each_total some some_each zero plans sum right = tt
mixed_own-is_plan g whole each_total some some_each (suc n) plans sum right =
    record {
      some = mul-pos some some_each;
      part = own_parts g each_total n plans right;
      same = λ a o la lo. drawn-total (scaled_own whole n) (λ (plan : OwnPlan (suc n)). plan a o) plans ∙ own_parts-same g each_total n plans right a o la lo;
      sums = own_parts-sum g each_total n plans right ∙ ap (λ (k : ℕ). k * each_total) sum;
      rest = λ a o la lo. each-flat_map (λ (b : ℕ × OwnPlan n). IsOwnPlan g (whole * each_total) n b.1) (λ (item : ℕ × OwnPlan (suc n)). map (times item.0 (scaled_own whole n)) (item.1 a o)) plans
          (each-from (λ (item : ℕ × OwnPlan (suc n)). IsOwnPlan g each_total (suc n) item.1) _ plans (λ item is.
          each-map (λ (b : ℕ × OwnPlan n). IsOwnPlan g (whole * each_total) n b.1) (times item.0 (scaled_own whole n)) (item.1 a o)
          (each-from (λ (b : ℕ × OwnPlan n). IsOwnPlan g each_total n b.1) _ (item.1 a o) (λ b is'. scaled_own-is_plan g whole each_total some n b.1 is') (is.rest a o la lo))) right);
    }

informed_parts : (g : Numbers) (whole n : ℕ) (plans : List (ℕ × InformedPlan (suc n))) → AllByRecursion (λ item. IsInformedPlan g whole (suc n) item.1) plans → ℕ → ℕ
informed_parts g whole n [] right c = 0
informed_parts g whole n (item ∷ plans) right c = item.0 * right.0.part c + informed_parts g whole n plans right.1 c

informed_parts-same : (g : Numbers) (whole n : ℕ) (plans : List (ℕ × InformedPlan (suc n))) (right : AllByRecursion (λ item. IsInformedPlan g whole (suc n) item.1) plans) →
    (c a o t : ℕ) → c < g.informed_actions → a < g.own_actions → o < g.observations → t < g.states →
    drawn (λ (plan : InformedPlan (suc n)). branches_total (plan c a o t)) plans ≡ informed_parts g whole n plans right c
unfolding informed_parts
informed_parts-same g whole n [] right c a o t lc la lo lt = refl
informed_parts-same g whole n (item ∷ plans) right c a o t lc la lo lt =
    sum_by-cons (λ (item : ℕ × InformedPlan (suc n)). item.0 * branches_total (item.1 c a o t)) item plans
    ∙ ap (λ (k : ℕ). item.0 * k + drawn (λ (plan : InformedPlan (suc n)). branches_total (plan c a o t)) plans) (right.0.same c a o t lc la lo lt)
    ∙ ap (λ (k : ℕ). item.0 * right.0.part c + k) (informed_parts-same g whole n plans right.1 c a o t lc la lo lt)

informed_parts-sum : (g : Numbers) (whole n : ℕ) (plans : List (ℕ × InformedPlan (suc n))) (right : AllByRecursion (λ item. IsInformedPlan g whole (suc n) item.1) plans) →
    sum_by (informed_parts g whole n plans right) (below g.informed_actions) ≡ sum_by (λ item. item.0) plans * whole
unfolding informed_parts
informed_parts-sum g whole n [] right = sum_by-scale 0 (λ x. 0) (below g.informed_actions) ∙ none (sum_by (λ x. 0) (below g.informed_actions)) whole
informed_parts-sum g whole n (item ∷ plans) right =
    sum_by-add (λ c. item.0 * right.0.part c) (informed_parts g whole n plans right.1) (below g.informed_actions)
    ∙ ap (λ (k : ℕ). k + sum_by (informed_parts g whole n plans right.1) (below g.informed_actions)) (sum_by-scale item.0 right.0.part (below g.informed_actions) ∙ ap (λ (k : ℕ). item.0 * k) right.0.sums)
    ∙ ap (λ (k : ℕ). item.0 * whole + k) (informed_parts-sum g whole n plans right.1)
    ∙ join item.0 (sum_by (λ (item : ℕ × InformedPlan (suc n)). item.0) plans) whole (sum_by (λ (item : ℕ × InformedPlan (suc n)). item.0) (item ∷ plans)) (sum_by-cons (λ (item : ℕ × InformedPlan (suc n)). item.0) item plans)
  where
    join : (x y whole z : ℕ) → z ≡ x + y → x * whole + y * whole ≡ z * whole
    join x y whole z e = rw e (omega arith)

pub mixed_informed-is_plan : (g : Numbers) (whole each_total : ℕ) → 1 ≤ whole → 1 ≤ each_total → (n : ℕ) (plans : List (ℕ × InformedPlan n)) → sum_by (λ item. item.0) plans ≡ whole →
    AllByRecursion (λ item. IsInformedPlan g each_total n item.1) plans → IsInformedPlan g (whole * each_total) n (mixed_informed whole n plans)
mixed_informed-is_plan g whole each_total some some_each zero plans sum right = tt
mixed_informed-is_plan g whole each_total some some_each (suc n) plans sum right =
    record {
      some = mul-pos some some_each;
      part = informed_parts g each_total n plans right;
      same = λ c a o t lc la lo lt. drawn-total (scaled_informed whole n) (λ (plan : InformedPlan (suc n)). plan c a o t) plans ∙ informed_parts-same g each_total n plans right c a o t lc la lo lt;
      sums = informed_parts-sum g each_total n plans right ∙ ap (λ (k : ℕ). k * each_total) sum;
      rest = λ c a o t lc la lo lt.
          each-flat_map (λ (b : ℕ × InformedPlan n). IsInformedPlan g (whole * each_total) n b.1) (λ (item : ℕ × InformedPlan (suc n)). map (times item.0 (scaled_informed whole n)) (item.1 c a o t)) plans
          (each-from (λ (item : ℕ × InformedPlan (suc n)). IsInformedPlan g each_total (suc n) item.1) _ plans (λ item is.
          each-map (λ (b : ℕ × InformedPlan n). IsInformedPlan g (whole * each_total) n b.1) (times item.0 (scaled_informed whole n)) (item.1 c a o t)
          (each-from (λ (b : ℕ × InformedPlan n). IsInformedPlan g each_total n b.1) _ (item.1 c a o t) (λ b is'. scaled_informed-is_plan g whole each_total some n b.1 is') (is.rest c a o t lc la lo lt))) right);
    }

-- ---- what scaled plans pay
once : (z : ℤ) → z ≡ pos 1 *ℤ z
once z = omega (arith, ints)

over-times : {X Y : Type 0} (k : ℕ) (q : ℤ) (h : X → Y) (branches : List (ℕ × X)) (f : Y → ℤ) (p : X → ℤ) → ((x : X) → f (h x) ≡ q *ℤ p x) →
    over (map (times k h) branches) f ≡ pos k *ℤ (q *ℤ over branches p)
over-times {X} {Y} k q h branches f p same =
    total-map (λ (b : ℕ × Y). pos b.0 *ℤ f b.1) (times k h) branches
    ∙ total-same _ (λ (b : ℕ × X). (pos k *ℤ q) *ℤ (pos b.0 *ℤ p b.1)) branches
    (each (λ (b : ℕ × X). ap (λ (z : ℤ). pos (k * b.0) *ℤ z) (same b.1) ∙ turn (pos k) (pos b.0) q (p b.1)) branches)
    ∙ total-scale (pos k *ℤ q) (λ (b : ℕ × X). pos b.0 *ℤ p b.1) branches
    ∙ join (pos k) q (over branches p)
  where
    turn : (k b q p : ℤ) → (k *ℤ b) *ℤ (q *ℤ p) ≡ (k *ℤ q) *ℤ (b *ℤ p)
    turn k b q p = simp products (omega (arith, sums))

    join : (k q z : ℤ) → (k *ℤ q) *ℤ z ≡ k *ℤ (q *ℤ z)
    join k q z = simp products (omega (arith, sums))

power : (r n : ℕ) (z : ℤ) → pos r *ℤ (pos (r ^ n) *ℤ z) ≡ pos (r ^ suc n) *ℤ z
power r n z = join (pos r) (pos (r ^ n)) z ∙ ap (λ (k : ℕ). pos k *ℤ z) (omega (arith, pow-suc r n))
  where
    join : (k q z : ℤ) → k *ℤ (q *ℤ z) ≡ (k *ℤ q) *ℤ z
    join k q z = simp products (omega (arith, sums))

affine-scaled_own : (g : Numbers) (r n s : ℕ) (sigma : OwnPlan n) (tau : InformedPlan n) (x y : ℤ) → affine g n s (scaled_own r n sigma) tau x y ≡ pos (r ^ n) *ℤ affine g n s sigma tau x y
affine-scaled_own g r zero s sigma tau x y = rw (pow-zero r) (once (affine g 0 s sigma tau x y))
affine-scaled_own g r (suc n) s sigma tau x y =
    let rest = λ (a c o t : ℕ) (b : OwnPlan n). over (tau c a o t) (λ (d : InformedPlan n). affine g n t b d (next_x g n s a c x y) (next_y g y)) in
    affine-first g n s (scaled_own r (suc n) sigma) tau x y
    ∙ stage-same g s _ (λ a c o t. pos (r ^ suc n) *ℤ over (sigma a o) (rest a c o t)) (λ a c o t.
    over-times r (pos (r ^ n)) (scaled_own r n) (sigma a o) (rest a c o t) (rest a c o t) (λ b.
    over-same (tau c a o t) _ (λ d. pos (r ^ n) *ℤ affine g n t b d (next_x g n s a c x y) (next_y g y)) (λ d. affine-scaled_own g r n t b d (next_x g n s a c x y) (next_y g y))
    ∙ over-scale (tau c a o t) (pos (r ^ n)) (λ d. affine g n t b d (next_x g n s a c x y) (next_y g y)))
    ∙ power r n (over (sigma a o) (rest a c o t)))
    ∙ stage-scale g s (pos (r ^ suc n)) (λ a c o t. over (sigma a o) (rest a c o t))
    ∙ ap (λ (z : ℤ). pos (r ^ suc n) *ℤ z) (sym (affine-first g n s sigma tau x y))

affine-scaled_informed : (g : Numbers) (r n s : ℕ) (sigma : OwnPlan n) (tau : InformedPlan n) (x y : ℤ) → affine g n s sigma (scaled_informed r n tau) x y ≡ pos (r ^ n) *ℤ affine g n s sigma tau x y
affine-scaled_informed g r zero s sigma tau x y = rw (pow-zero r) (once (affine g 0 s sigma tau x y))
affine-scaled_informed g r (suc n) s sigma tau x y =
    let last = λ (a c o t : ℕ) (b : OwnPlan n) (d : InformedPlan n). affine g n t b d (next_x g n s a c x y) (next_y g y) in
    affine-first g n s sigma (scaled_informed r (suc n) tau) x y
    ∙ stage-same g s _ (λ a c o t. pos (r ^ suc n) *ℤ over (sigma a o) (λ (b : OwnPlan n). over (tau c a o t) (last a c o t b))) (λ a c o t.
    over-same (sigma a o) _ (λ (b : OwnPlan n). pos (r ^ suc n) *ℤ over (tau c a o t) (last a c o t b)) (λ b.
    over-times r (pos (r ^ n)) (scaled_informed r n) (tau c a o t) (last a c o t b) (last a c o t b) (λ d. affine-scaled_informed g r n t b d (next_x g n s a c x y) (next_y g y))
    ∙ power r n (over (tau c a o t) (last a c o t b)))
    ∙ over-scale (sigma a o) (pos (r ^ suc n)) (λ (b : OwnPlan n). over (tau c a o t) (last a c o t b)))
    ∙ stage-scale g s (pos (r ^ suc n)) (λ a c o t. over (sigma a o) (λ (b : OwnPlan n). over (tau c a o t) (last a c o t b)))
    ∙ ap (λ (z : ℤ). pos (r ^ suc n) *ℤ z) (sym (affine-first g n s sigma tau x y))

pub pay-scaled_own : (g : Numbers) (r n s : ℕ) (sigma : OwnPlan n) (tau : InformedPlan n) → pay g n s (scaled_own r n sigma) tau ≡ pos (r ^ n) *ℤ pay g n s sigma tau
pay-scaled_own g r n s sigma tau =
    pay-affine g n s (scaled_own r n sigma) tau ∙ affine-scaled_own g r n s sigma tau (pos 0) (pos 1) ∙ ap (λ (z : ℤ). pos (r ^ n) *ℤ z) (sym (pay-affine g n s sigma tau))

pub pay-scaled_informed : (g : Numbers) (r n s : ℕ) (sigma : OwnPlan n) (tau : InformedPlan n) → pay g n s sigma (scaled_informed r n tau) ≡ pos (r ^ n) *ℤ pay g n s sigma tau
pay-scaled_informed g r n s sigma tau =
    pay-affine g n s sigma (scaled_informed r n tau) ∙ affine-scaled_informed g r n s sigma tau (pos 0) (pos 1) ∙ ap (λ (z : ℤ). pos (r ^ n) *ℤ z) (sym (pay-affine g n s sigma tau))

-- ---- what draws pay
over-drawn : {X Y Z : Type 0} (q : ℤ) (h : Y → Z) (stage_of : X → List (ℕ × Y)) (plans : List (ℕ × X)) (f : Z → ℤ) (p : Y → ℤ) → ((y : Y) → f (h y) ≡ q *ℤ p y) →
    over (flat_map (λ (item : ℕ × X). map (times item.0 h) (stage_of item.1)) plans) f ≡ total (λ (item : ℕ × X). pos item.0 *ℤ (q *ℤ over (stage_of item.1) p)) plans
over-drawn {X} {Y} {Z} q h stage_of plans f p same =
    total-flat_map (λ (b : ℕ × Z). pos b.0 *ℤ f b.1) (λ (item : ℕ × X). map (times item.0 h) (stage_of item.1)) plans
    ∙ total-same _ _ plans (each (λ (item : ℕ × X). over-times item.0 q h (stage_of item.1) f p same) plans)

-- a weighted sum of stages
drawn-stages : {X : Type 0} (g : Numbers) (s : ℕ) (q : ℤ) (f : X → ℕ → ℕ → ℕ → ℕ → ℤ) (plans : List (ℕ × X)) →
    stage g s (λ a c o t. total (λ (item : ℕ × X). pos item.0 *ℤ (q *ℤ f item.1 a c o t)) plans) ≡ q *ℤ total (λ (item : ℕ × X). pos item.0 *ℤ stage g s (f item.1)) plans
drawn-stages {X} g s q f plans =
    stage-total g s (λ (item : ℕ × X) a c o t. pos item.0 *ℤ (q *ℤ f item.1 a c o t)) plans
    ∙ total-same _ (λ (item : ℕ × X). q *ℤ (pos item.0 *ℤ stage g s (f item.1))) plans (each (λ (item : ℕ × X).
    stage-same g s _ (λ a c o t. (pos item.0 *ℤ q) *ℤ f item.1 a c o t) (λ a c o t. join (pos item.0) q (f item.1 a c o t))
    ∙ stage-scale g s (pos item.0 *ℤ q) (f item.1)
    ∙ turn (pos item.0) q (stage g s (f item.1))) plans)
    ∙ total-scale q (λ (item : ℕ × X). pos item.0 *ℤ stage g s (f item.1)) plans
  where
    join : (k q z : ℤ) → k *ℤ (q *ℤ z) ≡ (k *ℤ q) *ℤ z
    join k q z = simp products (omega (arith, sums))

    turn : (k q z : ℤ) → (k *ℤ q) *ℤ z ≡ q *ℤ (k *ℤ z)
    turn k q z = simp products (omega (arith, sums))

-- at no stage there is nothing
nothing : {X : Type 0} (whole : ℕ) (plans : List (ℕ × X)) → pos whole *ℤ pos 0 ≡ pos (whole ^ 0) *ℤ total (λ (item : ℕ × X). pos item.0 *ℤ pos 0) plans
nothing {X} whole plans =
    rw (pow-zero whole, total-weights (λ (item : ℕ × X). item.0) (pos 0) plans) (none whole (sum_by (λ (item : ℕ × X). item.0) plans))
  where
    none : (x y : ℕ) → pos x *ℤ pos 0 ≡ pos 1 *ℤ (pos y *ℤ pos 0)
    none x y = omega (arith, ints)

pub pay-mixed_own : (g : Numbers) (whole n s : ℕ) (plans : List (ℕ × OwnPlan n)) (tau : InformedPlan n) →
    pos whole *ℤ pay g n s (mixed_own whole n plans) tau ≡ pos (whole ^ n) *ℤ total (λ (item : ℕ × OwnPlan n). pos item.0 *ℤ pay g n s item.1 tau) plans
pay-mixed_own g whole zero s plans tau = nothing whole plans
pay-mixed_own g whole (suc n) s plans tau =
    let rest = λ (a c o t : ℕ) (b : OwnPlan n). over (tau c a o t) (λ (d : InformedPlan n). affine g n t b d (next_x g n s a c (pos 0) (pos 1)) (next_y g (pos 1))) in
    ap (λ (z : ℤ). pos whole *ℤ z)
    (pay-affine g (suc n) s (mixed_own whole (suc n) plans) tau
    ∙ affine-first g n s (mixed_own whole (suc n) plans) tau (pos 0) (pos 1)
    ∙ stage-same g s _ (λ a c o t. total (λ (item : ℕ × OwnPlan (suc n)). pos item.0 *ℤ (pos (whole ^ n) *ℤ over (item.1 a o) (rest a c o t))) plans) (λ a c o t.
    over-drawn (pos (whole ^ n)) (scaled_own whole n) (λ (plan : OwnPlan (suc n)). plan a o) plans (rest a c o t) (rest a c o t) (λ b.
    over-same (tau c a o t) _ (λ d. pos (whole ^ n) *ℤ affine g n t b d (next_x g n s a c (pos 0) (pos 1)) (next_y g (pos 1))) (λ d. affine-scaled_own g whole n t b d (next_x g n s a c (pos 0) (pos 1)) (next_y g (pos 1)))
    ∙ over-scale (tau c a o t) (pos (whole ^ n)) (λ d. affine g n t b d (next_x g n s a c (pos 0) (pos 1)) (next_y g (pos 1)))))
    ∙ drawn-stages g s (pos (whole ^ n)) (λ (plan : OwnPlan (suc n)) a c o t. over (plan a o) (rest a c o t)) plans
    ∙ ap (λ (z : ℤ). pos (whole ^ n) *ℤ z) (total-same _ _ plans (each (λ (item : ℕ × OwnPlan (suc n)).
    ap (λ (z : ℤ). pos item.0 *ℤ z) (sym (pay-affine g (suc n) s item.1 tau ∙ affine-first g n s item.1 tau (pos 0) (pos 1)))) plans)))
    ∙ power whole n (total (λ (item : ℕ × OwnPlan (suc n)). pos item.0 *ℤ pay g (suc n) s item.1 tau) plans)

pub pay-mixed_informed : (g : Numbers) (whole n s : ℕ) (sigma : OwnPlan n) (plans : List (ℕ × InformedPlan n)) →
    pos whole *ℤ pay g n s sigma (mixed_informed whole n plans) ≡ pos (whole ^ n) *ℤ total (λ (item : ℕ × InformedPlan n). pos item.0 *ℤ pay g n s sigma item.1) plans
pay-mixed_informed g whole zero s sigma plans = nothing whole plans
pay-mixed_informed g whole (suc n) s sigma plans =
    let last = λ (a c o t : ℕ) (b : OwnPlan n) (d : InformedPlan n). affine g n t b d (next_x g n s a c (pos 0) (pos 1)) (next_y g (pos 1)) in
    ap (λ (z : ℤ). pos whole *ℤ z)
    (pay-affine g (suc n) s sigma (mixed_informed whole (suc n) plans)
    ∙ affine-first g n s sigma (mixed_informed whole (suc n) plans) (pos 0) (pos 1)
    ∙ stage-same g s _ (λ a c o t. total (λ (item : ℕ × InformedPlan (suc n)). pos item.0 *ℤ (pos (whole ^ n) *ℤ over (sigma a o) (λ (b : OwnPlan n). over (item.1 c a o t) (last a c o t b)))) plans) (λ a c o t.
    over-same (sigma a o) _ (λ (b : OwnPlan n). total (λ (item : ℕ × InformedPlan (suc n)). pos item.0 *ℤ (pos (whole ^ n) *ℤ over (item.1 c a o t) (last a c o t b))) plans) (λ b.
    over-drawn (pos (whole ^ n)) (scaled_informed whole n) (λ (plan : InformedPlan (suc n)). plan c a o t) plans (last a c o t b) (last a c o t b)
    (λ d. affine-scaled_informed g whole n t b d (next_x g n s a c (pos 0) (pos 1)) (next_y g (pos 1))))
    ∙ over-totals (pos (whole ^ n)) (sigma a o) plans (λ (b : OwnPlan n) (plan : InformedPlan (suc n)). over (plan c a o t) (last a c o t b)))
    ∙ drawn-stages g s (pos (whole ^ n)) (λ (plan : InformedPlan (suc n)) a c o t. over (sigma a o) (λ (b : OwnPlan n). over (plan c a o t) (last a c o t b))) plans
    ∙ ap (λ (z : ℤ). pos (whole ^ n) *ℤ z) (total-same _ _ plans (each (λ (item : ℕ × InformedPlan (suc n)).
    ap (λ (z : ℤ). pos item.0 *ℤ z) (sym (pay-affine g (suc n) s sigma item.1 ∙ affine-first g n s sigma item.1 (pos 0) (pos 1)))) plans)))
    ∙ power whole n (total (λ (item : ℕ × InformedPlan (suc n)). pos item.0 *ℤ pay g (suc n) s sigma item.1) plans)
  where
    over-totals : {X Y : Type 0} (q : ℤ) (branches : List (ℕ × X)) (plans : List (ℕ × Y)) (f : X → Y → ℤ) →
        over branches (λ x. total (λ (item : ℕ × Y). pos item.0 *ℤ (q *ℤ f x item.1)) plans) ≡ total (λ (item : ℕ × Y). pos item.0 *ℤ (q *ℤ over branches (λ x. f x item.1))) plans
    over-totals {X} {Y} q branches plans f =
        total-same _ (λ (b : ℕ × X). total (λ (item : ℕ × Y). (pos item.0 *ℤ q) *ℤ (pos b.0 *ℤ f b.1 item.1)) plans) branches (each (λ (b : ℕ × X).
        sym (total-scale (pos b.0) (λ (item : ℕ × Y). pos item.0 *ℤ (q *ℤ f b.1 item.1)) plans)
        ∙ total-same _ _ plans (each (λ (item : ℕ × Y). turn (pos b.0) (pos item.0) q (f b.1 item.1)) plans)) branches)
        ∙ total-swap (λ (b : ℕ × X) (item : ℕ × Y). (pos item.0 *ℤ q) *ℤ (pos b.0 *ℤ f b.1 item.1)) branches plans
        ∙ total-same _ _ plans (each (λ (item : ℕ × Y).
        total-scale (pos item.0 *ℤ q) (λ (b : ℕ × X). pos b.0 *ℤ f b.1 item.1) branches
        ∙ join (pos item.0) q (over branches (λ x. f x item.1))) plans)
      where
        turn : (b k q z : ℤ) → b *ℤ (k *ℤ (q *ℤ z)) ≡ (k *ℤ q) *ℤ (b *ℤ z)
        turn b k q z = simp products (omega (arith, sums))

        join : (k q z : ℤ) → (k *ℤ q) *ℤ z ≡ k *ℤ (q *ℤ z)
        join k q z = simp products (omega (arith, sums))

-- ---- the laws
pub scaled-are_right : ScaledAreRight
scaled-are_right g r whole n some = (scaled_own-is_plan g r whole some n, scaled_informed-is_plan g r whole some n)

pub scaled-pay : ScaledPay
scaled-pay g r n s sigma tau = (pay-scaled_own g r n s sigma tau, pay-scaled_informed g r n s sigma tau)

pub mixed-are_right : MixedAreRight
mixed-are_right g whole each_total n some some_each = (mixed_own-is_plan g whole each_total some some_each n, mixed_informed-is_plan g whole each_total some some_each n)

pub mixed-pay : MixedPay
mixed-pay g whole n s = (pay-mixed_own g whole n s, pay-mixed_informed g whole n s)
