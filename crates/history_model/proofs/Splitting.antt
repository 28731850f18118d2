-- What the plans of a point hold player one to.
use Rattle.std.proofs.Common.{◌≡◌, ◌≢◌, ℕ, suc, zero, ◌+◌, ◌*◌, ◌/◌, ◌^◌, ◌<◌, ◌≤◌, List, [], ◌∷◌, ◌++◌, length, refl, ap, subst, arith, sym, ◌∙◌, ne_eqb, inl, inr}
use Rattle.std.specs.Prelude.{ℤ, pos, ◌+ℤ◌, ◌*ℤ◌, ◌≤ℤ◌, sum_by, map, cond, ◌==◌, Bool, true, false}
use Rattle.std.specs.List.{AllByRecursion, range_with_len}
use Rattle.std.proofs.Math.Nat.{pow-zero, pow-suc, mul_comm, mul-pos, mul-div_cancel_left}
use Rattle.std.proofs.lemmas.Int.{ints}
use Rattle.std.proofs.lemmas.Bool.Decides.{eqb_tells}
use Rattle.std.proofs.lemmas.List.Sums.{sum_by-cons}
use borrow.Author.Differences.{up}
use Rattle.scaled_num.specs.Sums.{total, below}
use Rattle.game_model.specs.Branches.{Continuation}
use Rattle.game_model.specs.Numbers.{Numbers, RowsAreFull}
use Rattle.game_model.specs.Plan.{OwnPlan, InformedPlan, IsOwnPlan, IsInformedPlan, branches_total}
use Rattle.game_model.specs.Play.{Step, first_steps, step_weight, own_branch, own_after, informed_after, no_own_plan, no_informed_plan, pay}
use Rattle.point_set.specs.Points.{Point, mass, shares_at}
use Rattle.controller.specs.Members.{PointKeeps, belief_total}
use Rattle.history_model.specs.Plans.{belief_pay, informed_plan, mass_product, masses, product_of_positive}
use Rattle.history_model.proofs.Parts.{PointLoses, SplittingHolds, SplittingPlans}
use Rattle.scaled_num.proofs.Products.{mulℤ_assoc, mulℤ_left_comm, le-mulℤ, products, sums}
use Rattle.scaled_num.proofs.Sums.{total-scale, total-add, total-same, total-le, total-below, total-below-le, total-weights, total-pos, total-map, total-swap, total-places, sum_by-map, each, each-at, each-map, below-each, sum_by-same}
use Rattle.game_model.proofs.Steps.{total-first_steps, total-coins_row, total-row}
use Rattle.game_model.proofs.Pay.{each-from, pay-first_steps}
use Rattle.scaled_num.proofs.Each.{each-of-map, each-of-flat_map, at-below}
use Rattle.point_set.proofs.Masses.{mass-total, masses-total}

-- a number times a sum of whole numbers
pub sum_by-scale : {X : Type 0} (k : ℕ) (f : X → ℕ) (xs : List X) → sum_by (λ x. k * f x) xs ≡ k * sum_by f xs
sum_by-scale k f xs = ap up (sym (total-pos (λ x. k * f x) xs) ∙ total-scale (pos k) (λ x. pos (f x)) xs ∙ ap (λ z. pos k *ℤ z) (total-pos f xs))

-- each positive mass of a point divides z
abbrev DividesAll : Numbers → (ℕ → Point) → ℕ → ℕ → Type 0
DividesAll g points count z =
    (j a o t : ℕ) → j < count → a < g.own_actions → o < g.observations → t < g.states →
    mass g (points j) a o t ≢ 0 → mass g (points j) a o t * (z / mass g (points j) a o t) ≡ z

-- the branch of a share
abbrev share_branch : Numbers → (ℕ → Point) → ℕ → ℕ → ℕ → ℕ → (n : ℕ) → Continuation → ℕ × InformedPlan n
share_branch g points z m w t n share = (m * share.weight * (points share.member).belief t * (z / w), informed_plan g points z share.member t n)

-- the weights after an informed action, wherever the stage leads
branches-sum : (g : Numbers) (points : ℕ → Point) (z m w t k n : ℕ) (shares : List Continuation) →
    sum_by (λ share. share.weight * (points share.member).belief t) shares ≡ w → (w ≢ 0 → w * (z / w) ≡ z) →
    branches_total (cond (w == 0) ((m * z, informed_plan g points z k t n) ∷ []) (map (share_branch g points z m w t n) shares)) ≡ m * z
branches-sum g points z m w t k n shares split divides =
    elim (eqb_tells w 0) [
      | inl e ↦ rw e.0 (omega arith)
      | inr e ↦ rw e.0
          (sum_by-map (λ (b : ℕ × InformedPlan n). b.0) (share_branch g points z m w t n) shares
          ∙ sum_by-same _ (λ share. (m * (z / w)) * (share.weight * (points share.member).belief t)) shares (λ share. omega arith)
          ∙ sum_by-scale (m * (z / w)) (λ share. share.weight * (points share.member).belief t) shares
          ∙ ap (λ (x : ℕ). (m * (z / w)) * x) split
          ∙ last m (z / w) w z (divides e.1))
    ]
  where
    last : (m d w z : ℕ) → w * d ≡ z → (m * d) * w ≡ m * z
    last m d w z e = omega (arith, ap (λ (x : ℕ). m * x) e)

each-cond : {X : Type 0} (P : X → Type 0) (t : Bool) (xs ys : List X) → AllByRecursion P xs → AllByRecursion P ys → AllByRecursion P (cond t xs ys)
each-cond P true xs ys h k = h
each-cond P false xs ys h k = k

informed_plan-is_plan : (g : Numbers) (m v count z : ℕ) (e : ℕ) (points : ℕ → Point) → 1 ≤ m → 1 ≤ z → g.states ≤ count → DividesAll g points count z →
    ((j : ℕ) → j < count → PointKeeps g m v count (points j)) → ((j : ℕ) → j < count → PointLoses g e m points j) →
    (n j s : ℕ) → j < count → s < g.states → IsInformedPlan g (m * z) n (informed_plan g points z j s n)
informed_plan-is_plan g m v count z e points lm lz enough divide fits stand zero j s lj ls = tt
informed_plan-is_plan g m v count z e points lm lz enough divide fits stand (suc n) j s lj ls =
    record {
      some = mul-pos lm lz;
      part = λ c. (points j).mixes s c * z;
      same = λ c a o t lc la lo lt. branches-sum g points z ((points j).mixes s c) (mass g (points j) a o t) t t n (shares_at (points j) a o)
          ((stand j lj).split a o t la lo lt) (divide j a o t lj la lo lt);
      sums = sum_by-same _ (λ c. z * (points j).mixes s c) (below g.informed_actions) (λ c. omega arith)
          ∙ sum_by-scale z ((points j).mixes s) (below g.informed_actions)
          ∙ ap (λ (x : ℕ). z * x) ((fits j lj).mixes_sum s ls)
          ∙ mul_comm z m;
      rest = λ c a o t lc la lo lt. each-cond (λ (b : ℕ × InformedPlan n). IsInformedPlan g (m * z) n b.1) (mass g (points j) a o t == 0) _ _
          (informed_plan-is_plan g m v count z e points lm lz enough divide fits stand n t t (omega arith) lt, tt)
          (each-map (λ (b : ℕ × InformedPlan n). IsInformedPlan g (m * z) n b.1) (share_branch g points z ((points j).mixes s c) (mass g (points j) a o t) t n) (shares_at (points j) a o)
          (each-from (λ share. share.member < count) _ (shares_at (points j) a o)
          (λ share l. informed_plan-is_plan g m v count z e points lm lz enough divide fits stand n share.member t l lt)
          ((fits j lj).named a o la lo)));
    }

-- a weighted sum whose weights sum to nothing is nothing
pub zero-weights : {X : Type 0} (f : X → ℕ) (h : X → ℤ) (xs : List X) → sum_by f xs ≡ 0 → total (λ x. pos (f x) *ℤ h x) xs ≡ pos 0
zero-weights f h [] e = refl
zero-weights f h (x ∷ xs) e =
    let parts : f x + sum_by f xs ≡ 0 = sym (sum_by-cons f x xs) ∙ e in
    let first : f x ≡ 0 = omega arith in
    let rest : sum_by f xs ≡ 0 = omega arith in
    rw (first, zero-weights f h xs rest) (omega (arith, ints))

-- a sum that stands before three others goes behind them
total-behind : {C O T U : Type 0} (f : C → O → T → U → ℤ) (cs : List C) (os : List O) (ts : List T) (us : O → List U) →
    total (λ c. total (λ o. total (λ t. total (λ u. f c o t u) (us o)) ts) os) cs ≡ total (λ o. total (λ t. total (λ u. total (λ c. f c o t u) cs) (us o)) ts) os
total-behind f cs os ts us =
    total-swap (λ c o. total (λ t. total (λ u. f c o t u) (us o)) ts) cs os
    ∙ total-same _ _ os (each (λ o.
    total-swap (λ c t. total (λ u. f c o t u) (us o)) cs ts
    ∙ total-same _ _ ts (each (λ t. total-swap (λ c u. f c o t u) cs (us o)) ts)) os)

-- what is left, at one place of the stage: the branches of the informed player's plan, weighted
abbrev left : Numbers → (n : ℕ) → ℕ → OwnPlan n → List (ℕ × InformedPlan n) → ℤ
left g n t plan branches = total (λ (b : ℕ × InformedPlan n). pos b.0 *ℤ pay g n t plan b.1) branches

-- the sum over the first steps of the weight times what the rest pays
total-left : (g : Numbers) (n s : ℕ) (sigma : OwnPlan (suc n)) (tau : InformedPlan (suc n)) →
    total (λ x. pos (step_weight g n s sigma tau x) *ℤ pay g n x.to (own_after n sigma x).1 (informed_after n tau x).1) (first_steps g n sigma tau)
    ≡ total (λ a. total (λ c. total (λ o. total (λ t. total (λ u.
    pos (g.weight s a c o t * (own_branch n (sigma a o) u).0) *ℤ left g n t (own_branch n (sigma a o) u).1 (tau c a o t))
    (below (length (sigma a o)))) (below g.states)) (below g.observations)) (below g.informed_actions)) (below g.own_actions)
total-left g n s sigma tau =
    total-first_steps g n sigma tau (λ x. pos (step_weight g n s sigma tau x) *ℤ pay g n x.to (own_after n sigma x).1 (informed_after n tau x).1)
    ∙ total-below g.own_actions _ _ (λ a la.
    total-below g.informed_actions _ _ (λ c lc.
    total-below g.observations _ _ (λ o lo.
    total-below g.states _ _ (λ t lt.
    total-below (length (sigma a o)) _ _ (λ u lu.
    let w = g.weight s a c o t * (own_branch n (sigma a o) u).0 in
    let plan = (own_branch n (sigma a o) u).1 in
    total-places (λ (b : ℕ × InformedPlan n). pos (w * b.0) *ℤ pay g n t plan b.1) (0, no_informed_plan n) (tau c a o t)
    ∙ total-same _ _ (tau c a o t) (each {P = λ b. pos (w * b.0) *ℤ pay g n t plan b.1 ≡ pos w *ℤ (pos b.0 *ℤ pay g n t plan b.1)}
    (λ b. mulℤ_assoc (pos w) (pos b.0) (pay g n t plan b.1)) (tau c a o t))
    ∙ total-scale (pos w) (λ (b : ℕ × InformedPlan n). pos b.0 *ℤ pay g n t plan b.1) (tau c a o t))))))

-- The splitting: what is left, over the states and the informed player's actions, is what the shares are left with.
-- Player one's plan of what is left does not depend on the share.
split-left : (g : Numbers) (points : ℕ → Point) (z j n a o t : ℕ) (plan : OwnPlan n) →
    sum_by (λ share. share.weight * (points share.member).belief t) (shares_at (points j) a o) ≡ mass g (points j) a o t →
    (mass g (points j) a o t ≢ 0 → mass g (points j) a o t * (z / mass g (points j) a o t) ≡ z) →
    total (λ s. total (λ c. pos ((points j).belief s * g.weight s a c o t) *ℤ left g n t plan (informed_plan g points z j s (suc n) c a o t)) (below g.informed_actions)) (below g.states)
    ≡ pos z *ℤ total (λ share. pos (share.weight * (points share.member).belief t) *ℤ pay g n t plan (informed_plan g points z share.member t n)) (shares_at (points j) a o)
split-left g points z j n a o t plan split divides =
    let w = mass g (points j) a o t in
    let shares = shares_at (points j) a o in
    let b = (points j).belief in
    let mixes = (points j).mixes in
    let rest = total (λ share. pos (share.weight * (points share.member).belief t) *ℤ pay g n t plan (informed_plan g points z share.member t n)) shares in
    elim (eqb_tells w 0) [
      | inl e ↦ rw e.0
          (total-below g.states _ _ (λ s ls. total-below g.informed_actions _
          (λ c. pos (b s * mixes s c * g.weight s a c o t) *ℤ (pos z *ℤ pay g n t plan (informed_plan g points z t t n)))
          (λ c lc. alone_only (pos (b s)) (pos (g.weight s a c o t)) (pos (mixes s c)) (pos z) (pay g n t plan (informed_plan g points z t t n))))
          ∙ mass-total g (points j) a o t (pos z *ℤ pay g n t plan (informed_plan g points z t t n))
          ∙ nothing w (pos z *ℤ pay g n t plan (informed_plan g points z t t n)) (pos z) rest e.1
          (zero-weights (λ share. share.weight * (points share.member).belief t) (λ share. pay g n t plan (informed_plan g points z share.member t n)) shares (split ∙ e.1)))
      | inr e ↦ rw e.0
          (total-below g.states _ _ (λ s ls. total-below g.informed_actions _
          (λ c. pos (b s * mixes s c * g.weight s a c o t) *ℤ (pos (z / w) *ℤ rest))
          (λ c lc.
          ap (λ y. pos (b s * g.weight s a c o t) *ℤ y)
          (total-map (λ (x : ℕ × InformedPlan n). pos x.0 *ℤ pay g n t plan x.1) (share_branch g points z (mixes s c) w t n) shares
          ∙ total-same _ (λ share. pos (mixes s c * (z / w)) *ℤ (pos (share.weight * (points share.member).belief t) *ℤ pay g n t plan (informed_plan g points z share.member t n))) shares
          (each (λ share. four (pos (mixes s c)) (pos share.weight) (pos ((points share.member).belief t)) (pos (z / w)) (pay g n t plan (informed_plan g points z share.member t n))) shares)
          ∙ total-scale (pos (mixes s c * (z / w))) (λ share. pos (share.weight * (points share.member).belief t) *ℤ pay g n t plan (informed_plan g points z share.member t n)) shares)
          ∙ alone (pos (b s)) (pos (g.weight s a c o t)) (pos (mixes s c)) (pos (z / w)) rest))
          ∙ mass-total g (points j) a o t (pos (z / w) *ℤ rest)
          ∙ sym (mulℤ_assoc (pos w) (pos (z / w)) rest)
          ∙ ap (λ x. pos x *ℤ rest) (divides e.1))
    ]
  where
    alone : (b t m z y : ℤ) → (b *ℤ t) *ℤ ((m *ℤ z) *ℤ y) ≡ ((b *ℤ m) *ℤ t) *ℤ (z *ℤ y)
    alone b t m z y = simp products (omega (arith, sums))

    alone_only : (b t m z y : ℤ) → (b *ℤ t) *ℤ ((m *ℤ z) *ℤ y +ℤ pos 0) ≡ ((b *ℤ m) *ℤ t) *ℤ (z *ℤ y)
    alone_only b t m z y =
        let same : (m *ℤ z) *ℤ y +ℤ pos 0 ≡ (m *ℤ z) *ℤ y = omega (arith, sums) in
        rw same (simp products (omega (arith, sums)))

    nothing : (w : ℕ) (y z r : ℤ) → w ≡ 0 → r ≡ pos 0 → pos w *ℤ y ≡ z *ℤ r
    nothing w y z r e f = rw (e, f) (omega (arith, ints))

    four : (m x b d y : ℤ) → (((m *ℤ x) *ℤ b) *ℤ d) *ℤ y ≡ (m *ℤ d) *ℤ ((x *ℤ b) *ℤ y)
    four m x b d y = simp products (omega (arith, sums))

-- ---- sums that trade places, and factors that go inside

-- a factor goes behind three sums
scale-behind : {O T U : Type 0} (k : ℤ) (f : O → T → U → ℤ) (os : List O) (ts : List T) (us : O → List U) →
    k *ℤ total (λ o. total (λ t. total (λ u. f o t u) (us o)) ts) os ≡ total (λ o. total (λ t. total (λ u. k *ℤ f o t u) (us o)) ts) os
scale-behind k f os ts us =
    sym (total-scale k (λ o. total (λ t. total (λ u. f o t u) (us o)) ts) os)
    ∙ total-same _ _ os (each (λ o.
    sym (total-scale k (λ t. total (λ u. f o t u) (us o)) ts)
    ∙ total-same _ _ ts (each (λ t. sym (total-scale k (λ u. f o t u) (us o))) ts)) os)

-- a sum of bounded terms, times e
scale-le : {X : Type 0} (e : ℤ) (f g : X → ℤ) (xs : List X) → AllByRecursion (λ x. (e *ℤ f x) ≤ℤ g x) xs → (e *ℤ total f xs) ≤ℤ total g xs
scale-le e f g xs h = rw (← (total-scale e f xs)) (total-le (λ x. e *ℤ f x) g xs h)

-- ---- what is left, summed over the states by the belief

-- what a share's point and plan are left with, over all shares
abbrev shares_pay : Numbers → (ℕ → Point) → ℕ → (n : ℕ) → OwnPlan n → List Continuation → ℤ
shares_pay g points z n plan shares = total (λ share. pos share.weight *ℤ belief_pay g points z n share.member plan) shares

-- the sum over the next state of what the shares are left with
split-states : (g : Numbers) (points : ℕ → Point) (z n : ℕ) (plan : OwnPlan n) (shares : List Continuation) →
    total (λ t. total (λ share. pos (share.weight * (points share.member).belief t) *ℤ pay g n t plan (informed_plan g points z share.member t n)) shares) (below g.states)
    ≡ shares_pay g points z n plan shares
split-states g points z n plan shares =
    total-swap (λ t share. pos (share.weight * (points share.member).belief t) *ℤ pay g n t plan (informed_plan g points z share.member t n)) (below g.states) shares
    ∙ total-same _ _ shares (each (λ share.
    total-same _ (λ t. pos share.weight *ℤ (pos ((points share.member).belief t) *ℤ pay g n t plan (informed_plan g points z share.member t n))) (below g.states)
    (each (λ t. mulℤ_assoc (pos share.weight) (pos ((points share.member).belief t)) (pay g n t plan (informed_plan g points z share.member t n))) (below g.states))
    ∙ total-scale (pos share.weight) (λ t. pos ((points share.member).belief t) *ℤ pay g n t plan (informed_plan g points z share.member t n)) (below g.states)) shares)

-- what is left of all first steps, summed over the states by the belief of point j
total-left_split : (g : Numbers) (points : ℕ → Point) (z j n : ℕ) (sigma : OwnPlan (suc n)) →
    ((a o t : ℕ) → a < g.own_actions → o < g.observations → t < g.states →
    sum_by (λ share. share.weight * (points share.member).belief t) (shares_at (points j) a o) ≡ mass g (points j) a o t) →
    ((a o t : ℕ) → a < g.own_actions → o < g.observations → t < g.states →
    mass g (points j) a o t ≢ 0 → mass g (points j) a o t * (z / mass g (points j) a o t) ≡ z) →
    total (λ s. pos ((points j).belief s) *ℤ total (λ a. total (λ c. total (λ o. total (λ t. total (λ u.
    pos (g.weight s a c o t * (own_branch n (sigma a o) u).0) *ℤ left g n t (own_branch n (sigma a o) u).1 (informed_plan g points z j s (suc n) c a o t))
    (below (length (sigma a o)))) (below g.states)) (below g.observations)) (below g.informed_actions)) (below g.own_actions)) (below g.states)
    ≡ total (λ a. total (λ o. total (λ u. pos (own_branch n (sigma a o) u).0 *ℤ (pos z *ℤ shares_pay g points z n (own_branch n (sigma a o) u).1 (shares_at (points j) a o)))
    (below (length (sigma a o)))) (below g.observations)) (below g.own_actions)
total-left_split g points z j n sigma split divides =
    let b = (points j).belief in
    let w = λ (a o u : ℕ). (own_branch n (sigma a o) u).0 in
    let plan = λ (a o u : ℕ). (own_branch n (sigma a o) u).1 in
    let rest = λ (s a c o t u : ℕ). left g n t (plan a o u) (informed_plan g points z j s (suc n) c a o t) in
    let f = λ (s a c o t u : ℕ). pos (g.weight s a c o t * w a o u) *ℤ rest s a c o t u in
    let us = λ (a o : ℕ). below (length (sigma a o)) in
    let A = below g.own_actions in
    let C = below g.informed_actions in
    let O = below g.observations in
    let S = below g.states in
    let share_t = λ (a o t u : ℕ). total (λ share. pos (share.weight * (points share.member).belief t) *ℤ pay g n t (plan a o u) (informed_plan g points z share.member t n)) (shares_at (points j) a o) in
    total-same _ (λ s. total (λ a. total (λ c. total (λ o. total (λ t. total (λ u. pos (b s) *ℤ f s a c o t u) (us a o)) S) O) C) A) S
    (each (λ s.
    sym (total-scale (pos (b s)) (λ a. total (λ c. total (λ o. total (λ t. total (λ u. f s a c o t u) (us a o)) S) O) C) A)
    ∙ total-same _ _ A (each (λ a.
    sym (total-scale (pos (b s)) (λ c. total (λ o. total (λ t. total (λ u. f s a c o t u) (us a o)) S) O) C)
    ∙ total-same _ _ C (each (λ c. scale-behind (pos (b s)) (λ o t u. f s a c o t u) O S (λ o. us a o)) C)) A)) S)
    ∙ total-swap (λ s a. total (λ c. total (λ o. total (λ t. total (λ u. pos (b s) *ℤ f s a c o t u) (us a o)) S) O) C) S A
    ∙ total-below g.own_actions _ _ (λ a la.
    total-same _ _ S (each (λ s. total-behind (λ c o t u. pos (b s) *ℤ f s a c o t u) C O S (λ o. us a o)) S)
    ∙ total-behind (λ s o t u. total (λ c. pos (b s) *ℤ f s a c o t u) C) S O S (λ o. us a o)
    ∙ total-below g.observations _ _ (λ o lo.
    total-below g.states _ (λ t. total (λ u. pos (w a o u) *ℤ (pos z *ℤ share_t a o t u)) (us a o)) (λ t lt.
    total-same _ _ (us a o) (each (λ u.
    total-same _ (λ s. pos (w a o u) *ℤ total (λ c. pos (b s * g.weight s a c o t) *ℤ rest s a c o t u) C) S
    (each (λ s. total-same _ (λ c. pos (w a o u) *ℤ (pos (b s * g.weight s a c o t) *ℤ rest s a c o t u)) C
    (each (λ c. turn (pos (b s)) (pos (g.weight s a c o t)) (pos (w a o u)) (rest s a c o t u)) C)
    ∙ total-scale (pos (w a o u)) (λ c. pos (b s * g.weight s a c o t) *ℤ rest s a c o t u) C) S)
    ∙ total-scale (pos (w a o u)) (λ s. total (λ c. pos (b s * g.weight s a c o t) *ℤ rest s a c o t u) C) S
    ∙ ap (λ y. pos (w a o u) *ℤ y) (split-left g points z j n a o t (plan a o u) (split a o t la lo lt) (divides a o t la lo lt))) (us a o)))
    ∙ total-swap (λ t u. pos (w a o u) *ℤ (pos z *ℤ share_t a o t u)) S (us a o)
    ∙ total-same _ _ (us a o) (each (λ u.
    total-scale (pos (w a o u)) (λ t. pos z *ℤ share_t a o t u) S
    ∙ ap (λ y. pos (w a o u) *ℤ y)
    (total-scale (pos z) (λ t. share_t a o t u) S
    ∙ ap (λ y. pos z *ℤ y) (split-states g points z n (plan a o u) (shares_at (points j) a o)))) (us a o))))
  where
    turn : (b t w y : ℤ) → b *ℤ ((t *ℤ w) *ℤ y) ≡ w *ℤ ((b *ℤ t) *ℤ y)
    turn b t w y = simp products (omega (arith, sums))

-- ---- the bound

-- what is left is at most what bounds of the shares' points give
left-le : (g : Numbers) (points : ℕ → Point) (z j n : ℕ) (e : ℤ) (sigma : OwnPlan (suc n)) (p : ℕ → ℕ) (bound : ℕ → ℤ) →
    ((a o : ℕ) → a < g.own_actions → o < g.observations → branches_total (sigma a o) ≡ p a) →
    ((a o u : ℕ) → a < g.own_actions → o < g.observations → u < length (sigma a o) →
    AllByRecursion (λ share. (e *ℤ belief_pay g points z n share.member (own_branch n (sigma a o) u).1) ≤ℤ bound share.member) (shares_at (points j) a o)) →
    (e *ℤ total (λ a. total (λ o. total (λ u. pos (own_branch n (sigma a o) u).0 *ℤ (pos z *ℤ shares_pay g points z n (own_branch n (sigma a o) u).1 (shares_at (points j) a o)))
    (below (length (sigma a o)))) (below g.observations)) (below g.own_actions))
    ≤ℤ total (λ a. pos (p a) *ℤ (pos z *ℤ total (λ o. total (λ share. pos share.weight *ℤ bound share.member) (shares_at (points j) a o)) (below g.observations))) (below g.own_actions)
left-le g points z j n e sigma p bound hp h =
    scale-le e _ _ (below g.own_actions) (below-each _ g.own_actions (λ a la.
    let gives = λ (o : ℕ). total (λ share. pos share.weight *ℤ bound share.member) (shares_at (points j) a o) in
    let part : total (λ o. pos (p a) *ℤ (pos z *ℤ gives o)) (below g.observations) ≡ pos (p a) *ℤ (pos z *ℤ total gives (below g.observations)) =
    total-scale (pos (p a)) (λ o. pos z *ℤ gives o) (below g.observations) ∙ ap (λ y. pos (p a) *ℤ y) (total-scale (pos z) gives (below g.observations)) in
    let goal = λ (y : ℤ). (e *ℤ total (λ o. total (λ u. pos (own_branch n (sigma a o) u).0 *ℤ (pos z *ℤ shares_pay g points z n (own_branch n (sigma a o) u).1 (shares_at (points j) a o)))
    (below (length (sigma a o)))) (below g.observations)) ≤ℤ y in
    subst goal part (scale-le e _ _ (below g.observations) (below-each _ g.observations (λ o lo.
    let branches = sigma a o in
    let coins : total (λ u. pos (own_branch n branches u).0 *ℤ (pos z *ℤ gives o)) (below (length branches)) ≡ pos (p a) *ℤ (pos z *ℤ gives o) =
    total-places (λ (b : ℕ × OwnPlan n). pos b.0 *ℤ (pos z *ℤ gives o)) (0, no_own_plan n) branches
    ∙ total-weights (λ (b : ℕ × OwnPlan n). b.0) (pos z *ℤ gives o) branches
    ∙ ap (λ k. pos k *ℤ (pos z *ℤ gives o)) (hp a o la lo) in
    let goal' = λ (y : ℤ). (e *ℤ total (λ u. pos (own_branch n branches u).0 *ℤ (pos z *ℤ shares_pay g points z n (own_branch n branches u).1 (shares_at (points j) a o)))
    (below (length branches))) ≤ℤ y in
    subst goal' coins (scale-le e _ _ (below (length branches)) (below-each _ (length branches) (λ u lu.
    inward e (own_branch n branches u).0 z (shares_pay g points z n (own_branch n branches u).1 (shares_at (points j) a o)) (gives o)
    (scale-le e _ _ (shares_at (points j) a o)
    (each-from (λ share. (e *ℤ belief_pay g points z n share.member (own_branch n branches u).1) ≤ℤ bound share.member) _ (shares_at (points j) a o)
    (λ share l. inside e share.weight _ _ l) (h a o u la lo lu)))))))))))
  where
    inside : (e : ℤ) (x : ℕ) (y b : ℤ) → (e *ℤ y) ≤ℤ b → (e *ℤ (pos x *ℤ y)) ≤ℤ (pos x *ℤ b)
    inside e x y b l = rw (mulℤ_left_comm e (pos x) y) (le-mulℤ x (e *ℤ y) b l)

    inward : (e : ℤ) (x z : ℕ) (y b : ℤ) → (e *ℤ y) ≤ℤ b → (e *ℤ (pos x *ℤ (pos z *ℤ y))) ≤ℤ (pos x *ℤ (pos z *ℤ b))
    inward e x z y b l =
        rw (mulℤ_left_comm e (pos x) (pos z *ℤ y), mulℤ_left_comm e (pos z) y)
        (le-mulℤ x (pos z *ℤ (e *ℤ y)) (pos z *ℤ b) (le-mulℤ z (e *ℤ y) b l))

-- the bound of what is left, after an own action: the values of the shares' points, and their tails
total-bound : (g : Numbers) (e m v count : ℕ) (points : ℕ → Point) (j : ℕ) → RowsAreFull g → PointKeeps g m v count (points j) → PointLoses g e m points j →
    (a : ℕ) → a < g.own_actions → (k tail : ℕ) →
    total (λ o. total (λ share. pos share.weight *ℤ ((points share.member).value *ℤ pos k +ℤ pos (tail * belief_total g (points share.member)))) (shares_at (points j) a o)) (below g.observations)
    ≡ pos k *ℤ total (λ o. total (λ share. pos share.weight *ℤ (points share.member).value) (shares_at (points j) a o)) (below g.observations)
    +ℤ pos (tail * (g.row_total * m * belief_total g (points j)))
total-bound g e m v count points j full fit stand a la k tail =
    let shares = λ (o : ℕ). shares_at (points j) a o in
    let O = below g.observations in
    let worth = λ (o : ℕ). total (λ share. pos share.weight *ℤ (points share.member).value) (shares o) in
    let all = λ (o : ℕ). total (λ share. pos (share.weight * belief_total g (points share.member))) (shares o) in
    let masses : total all O ≡ pos (g.row_total * m * belief_total g (points j)) =
    total-below g.observations _ _ (λ o lo.
    total-same _ (λ share. total (λ t. pos (share.weight * (points share.member).belief t)) (below g.states)) (shares o)
    (each (λ share. ap (λ x. pos share.weight *ℤ x) (sym (total-pos (points share.member).belief (below g.states)))
    ∙ sym (total-scale (pos share.weight) (λ t. pos ((points share.member).belief t)) (below g.states))) (shares o))
    ∙ total-swap (λ share t. pos (share.weight * (points share.member).belief t)) (shares o) (below g.states)
    ∙ total-below g.states _ (λ t. pos (mass g (points j) a o t)) (λ t lt.
    total-pos (λ share. share.weight * (points share.member).belief t) (shares o) ∙ ap pos (stand.split a o t la lo lt)))
    ∙ masses-total g m (points j) full fit.mixes_sum a la in
    total-below g.observations _ (λ o. pos k *ℤ worth o +ℤ pos tail *ℤ all o) (λ o lo.
    total-same _ (λ share. pos k *ℤ (pos share.weight *ℤ (points share.member).value) +ℤ pos tail *ℤ pos (share.weight * belief_total g (points share.member))) (shares o)
    (each (λ share. spread (pos share.weight) ((points share.member).value) (pos k) (pos tail) (pos (belief_total g (points share.member)))) (shares o))
    ∙ total-add _ _ (shares o)
    ∙ ap (λ x. x +ℤ total (λ share. pos tail *ℤ pos (share.weight * belief_total g (points share.member))) (shares o))
    (total-scale (pos k) (λ share. pos share.weight *ℤ (points share.member).value) (shares o))
    ∙ ap (λ x. pos k *ℤ worth o +ℤ x) (total-scale (pos tail) (λ share. pos (share.weight * belief_total g (points share.member))) (shares o)))
    ∙ total-add _ _ O
    ∙ ap (λ x. x +ℤ total (λ o. pos tail *ℤ all o) O) (total-scale (pos k) worth O)
    ∙ ap (λ x. pos k *ℤ total worth O +ℤ x) (total-scale (pos tail) all O ∙ ap (λ x. pos tail *ℤ x) masses)
  where
    spread : (x y k t b : ℤ) → x *ℤ (y *ℤ k +ℤ t *ℤ b) ≡ k *ℤ (x *ℤ y) +ℤ t *ℤ (x *ℤ b)
    spread x y k t b = simp products (omega (arith, sums))

-- what the first steps give at once, summed over the states by the belief
total-at_once : (g : Numbers) (points : ℕ → Point) (z j n m : ℕ) (e k₁ q k : ℤ) (sigma : OwnPlan (suc n)) (p : ℕ → ℕ) → RowsAreFull g →
    ((a o : ℕ) → a < g.own_actions → o < g.observations → branches_total (sigma a o) ≡ p a) →
    ((s : ℕ) → s < g.states → (c a o t : ℕ) → c < g.informed_actions → a < g.own_actions → o < g.observations → t < g.states →
    branches_total (informed_plan g points z j s (suc n) c a o t) ≡ (points j).mixes s c * z) →
    k₁ ≡ q *ℤ k →
    e *ℤ total (λ s. pos ((points j).belief s) *ℤ total (λ x. pos (step_weight g n s sigma (informed_plan g points z j s (suc n)) x) *ℤ (g.reward s x.own x.informed *ℤ k₁))
    (first_steps g n sigma (informed_plan g points z j s (suc n)))) (below g.states)
    ≡ total (λ a. pos (p a) *ℤ (pos z *ℤ (k *ℤ total (λ s. total (λ c. pos ((points j).belief s * (points j).mixes s c) *ℤ g.reward s a c *ℤ ((e *ℤ pos g.row_total) *ℤ q))
    (below g.informed_actions)) (below g.states)))) (below g.own_actions)
total-at_once g points z j n m e k₁ q k sigma p full hp hq once =
    let b = (points j).belief in
    let mixes = (points j).mixes in
    let A = below g.own_actions in
    let C = below g.informed_actions in
    let S = below g.states in
    let row = λ (s a : ℕ). total (λ c. pos (mixes s c * z) *ℤ (pos g.row_total *ℤ (g.reward s a c *ℤ k₁))) C in
    let want = λ (s a : ℕ). total (λ c. pos (b s * mixes s c) *ℤ g.reward s a c *ℤ ((e *ℤ pos g.row_total) *ℤ q)) C in
    sym (total-scale e _ S)
    ∙ total-below g.states _ (λ s. total (λ a. pos (p a) *ℤ (pos z *ℤ (k *ℤ want s a))) A) (λ s ls.
    ap (λ y. e *ℤ (pos (b s) *ℤ y))
    (total-coins_row g n s sigma (informed_plan g points z j s (suc n)) p (λ c. mixes s c * z) hp (hq s ls) (λ a c o t. g.reward s a c *ℤ k₁)
    ∙ total-below g.own_actions _ (λ a. pos (p a) *ℤ row s a) (λ a la. ap (λ y. pos (p a) *ℤ y)
    (total-below g.informed_actions _ _ (λ c lc. ap (λ y. pos (mixes s c * z) *ℤ y) (total-row g full s a c ls la lc (g.reward s a c *ℤ k₁))))))
    ∙ sym (mulℤ_assoc e (pos (b s)) (total (λ a. pos (p a) *ℤ row s a) A))
    ∙ sym (total-scale (e *ℤ pos (b s)) (λ a. pos (p a) *ℤ row s a) A)
    ∙ total-below g.own_actions _ _ (λ a la.
    mulℤ_left_comm (e *ℤ pos (b s)) (pos (p a)) (row s a)
    ∙ ap (λ y. pos (p a) *ℤ y)
    (sym (total-scale (e *ℤ pos (b s)) (λ c. pos (mixes s c * z) *ℤ (pos g.row_total *ℤ (g.reward s a c *ℤ k₁))) C)
    ∙ total-below g.informed_actions _ (λ c. (pos z *ℤ k) *ℤ (pos (b s * mixes s c) *ℤ g.reward s a c *ℤ ((e *ℤ pos g.row_total) *ℤ q)))
    (λ c lc. ap (λ y. (e *ℤ pos (b s)) *ℤ (pos (mixes s c * z) *ℤ (pos g.row_total *ℤ (g.reward s a c *ℤ y)))) once
    ∙ turn e (pos (b s)) (pos (mixes s c)) (pos z) (pos g.row_total) (g.reward s a c) q k)
    ∙ total-scale (pos z *ℤ k) (λ c. pos (b s * mixes s c) *ℤ g.reward s a c *ℤ ((e *ℤ pos g.row_total) *ℤ q)) C
    ∙ mulℤ_assoc (pos z) k (want s a))))
    ∙ total-swap (λ s a. pos (p a) *ℤ (pos z *ℤ (k *ℤ want s a))) S A
    ∙ total-below g.own_actions _ _ (λ a la.
    total-scale (pos (p a)) (λ s. pos z *ℤ (k *ℤ want s a)) S
    ∙ ap (λ y. pos (p a) *ℤ y) (total-scale (pos z) (λ s. k *ℤ want s a) S ∙ ap (λ y. pos z *ℤ y) (total-scale k (λ s. want s a) S)))
  where
    turn : (e b m z d r q k : ℤ) → (e *ℤ b) *ℤ ((m *ℤ z) *ℤ (d *ℤ (r *ℤ (q *ℤ k)))) ≡ (z *ℤ k) *ℤ (((b *ℤ m) *ℤ r) *ℤ ((e *ℤ d) *ℤ q))
    turn e b m z d r q k = simp products (omega (arith, sums))

-- pay, summed over the states by the belief: what the first steps give at once, and what is left
belief_pay-first_steps : (g : Numbers) (m v count z e n₁ : ℕ) (points : ℕ → Point) → RowsAreFull g → 1 ≤ m → 1 ≤ z → g.states ≤ count → DividesAll g points count z →
    ((j : ℕ) → j < count → PointKeeps g m v count (points j)) → ((j : ℕ) → j < count → PointLoses g e m points j) →
    (n j : ℕ) (sigma : OwnPlan (suc n)) → j < count → IsOwnPlan g n₁ (suc n) sigma →
    belief_pay g points z (suc n) j sigma
    ≡ total (λ s. pos ((points j).belief s) *ℤ total (λ x. pos (step_weight g n s sigma (informed_plan g points z j s (suc n)) x)
    *ℤ (g.reward s x.own x.informed *ℤ pos (g.discount_under ^ suc n * (g.row_total * n₁ * (m * z)) ^ n))) (first_steps g n sigma (informed_plan g points z j s (suc n)))) (below g.states)
    +ℤ pos g.discount_over *ℤ total (λ a. total (λ o. total (λ u. pos (own_branch n (sigma a o) u).0
    *ℤ (pos z *ℤ shares_pay g points z n (own_branch n (sigma a o) u).1 (shares_at (points j) a o))) (below (length (sigma a o)))) (below g.observations)) (below g.own_actions)
belief_pay-first_steps g m v count z e n₁ points full lm lz enough divide fits stand n j sigma lj own =
    let S = below g.states in
    let b = (points j).belief in
    let tau = λ (s : ℕ). informed_plan g points z j s (suc n) in
    let p = pos g.discount_over in
    let w = λ (s : ℕ) (x : Step). pos (step_weight g n s sigma (informed_plan g points z j s (suc n)) x) in
    let now = λ (s : ℕ) (x : Step). g.reward s x.own x.informed *ℤ pos (g.discount_under ^ suc n * (g.row_total * n₁ * (m * z)) ^ n) in
    let later = λ (s : ℕ) (x : Step). pay g n x.to (own_after n sigma x).1 (informed_after n (informed_plan g points z j s (suc n)) x).1 in
    let steps = λ (s : ℕ). first_steps g n sigma (informed_plan g points z j s (suc n)) in
    total-below g.states _ (λ s. pos (b s) *ℤ total (λ x. w s x *ℤ now s x) (steps s) +ℤ p *ℤ (pos (b s) *ℤ total (λ x. w s x *ℤ later s x) (steps s))) (λ s ls.
    ap (λ y. pos (b s) *ℤ y)
    (pay-first_steps g n₁ (m * z) full n s sigma (informed_plan g points z j s (suc n)) own
    (informed_plan-is_plan g m v count z e points lm lz enough divide fits stand (suc n) j s lj ls)
    ∙ total-same _ (λ x. w s x *ℤ now s x +ℤ p *ℤ (w s x *ℤ later s x)) (steps s) (each (λ x. spread (w s x) (now s x) p (later s x)) (steps s))
    ∙ total-add _ _ (steps s)
    ∙ ap (λ y. total (λ x. w s x *ℤ now s x) (steps s) +ℤ y) (total-scale p (λ x. w s x *ℤ later s x) (steps s)))
    ∙ spread (pos (b s)) (total (λ x. w s x *ℤ now s x) (steps s)) p (total (λ x. w s x *ℤ later s x) (steps s)))
    ∙ total-add _ _ S
    ∙ ap (λ y. total (λ s. pos (b s) *ℤ total (λ x. w s x *ℤ now s x) (steps s)) S +ℤ y)
    (total-scale p (λ s. pos (b s) *ℤ total (λ x. w s x *ℤ later s x) (steps s)) S
    ∙ ap (λ y. p *ℤ y)
    (total-below g.states _ _ (λ s ls. ap (λ y. pos (b s) *ℤ y) (total-left g n s sigma (informed_plan g points z j s (suc n))))
    ∙ total-left_split g points z j n sigma (stand j lj).split (λ a o t la lo lt. divide j a o t lj la lo lt)))
  where
    spread : (w r p y : ℤ) → w *ℤ (r +ℤ p *ℤ y) ≡ w *ℤ r +ℤ p *ℤ (w *ℤ y)
    spread w r p y = simp products (omega (arith, sums))

splitting-upper : (g : Numbers) (e m v count z : ℕ) (points : ℕ → Point) → RowsAreFull g → 1 ≤ m → 1 ≤ z → g.states ≤ count → DividesAll g points count z →
    ((j : ℕ) → j < count → PointKeeps g m v count (points j)) → ((j : ℕ) → j < count → PointLoses g e m points j) →
    (n₁ n j : ℕ) (sigma : OwnPlan n) → j < count → IsOwnPlan g n₁ n sigma →
    (pos e *ℤ belief_pay g points z n j sigma)
    ≤ℤ ((points j).value *ℤ pos (g.discount_under ^ n * (g.row_total * n₁ * (m * z)) ^ n)
    +ℤ pos (g.discount_over ^ n * v * (g.row_total * n₁ * (m * z)) ^ n * belief_total g (points j)))
splitting-upper g e m v count z points full lm lz enough divide fits stand n₁ zero j sigma lj own =
    rw (pow-zero g.discount_under, pow-zero (g.row_total * n₁ * (m * z)), pow-zero g.discount_over)
    (start (pos e) (belief_pay g points z 0 j sigma) (points j).value v (belief_total g (points j))
    (total-weights (points j).belief (pos 0) (below g.states) ∙ none (belief_total g (points j))) (fits j lj).at_least)
  where
    none : (k : ℕ) → pos k *ℤ pos 0 ≡ pos 0
    none k = omega (arith, ints)

    start : (e y x : ℤ) (v b : ℕ) → y ≡ pos 0 → pos 0 ≤ℤ (x +ℤ pos (v * b)) → (e *ℤ y) ≤ℤ (x *ℤ pos (1 * 1) +ℤ pos (1 * v * 1 * b))
    start e y x v b is h = rw is (omega (arith, ints))
splitting-upper g e m v count z points full lm lz enough divide fits stand n₁ (suc n) j sigma lj own =
    let X = g.row_total * n₁ * (m * z) in
    let Q = g.discount_under in
    let K = Q ^ n * X ^ n in
    let K₁ = Q ^ suc n * X ^ n in
    let tail = g.discount_over ^ n * v * X ^ n in
    let p = pos g.discount_over in
    let bound = λ (k : ℕ). (points k).value *ℤ pos K +ℤ pos (tail * belief_total g (points k)) in
    let now = total-at_once g points z j n m (pos e) (pos K₁) (pos Q) (pos K) sigma own.part full own.same
    (λ s ls c a o t lc la lo lt. branches-sum g points z ((points j).mixes s c) (mass g (points j) a o t) t t n (shares_at (points j) a o)
    ((stand j lj).split a o t la lo lt) (divide j a o t lj la lo lt))
    (ap pos (power Q X n)) in
    let later = left-le g points z j n (pos e) sigma own.part bound own.same
    (λ a o u la lo lu.
    each-from (λ share. share.member < count) _ (shares_at (points j) a o)
    (λ share l. splitting-upper g e m v count z points full lm lz enough divide fits stand n₁ n share.member (own_branch n (sigma a o) u).1 l
    (each-at (λ (b : ℕ × OwnPlan n). IsOwnPlan g n₁ n b.1) (0, no_own_plan n) (sigma a o) u (own.rest a o la lo) lu))
    ((fits j lj).named a o la lo)) in
    let A = below g.own_actions in
    let B = belief_total g (points j) in
    let value = (points j).value in
    let mixed = λ (a : ℕ). total (λ s. total (λ c. pos ((points j).belief s * (points j).mixes s c) *ℤ g.reward s a c *ℤ pos (e * g.row_total * Q)) (below g.informed_actions)) (below g.states) in
    let shared = λ (a : ℕ). total (λ o. total (λ share. pos share.weight *ℤ (points share.member).value) (shares_at (points j) a o)) (below g.observations) in
    let bounds = λ (a : ℕ). total (λ o. total (λ share. pos share.weight *ℤ bound share.member) (shares_at (points j) a o)) (below g.observations) in
    let most = pos K *ℤ (value *ℤ pos (m * g.row_total * Q)) +ℤ p *ℤ pos (tail * (g.row_total * m * B)) in
    let joined : total (λ a. pos (own.part a) *ℤ (pos z *ℤ (pos K *ℤ mixed a))) A +ℤ p *ℤ total (λ a. pos (own.part a) *ℤ (pos z *ℤ bounds a)) A
    ≡ total (λ a. pos (own.part a) *ℤ (pos z *ℤ (pos K *ℤ mixed a +ℤ p *ℤ bounds a))) A =
    ap (λ y. total (λ a. pos (own.part a) *ℤ (pos z *ℤ (pos K *ℤ mixed a))) A +ℤ y) (sym (total-scale p (λ a. pos (own.part a) *ℤ (pos z *ℤ bounds a)) A))
    ∙ sym (total-add (λ a. pos (own.part a) *ℤ (pos z *ℤ (pos K *ℤ mixed a))) (λ a. p *ℤ (pos (own.part a) *ℤ (pos z *ℤ bounds a))) A)
    ∙ total-same _ (λ a. pos (own.part a) *ℤ (pos z *ℤ (pos K *ℤ mixed a +ℤ p *ℤ bounds a))) A
    (each {P = λ a. pos (own.part a) *ℤ (pos z *ℤ (pos K *ℤ mixed a)) +ℤ p *ℤ (pos (own.part a) *ℤ (pos z *ℤ bounds a)) ≡ pos (own.part a) *ℤ (pos z *ℤ (pos K *ℤ mixed a +ℤ p *ℤ bounds a))}
    (λ a. gather (pos (own.part a)) (pos z) (pos K *ℤ mixed a) p (bounds a)) A) in
    let least : total (λ a. pos (own.part a) *ℤ (pos z *ℤ (pos K *ℤ mixed a +ℤ p *ℤ bounds a))) A ≤ℤ total (λ a. pos (own.part a) *ℤ (pos z *ℤ most)) A =
    total-below-le g.own_actions _ _ (λ a la. le-mulℤ (own.part a) _ _ (le-mulℤ z _ _
    (one (pos K) (mixed a) p (shared a) (bounds a) (pos (tail * (g.row_total * m * B))) (value *ℤ pos (m * g.row_total * Q))
    (total-bound g e m v count points j full (fits j lj) (stand j lj) a la K tail)
    (le-mulℤ K _ _ ((stand j lj).holds a la))))) in
    let whole : total (λ a. pos (own.part a) *ℤ (pos z *ℤ most)) A ≡ pos n₁ *ℤ (pos z *ℤ most) =
    total-weights own.part (pos z *ℤ most) A ∙ ap (λ k. pos k *ℤ (pos z *ℤ most)) own.sums in
    glue (pos e) _ _ p _ _ _ _ _ _ g.discount_over
    (belief_pay-first_steps g m v count z e n₁ points full lm lz enough divide fits stand n j sigma lj own)
    refl now later joined least
    (whole ∙ finish (pos n₁) (pos z) (pos K) value (pos (m * g.row_total * Q)) p (pos (tail * (g.row_total * m * B)))
    ∙ ap (λ x. value *ℤ pos x +ℤ pos (n₁ * (z * (g.discount_over * (tail * (g.row_total * m * B)))))) (powers g.row_total Q n₁ m z n)
    ∙ ap (λ x. value *ℤ pos (Q ^ suc n * X ^ suc n) +ℤ pos x) (tails g.row_total g.discount_over n₁ m z v B n))
  where
    power : (Q X n : ℕ) → Q ^ suc n * X ^ n ≡ Q * (Q ^ n * X ^ n)
    power Q X n = omega (arith, ap (λ (z : ℕ). z * X ^ n) (pow-suc Q n))

    powers : (D Q n₁ m z n : ℕ) → n₁ * (z * (Q ^ n * (D * n₁ * (m * z)) ^ n)) * (m * D * Q) ≡ Q ^ suc n * (D * n₁ * (m * z)) ^ suc n
    powers D Q n₁ m z n = rw (pow-suc Q n, pow-suc (D * n₁ * (m * z)) n) (omega arith)

    tails : (D P n₁ m z v B n : ℕ) → n₁ * (z * (P * (P ^ n * v * (D * n₁ * (m * z)) ^ n * (D * m * B)))) ≡ P ^ suc n * v * (D * n₁ * (m * z)) ^ suc n * B
    tails D P n₁ m z v B n = rw (pow-suc P n, pow-suc (D * n₁ * (m * z)) n) (omega arith)

    gather : (w z r p y : ℤ) → w *ℤ (z *ℤ r) +ℤ p *ℤ (w *ℤ (z *ℤ y)) ≡ w *ℤ (z *ℤ (r +ℤ p *ℤ y))
    gather w z r p y = simp products (omega (arith, sums))

    one : (k r p s b t y : ℤ) → b ≡ k *ℤ s +ℤ t → (k *ℤ (r +ℤ p *ℤ s)) ≤ℤ (k *ℤ y) → (k *ℤ r +ℤ p *ℤ b) ≤ℤ (k *ℤ y +ℤ p *ℤ t)
    one k r p s b t y is h =
        let same : k *ℤ r +ℤ p *ℤ (k *ℤ s +ℤ t) ≡ k *ℤ (r +ℤ p *ℤ s) +ℤ p *ℤ t = simp products (omega (arith, sums)) in
        rw is (omega (arith, sums, same))

    finish : (n z k y d p t : ℤ) → n *ℤ (z *ℤ (k *ℤ (y *ℤ d) +ℤ p *ℤ t)) ≡ y *ℤ ((n *ℤ (z *ℤ k)) *ℤ d) +ℤ n *ℤ (z *ℤ (p *ℤ t))
    finish n z k y d p t = simp products (omega (arith, sums))

    glue : (e now later p pay now' later' sum most want : ℤ) (P : ℕ) → pay ≡ now +ℤ p *ℤ later → p ≡ pos P → e *ℤ now ≡ now' → (e *ℤ later) ≤ℤ later' →
        now' +ℤ p *ℤ later' ≡ sum → sum ≤ℤ most → most ≡ want → (e *ℤ pay) ≤ℤ want
    glue e now later p pay now' later' sum most want P is so a b c d f =
        let inside : e *ℤ (now +ℤ p *ℤ later) ≡ e *ℤ now +ℤ p *ℤ (e *ℤ later) = simp products (omega (arith, sums)) in
        let more : (p *ℤ (e *ℤ later)) ≤ℤ (p *ℤ later') = rw so (le-mulℤ P (e *ℤ later) later' b) in
        rw is (omega (arith, sums, inside, more))

-- ---- the product of the masses

positive : (x : ℕ) → 0 < cond (x == 0) 1 x
positive x = elim (eqb_tells x 0) [ inl e ↦ rw e.0 (omega arith) | inr e ↦ rw e.0 (some x e.1) ]
  where
    some : (x : ℕ) → x ≢ 0 → 0 < x
    some x ne = omega arith

pub product-positive : (xs : List ℕ) → 1 ≤ product_of_positive xs
product-positive [] = omega arith
product-positive (x ∷ xs) = mul-pos (positive x) (product-positive xs)

-- x is 0, or a factor of z
pub record Divides (z x : ℕ) : Type 0 where
  pub divides : x ≢ 0 → (k : ℕ) × (x * k ≡ z)

pub product-divides : (xs : List ℕ) → AllByRecursion (Divides (product_of_positive xs)) xs
product-divides [] = tt
product-divides (x ∷ xs) = (
  record { divides = λ ne. (product_of_positive xs, head x (product_of_positive xs) ne) },
  each-from (Divides (product_of_positive xs)) _ xs
      (λ y d. record { divides = λ ne. let k = d.divides ne in (cond (x == 0) 1 x * k.0, more y k.0 (cond (x == 0) 1 x) (product_of_positive xs) k.1) })
      (product-divides xs),
)
  where
    head : (x r : ℕ) → x ≢ 0 → x * r ≡ cond (x == 0) 1 x * r
    head x r ne = rw (ne_eqb x 0 ne)

    more : (y k c z : ℕ) → y * k ≡ z → y * (c * k) ≡ c * z
    more y k c z e = omega (arith, ap (λ (n : ℕ). c * n) e)

-- what holds of each element of a joined list holds of each element of its parts
each-from_append : {X : Type 0} (P : X → Type 0) (xs ys : List X) → AllByRecursion P (xs ++ ys) → AllByRecursion P xs × AllByRecursion P ys
each-from_append P [] ys h = (tt, h)
each-from_append P (x ∷ xs) ys h = let k = each-from_append P xs ys h.1 in ((h.0, k.0), k.1)

from-below : (P : ℕ → Type 0) (b n : ℕ) → AllByRecursion P (range_with_len b n) → (i : ℕ) → b ≤ i → i < b + n → P i
from-below P b zero h i l m = absurd (omega arith)
from-below P b (suc n) h i l m =
    elim (eqb_tells i b) [ inl e ↦ subst P (sym e.1) h.0 | inr e ↦ from-below P (b + 1) n h.1 i (apart i b l e.1) (omega arith) ]
  where
    apart : (i b : ℕ) → b ≤ i → i ≢ b → b + 1 ≤ i
    apart i b l ne = omega arith

pub masses-divide : (g : Numbers) (points : ℕ → Point) (count : ℕ) → DividesAll g points count (mass_product g points count)
masses-divide g points count j a o t lj la lo lt ne =
    let z = mass_product g points count in
    let P = Divides z in
    let all = each-of-flat_map P _ (below count) (product-divides (masses g points count)) in
    let one = each-of-flat_map P _ (below g.own_actions) (at-below _ count j all lj) in
    let two = each-of-flat_map P _ (below g.observations) (at-below _ g.own_actions a one la) in
    let three = each-of-map P _ (below g.states) (at-below _ g.observations o two lo) in
    let k = (at-below _ g.states t three lt).divides ne in
    quotient (mass g (points j) a o t) k.0 z ne k.1
  where
    quotient : (x k z : ℕ) → x ≢ 0 → x * k ≡ z → x * (z / x) ≡ z
    quotient x k z ne e = let some : 0 < x = omega arith in rw (← e) (ap (λ (n : ℕ). x * n) (mul-div_cancel_left k some))

pub splitting-plans : SplittingPlans
splitting-plans g e m v count points lm enough fits stand n j s lj ls =
    informed_plan-is_plan g m v count (mass_product g points count) e points lm (product-positive (masses g points count)) enough (masses-divide g points count) fits stand n j s lj ls

pub splitting-holds : SplittingHolds
splitting-holds g e m v count points full lm enough fits stand n₁ n j sigma lj own =
    let z = mass_product g points count in
    let upper = splitting-upper g e m v count z points full lm (product-positive (masses g points count)) enough (masses-divide g points count) fits stand n₁ n j sigma lj own in
    let same : g.row_total * n₁ * (m * z) ≡ g.row_total * n₁ * m * z = omega arith in
    let Y = (g.row_total * n₁ * m * z) ^ n in
    let goal = λ (y : ℤ). (pos e *ℤ belief_pay g points z n j sigma) ≤ℤ y in
    subst goal (spread (points j).value (pos (g.discount_under ^ n)) (pos (g.discount_over ^ n * v)) (pos Y) (pos (belief_total g (points j))))
    (subst (λ (x : ℕ). goal ((points j).value *ℤ pos (g.discount_under ^ n * x ^ n) +ℤ pos (g.discount_over ^ n * v * x ^ n * belief_total g (points j)))) same upper)
  where
    spread : (x q t y b : ℤ) → x *ℤ (q *ℤ y) +ℤ (t *ℤ y) *ℤ b ≡ (x *ℤ q +ℤ t *ℤ b) *ℤ y
    spread x q t y b = simp products (omega (arith, sums))
