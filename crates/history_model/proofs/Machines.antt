-- The plans of nodes, of points and of one action play as their machines say.
use Rattle.std.proofs.Common.{◌≡◌, ℕ, suc, zero, ◌*◌, ◌/◌, ◌<◌, ◌≤◌, List, [], ◌∷◌, ◌++◌, refl, ap, arith, sym, ◌∙◌, Bool, true, false, cond, ◌==◌, ◌&&◌, filter}
use Rattle.std.specs.Prelude.{ℤ, pos, ◌+ℤ◌, ◌*ℤ◌, map, flat_map, sum_by}
use Rattle.std.specs.List.{AllByRecursion}
use Rattle.std.proofs.lemmas.Int.{ints}
use Rattle.std.proofs.lemmas.List.Sums.{sum_by-cons}
use Rattle.scaled_num.specs.Sums.{below, total}
use Rattle.scaled_num.proofs.Products.{add-mulℤ, products, sums}
use Rattle.scaled_num.proofs.Sums.{total-add, total-below, total-map, total-same, total-scale, total-single}
use Rattle.alpha_set.specs.Nodes.{Node, steps_at}
use Rattle.game_model.specs.Numbers.{Numbers}
use Rattle.game_model.specs.Plan.{InformedPlan, OwnPlan}
use Rattle.game_model.specs.Play.{always}
use Rattle.game_model.proofs.Pay.{each-from}
use Rattle.history_model.specs.Plans.{informed_plan, mass_product, own_plan, product_of_positive}
use Rattle.point_set.specs.Points.{Point, mass, shares_at}
use Rattle.history_model.specs.Courses.{Stage, product_over}
use Rattle.history_model.specs.Machines.{brought, informed_place, multiple, node_weights, one_action, own_place, point_weights, state_after}
use Rattle.history_model.specs.Playing.{InformedPlaysAs, OwnPlaysAs, stage_of}
use Rattle.history_model.proofs.Courses.{product-same}

-- ---- where a machine stands
pub own_place-snoc : (start : ℕ) (past : List Stage) (x : Stage) → own_place start (past ++ x ∷ []) ≡ x.own_coin
own_place-snoc start [] x = refl
own_place-snoc start (y ∷ past) x = own_place-snoc y.own_coin past x

informed_place-snoc : (start : ℕ) (past : List Stage) (x : Stage) → informed_place start (past ++ x ∷ []) ≡ x.informed_coin
informed_place-snoc start [] x = refl
informed_place-snoc start (y ∷ past) x = informed_place-snoc y.informed_coin past x

state_after-snoc : (first : ℕ) (past : List Stage) (x : Stage) → state_after first (past ++ x ∷ []) ≡ x.to
state_after-snoc first [] x = refl
state_after-snoc first (y ∷ past) x = state_after-snoc y.to past x

-- ---- sums by key
nothing : (G : ℕ → ℤ) (us : List ℕ) → total (λ u. pos 0 *ℤ G u) us ≡ pos 0
nothing G [] = refl
nothing G (u ∷ us) = omega (arith, ints, nothing G us)

zero_times : (z : ℤ) → pos 0 *ℤ z ≡ pos 0
zero_times z = omega (arith, ints)

times_zero : (z : ℤ) → z *ℤ pos 0 ≡ pos 0
times_zero z = omega (arith, ints)

-- one key
one-key : (k w n : ℕ) (G : ℕ → ℤ) → k < n → total (λ u. pos (cond (u == k) w 0) *ℤ G u) (below n) ≡ pos w *ℤ G k
one-key k w n G l =
    total-below n _ (λ u. pos w *ℤ (pos (cond (u == k) 1 0) *ℤ G u)) (λ u lu. by (u == k) (G u))
    ∙ total-scale (pos w) (λ u. pos (cond (u == k) 1 0) *ℤ G u) (below n)
    ∙ ap (λ z. pos w *ℤ z) (total-single G k n l)
  where
    times : (w z : ℤ) → w *ℤ z ≡ w *ℤ (pos 1 *ℤ z)
    times w z = ap (λ y. w *ℤ y) (omega (arith, ints))

    none : (w z : ℤ) → pos 0 *ℤ z ≡ w *ℤ (pos 0 *ℤ z)
    none w z = zero_times z ∙ sym (times_zero w) ∙ ap (λ (y : ℤ). w *ℤ y) (sym (zero_times z))

    by : (b : Bool) (z : ℤ) → pos (cond b w 0) *ℤ z ≡ pos w *ℤ (pos (cond b 1 0) *ℤ z)
    by true z = times (pos w) z
    by false z = none (pos w) z

-- an element's part of the sum of a key
abbrev part : {X : Type 0} → (X → Bool) → (X → ℕ) → (X → ℕ) → ℕ → X → ℕ
part p key weight u x = cond (p x) (cond (u == key x) (weight x) 0) 0

pub gathered : {X : Type 0} (p : X → Bool) (key weight : X → ℕ) (n : ℕ) (G : ℕ → ℤ) (xs : List X) → AllByRecursion (λ x. key x < n) (filter p xs) →
    total (λ x. pos (weight x) *ℤ G (key x)) (filter p xs)
    ≡ total (λ u. pos (sum_by (part p key weight u) xs) *ℤ G u) (below n)
gathered p key weight n G [] h = sym (nothing G (below n))
gathered {X} p key weight n G (x ∷ xs) h =
    by (p x) h (λ k. gathered p key weight n G xs k)
    ∙ sym (total-add (λ u. pos (part p key weight u x) *ℤ G u) (λ u. pos (sum_by (part p key weight u) xs) *ℤ G u) (below n))
    ∙ total-below n _ (λ u. pos (sum_by (part p key weight u) (x ∷ xs)) *ℤ G u) (λ u lu.
    sym (add-mulℤ (pos (part p key weight u x)) (pos (sum_by (part p key weight u) xs)) (G u))
    ∙ ap (λ (m : ℕ). pos m *ℤ G u) (sym (sum_by-cons (part p key weight u) x xs)))
  where
    by : (b : Bool) → AllByRecursion (λ x. key x < n) (cond b (x ∷ filter p xs) (filter p xs)) →
        (AllByRecursion (λ x. key x < n) (filter p xs) → total (λ x. pos (weight x) *ℤ G (key x)) (filter p xs) ≡ total (λ u. pos (sum_by (part p key weight u) xs) *ℤ G u) (below n)) →
        total (λ x. pos (weight x) *ℤ G (key x)) (cond b (x ∷ filter p xs) (filter p xs))
        ≡ total (λ u. pos (cond b (cond (u == key x) (weight x) 0) 0) *ℤ G u) (below n) +ℤ total (λ u. pos (sum_by (part p key weight u) xs) *ℤ G u) (below n)
    by true k ih = ap (λ z. pos (weight x) *ℤ G (key x) +ℤ z) (ih k.1) ∙ ap (λ z. z +ℤ total (λ u. pos (sum_by (part p key weight u) xs) *ℤ G u) (below n)) (sym (one-key (key x) (weight x) n G k.0))
    by false k ih = ih k ∙ nil (total (λ u. pos (sum_by (part p key weight u) xs) *ℤ G u) (below n)) ∙ ap (λ z. z +ℤ total (λ u. pos (sum_by (part p key weight u) xs) *ℤ G u) (below n)) (sym (nothing G (below n)))
      where
        nil : (z : ℤ) → z ≡ pos 0 +ℤ z
        nil z = omega (arith, ints)

-- ---- the controller
pub node-matches : (g : Numbers) (nodes : ℕ → Node) (count start : ℕ) →
    ((i a o : ℕ) → i < count → a < g.own_actions → o < g.observations → AllByRecursion (λ step. step.member < count) (steps_at (nodes i) a o)) →
    (n : ℕ) (past : List Stage) (i : ℕ) → own_place start past ≡ i → i < count → OwnPlaysAs g count (node_weights nodes start) n (own_plan nodes i n) past
node-matches g nodes count start named zero past i e li = tt
node-matches g nodes count start named (suc n) past i e li = λ a o la lo F G same.
    let steps = steps_at (nodes i) a o in
    total-map (λ (b : ℕ × OwnPlan n). pos b.0 *ℤ F b.1) (λ step. (step.weight, own_plan nodes step.member n)) steps
    ∙ total-same _ (λ step. pos step.weight *ℤ G step.member) steps (each-from (λ step. step.member < count) _ steps (λ step l.
    ap (λ (z : ℤ). pos step.weight *ℤ z)
    (same step.member l (own_plan nodes step.member n)
    (λ c t v. node-matches g nodes count start named n (past ++ stage_of a c o t step.member v ∷ []) step.member (own_place-snoc start past (stage_of a c o t step.member v)) l)))
    (named i a o li la lo))
    ∙ gathered (λ step. (step.own == a) && (step.seen == o)) (λ step. step.member) (λ step. step.weight) count G (nodes i).next (named i a o li la lo)
    ∙ ap (λ (j : ℕ). total (λ u. pos (sum_by (λ step. cond ((step.own == a) && (step.seen == o)) (cond (u == step.member) step.weight 0) 0) (nodes j).next) *ℤ G u) (below count)) (sym e)

-- ---- always one action
pub action-matches : (g : Numbers) (action n : ℕ) (past : List Stage) → OwnPlaysAs g 1 (one_action action) n (always action n) past
action-matches g action zero past = tt
action-matches g action (suc n) past = λ a o la lo F G same.
    by n action F G (a == action) (same 0 (omega arith) (always action n) (λ c t v. action-matches g action n (past ++ stage_of a c o t 0 v ∷ [])))
  where
    by : (n action : ℕ) (F : OwnPlan n → ℤ) (G : ℕ → ℤ) (b : Bool) → F (always action n) ≡ G 0 →
        total (λ (x : ℕ × OwnPlan n). pos x.0 *ℤ F x.1) (cond b ((1, always action n) ∷ []) []) ≡ total (λ u. pos (cond b 1 0) *ℤ G u) (below 1)
    by n action F G true e = ap (λ (z : ℤ). pos 1 *ℤ z +ℤ pos 0) e
    by n action F G false e = omega (arith, ints)

-- ---- the splitting strategy
pub point-matches : (g : Numbers) (points : ℕ → Point) (count z start first : ℕ) → g.states ≤ count →
    ((j a o : ℕ) → j < count → a < g.own_actions → o < g.observations → AllByRecursion (λ share. share.member < count) (shares_at (points j) a o)) →
    (n : ℕ) (past : List Stage) (j s : ℕ) → informed_place start past ≡ j → state_after first past ≡ s → j < count →
    InformedPlaysAs g count (point_weights g points z start first) n (informed_plan g points z j s n) past
point-matches g points count z start first enough named zero past j s e k lj = tt
point-matches g points count z start first enough named (suc n) past j s e k lj = λ c a o t lc la lo lt F G same.
    let w = mass g (points j) a o t in
    let m = (points j).mixes s c in
    let shares = shares_at (points j) a o in
    let on = λ (v : ℕ) (lv : v < count). same v lv (informed_plan g points z v t n)
    (λ u. point-matches g points count z start first enough named n (past ++ stage_of a c o t u v ∷ []) v t
    (informed_place-snoc start past (stage_of a c o t u v)) (state_after-snoc first past (stage_of a c o t u v)) lv) in
    by n (w == 0) m (z / w) t F G (on t (omega arith)) on a o lt (named j a o lj la lo)
    ∙ ap (λ (i : ℕ). total (λ v. pos ((points i).mixes s c * cond (brought g (points i) a o t == 0) (cond (v == t) z 0)
    (sum_by (λ share. cond ((share.own == a) && (share.seen == o)) (cond (v == share.member) share.weight 0) 0) (points i).splits * (points v).belief t * (z / brought g (points i) a o t))) *ℤ G v) (below count)) (sym e)
    ∙ ap (λ (i : ℕ). total (λ v. pos ((points (informed_place start past)).mixes i c * cond (brought g (points (informed_place start past)) a o t == 0) (cond (v == t) z 0)
    (sum_by (λ share. cond ((share.own == a) && (share.seen == o)) (cond (v == share.member) share.weight 0) 0) (points (informed_place start past)).splits * (points v).belief t * (z / brought g (points (informed_place start past)) a o t))) *ℤ G v) (below count)) (sym k)
  where
    two : (m z k : ℤ) → (m *ℤ z) *ℤ k +ℤ pos 0 ≡ m *ℤ (z *ℤ k)
    two m z k =
        let same : (m *ℤ z) *ℤ k +ℤ pos 0 ≡ (m *ℤ z) *ℤ k = omega (arith, sums) in
        rw same (simp products (omega (arith, sums)))

    inside : (m x k : ℤ) → m *ℤ (x *ℤ k) ≡ (m *ℤ x) *ℤ k
    inside m x k = simp products (omega (arith, sums))

    four : (m x b d y : ℤ) → (((m *ℤ x) *ℤ b) *ℤ d) *ℤ y ≡ x *ℤ (((m *ℤ b) *ℤ d) *ℤ y)
    four m x b d y = simp products (omega (arith, sums))

    back : (m x b d y : ℤ) → x *ℤ (((m *ℤ b) *ℤ d) *ℤ y) ≡ (m *ℤ ((x *ℤ b) *ℤ d)) *ℤ y
    back m x b d y = simp products (omega (arith, sums))

    by : (n : ℕ) (b : Bool) (m d t : ℕ) (F : InformedPlan n → ℤ) (G : ℕ → ℤ) → F (informed_plan g points z t t n) ≡ G t →
        ((v : ℕ) → v < count → F (informed_plan g points z v t n) ≡ G v) → (a o : ℕ) → t < g.states →
        AllByRecursion (λ share. share.member < count) (shares_at (points j) a o) →
        total (λ (x : ℕ × InformedPlan n). pos x.0 *ℤ F x.1)
        (cond b ((m * z, informed_plan g points z t t n) ∷ []) (map (λ share. (m * share.weight * (points share.member).belief t * d, informed_plan g points z share.member t n)) (shares_at (points j) a o)))
        ≡ total (λ v. pos (m * cond b (cond (v == t) z 0)
        (sum_by (λ share. cond ((share.own == a) && (share.seen == o)) (cond (v == share.member) share.weight 0) 0) (points j).splits * (points v).belief t * d)) *ℤ G v) (below count)
    by n true m d t F G at on a o lt named =
        two (pos m) (pos z) (F (informed_plan g points z t t n))
        ∙ ap (λ (y : ℤ). pos m *ℤ (pos z *ℤ y)) at
        ∙ ap (λ (y : ℤ). pos m *ℤ y) (sym (one-key t z count G (omega arith)))
        ∙ sym (total-scale (pos m) (λ v. pos (cond (v == t) z 0) *ℤ G v) (below count))
        ∙ total-below count _ _ (λ v lv. inside (pos m) (pos (cond (v == t) z 0)) (G v))
    by n false m d t F G at on a o lt named =
        let shares = shares_at (points j) a o in
        let H = λ (v : ℕ). pos (m * (points v).belief t * d) *ℤ G v in
        total-map (λ (x : ℕ × InformedPlan n). pos x.0 *ℤ F x.1) (λ share. (m * share.weight * (points share.member).belief t * d, informed_plan g points z share.member t n)) shares
        ∙ total-same _ (λ share. pos share.weight *ℤ H share.member) shares (each-from (λ share. share.member < count) _ shares (λ share l.
        ap (λ (y : ℤ). pos (m * share.weight * (points share.member).belief t * d) *ℤ y) (on share.member l)
        ∙ four (pos m) (pos share.weight) (pos ((points share.member).belief t)) (pos d) (G share.member)) named)
        ∙ gathered (λ share. (share.own == a) && (share.seen == o)) (λ share. share.member) (λ share. share.weight) count H (points j).splits named
        ∙ total-below count _ _ (λ v lv.
        back (pos m) (pos (sum_by (λ share. cond ((share.own == a) && (share.seen == o)) (cond (v == share.member) share.weight 0) 0) (points j).splits)) (pos ((points v).belief t)) (pos d) (G v))

-- ---- the common multiple
product-append : (xs ys : List ℕ) → product_of_positive (xs ++ ys) ≡ product_of_positive xs * product_of_positive ys
product-append [] ys = omega arith
product-append (x ∷ xs) ys = ap (λ (k : ℕ). cond (x == 0) 1 x * k) (product-append xs ys) ∙ assoc (cond (x == 0) 1 x) (product_of_positive xs) (product_of_positive ys)
  where
    assoc : (a b c : ℕ) → a * (b * c) ≡ (a * b) * c
    assoc a b c = omega arith

product-flat_map : (f : ℕ → List ℕ) (xs : List ℕ) → product_of_positive (flat_map f xs) ≡ product_over (λ x. product_of_positive (f x)) xs
product-flat_map f [] = refl
product-flat_map f (x ∷ xs) = product-append (f x) (flat_map f xs) ∙ ap (λ (k : ℕ). product_of_positive (f x) * k) (product-flat_map f xs)

product-map : (f : ℕ → ℕ) (xs : List ℕ) → product_of_positive (map f xs) ≡ product_over (λ x. cond (f x == 0) 1 (f x)) xs
product-map f [] = refl
product-map f (x ∷ xs) = ap (λ (k : ℕ). cond (f x == 0) 1 (f x) * k) (product-map f xs)

pub same-multiple : (g : Numbers) (points : ℕ → Point) (count : ℕ) → mass_product g points count ≡ multiple g points count
same-multiple g points count =
    product-flat_map _ (below count) ∙ product-same _ _ (below count) (λ j.
    product-flat_map _ (below g.own_actions) ∙ product-same _ _ (below g.own_actions) (λ a.
    product-flat_map _ (below g.observations) ∙ product-same _ _ (below g.observations) (λ o.
    product-map (λ t. mass g (points j) a o t) (below g.states))))
