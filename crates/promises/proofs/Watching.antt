-- The controller earns its bound also where the informed player sees the node. The informed player's plans of game_model see no coin
-- of player one, so this is an induction of its own, over the node rule.
use Rattle.std.proofs.Common.{◌≡◌, ℕ, suc, zero, ◌+◌, ◌*◌, ◌^◌, ◌<◌, ◌≤◌, List, [], ◌∷◌, ◌++◌, length, length-append, refl, ap, subst, arith, sym, ◌∙◌}
use Rattle.std.specs.Prelude.{ℤ, pos, ◌+ℤ◌, ◌*ℤ◌, ◌≤ℤ◌, sum_by, cond, ◌==◌, ◌&&◌}
use Rattle.std.specs.List.{AllByRecursion}
use borrow.Author.Differences.{up}
use Rattle.std.proofs.Math.Nat.{pow-zero, pow-suc}
use Rattle.std.proofs.lemmas.Int.{ints}
use Rattle.scaled_num.specs.Sums.{below, total}
use Rattle.scaled_num.proofs.Products.{le-mulℤ, mulℤ_comm, products, sums}
use Rattle.scaled_num.proofs.Sums.{each, each-append, total-add, total-below, total-below-le, total-pos, total-same, total-scale, total-swap, total-weights}
use Rattle.alpha_set.specs.Nodes.{Node, nodes_of, steps_at, steps_worth}
use Rattle.controller.specs.Certificates.{CertificateData, CertificateStands}
use Rattle.controller.specs.Members.{NodeKeeps}
use Rattle.controller.specs.Starts.{IsStart, most_from}
use Rattle.controller.proofs.Members.{nodes-keep}
use Rattle.controller.proofs.Places.{rules}
use Rattle.game_model.specs.Game.{GameData, numbers, span}
use Rattle.game_model.specs.Numbers.{Numbers, RowsAreFull, over_row}
use Rattle.game_model.proofs.Lower.{less_tail}
use Rattle.game_model.proofs.Pay.{each-from}
use Rattle.game_model.proofs.Steps.{over_row-add, over_row-scale, total-row}
use Rattle.history_model.proofs.LowerHalves.{from-some, over-first_starts}
use Rattle.history_model.proofs.Parts.{NodeGains}
use Rattle.history_model.proofs.Standing.{nodes-gain}
use Rattle.history_model.proofs.Weighted.{weighted-least}
use Rattle.history_model.specs.Courses.{Stage, chance, courses, earned, worth}
use Rattle.history_model.specs.Machines.{node_weights, own_place}
use Rattle.promises.specs.Promises.{units}
use Rattle.promises.specs.Watching.{EarnsWatched, EarnsWatchedAt, IsStage, WatchedInTheMean, watched_earned, watching_weights}
use Rattle.history_model.specs.Playing.{stage_of}
use Rattle.history_model.proofs.Courses.{chance_after}
use Rattle.history_model.proofs.Machines.{gathered, own_place-snoc}
use Rattle.history_model.proofs.Matching.{next_x, next_y, of_weights, weights-first}

-- ---- the sum over a stage
abbrev stage_sum : Numbers → ℕ → ℕ → ℕ → (ℕ → ℕ → ℕ → ℕ) → (ℕ → ℕ → ℕ) → (ℕ → ℕ → ℕ → ℕ → ℕ → ℕ → ℤ) → ℤ
stage_sum g U V s X Y f =
    total (λ a. total (λ c. total (λ o. total (λ t.
    pos (g.weight s a c o t) *ℤ total (λ u. pos (X a o u) *ℤ total (λ v. pos (Y c v) *ℤ f a c o t u v) (below V)) (below U))
    (below g.states)) (below g.observations)) (below g.informed_actions)) (below g.own_actions)

linear : {A : Type 0} (k : ℤ) (f h : A → ℤ) (xs : List A) → total (λ x. k *ℤ f x +ℤ h x) xs ≡ k *ℤ total f xs +ℤ total h xs
linear k f h xs = total-add (λ x. k *ℤ f x) h xs ∙ ap (λ z. z +ℤ total h xs) (total-scale k f xs)

weighed : {A : Type 0} (w : A → ℕ) (k : ℤ) (f h : A → ℤ) (xs : List A) →
    total (λ x. pos (w x) *ℤ (k *ℤ f x +ℤ h x)) xs ≡ k *ℤ total (λ x. pos (w x) *ℤ f x) xs +ℤ total (λ x. pos (w x) *ℤ h x) xs
weighed w k f h xs =
    total-same _ (λ x. k *ℤ (pos (w x) *ℤ f x) +ℤ pos (w x) *ℤ h x) xs (each (λ x. one (pos (w x)) k (f x) (h x)) xs)
    ∙ linear k (λ x. pos (w x) *ℤ f x) (λ x. pos (w x) *ℤ h x) xs
  where
    one : (w k f h : ℤ) → w *ℤ (k *ℤ f +ℤ h) ≡ k *ℤ (w *ℤ f) +ℤ w *ℤ h
    one w k f h = simp products (omega (arith, sums))

stage_sum-linear : (g : Numbers) (U V s : ℕ) (X : ℕ → ℕ → ℕ → ℕ) (Y : ℕ → ℕ → ℕ) (k : ℤ) (f h : ℕ → ℕ → ℕ → ℕ → ℕ → ℕ → ℤ) →
    stage_sum g U V s X Y (λ a c o t u v. k *ℤ f a c o t u v +ℤ h a c o t u v) ≡ k *ℤ stage_sum g U V s X Y f +ℤ stage_sum g U V s X Y h
stage_sum-linear g U V s X Y k f h =
    total-below g.own_actions _ _ (λ a la.
    total-below g.informed_actions _ _ (λ c lc.
    total-below g.observations _ _ (λ o lo.
    total-below g.states _ _ (λ t lt.
    ap (λ z. pos (g.weight s a c o t) *ℤ z)
    (total-below U _ _ (λ u lu. ap (λ z. pos (X a o u) *ℤ z) (weighed (λ v. Y c v) k (f a c o t u) (h a c o t u) (below V)))
    ∙ weighed (λ u. X a o u) k _ _ (below U)))
    ∙ weighed (λ t. g.weight s a c o t) k _ _ (below g.states))
    ∙ linear k _ _ (below g.observations))
    ∙ linear k _ _ (below g.informed_actions))
    ∙ linear k _ _ (below g.own_actions)

stage_sum-le : (g : Numbers) (U V s : ℕ) (X : ℕ → ℕ → ℕ → ℕ) (Y : ℕ → ℕ → ℕ) (f h : ℕ → ℕ → ℕ → ℕ → ℕ → ℕ → ℤ) →
    ((a c o t u v : ℕ) → a < g.own_actions → c < g.informed_actions → o < g.observations → t < g.states → u < U → v < V → f a c o t u v ≤ℤ h a c o t u v) →
    stage_sum g U V s X Y f ≤ℤ stage_sum g U V s X Y h
stage_sum-le g U V s X Y f h le =
    total-below-le g.own_actions _ _ (λ a la.
    total-below-le g.informed_actions _ _ (λ c lc.
    total-below-le g.observations _ _ (λ o lo.
    total-below-le g.states _ _ (λ t lt.
    le-mulℤ (g.weight s a c o t) _ _ (total-below-le U _ _ (λ u lu.
    le-mulℤ (X a o u) _ _ (total-below-le V _ _ (λ v lv.
    le-mulℤ (Y c v) _ _ (le a c o t u v la lc lo lt lu lv)))))))))

-- ---- the sum over a stage of a node, of what is affine in the next node's entry
branches : (g : Numbers) (m v count i start : ℕ) (nodes : ℕ → Node) (past : List Stage) → own_place start past ≡ i → NodeKeeps g m v count (nodes i) →
    (a o t q : ℕ) → a < g.own_actions → o < g.observations → (x b : ℤ) →
    total (λ u. pos (node_weights nodes start past a o u) *ℤ (pos q *ℤ (x +ℤ b *ℤ (nodes u).vector t))) (below count)
    ≡ pos q *ℤ (pos ((nodes i).mix a) *ℤ x +ℤ b *ℤ steps_worth nodes (nodes i) a o t)
branches g m v count i start nodes past e keeps a o t q la lo x b =
    let steps = steps_at (nodes i) a o in
    let G = λ (u : ℕ). pos q *ℤ (x +ℤ b *ℤ (nodes u).vector t) in
    ap (λ (j : ℕ). total (λ u. pos (sum_by (λ step. cond ((step.own == a) && (step.seen == o)) (cond (u == step.member) step.weight 0) 0) (nodes j).next) *ℤ G u) (below count)) e
    ∙ sym (gathered (λ step. (step.own == a) && (step.seen == o)) (λ step. step.member) (λ step. step.weight) count G (nodes i).next (keeps.named a o la lo))
    ∙ total-same _ (λ step. (pos q *ℤ x) *ℤ pos step.weight +ℤ (pos q *ℤ b) *ℤ (pos step.weight *ℤ (nodes step.member).vector t)) steps
    (each (λ step. spread (pos q) (pos step.weight) x b ((nodes step.member).vector t)) steps)
    ∙ total-add _ _ steps
    ∙ ap (λ z. z +ℤ total (λ step. (pos q *ℤ b) *ℤ (pos step.weight *ℤ (nodes step.member).vector t)) steps)
    (total-scale (pos q *ℤ x) (λ step. pos step.weight) steps ∙ ap (λ z. (pos q *ℤ x) *ℤ z) (total-pos (λ step. step.weight) steps ∙ ap pos (keeps.steps_sum a o la lo)))
    ∙ ap (λ z. (pos q *ℤ x) *ℤ pos ((nodes i).mix a) +ℤ z) (total-scale (pos q *ℤ b) (λ step. pos step.weight *ℤ (nodes step.member).vector t) steps)
    ∙ gather (pos q) (pos ((nodes i).mix a)) x b (steps_worth nodes (nodes i) a o t)
  where
    spread : (q w x b y : ℤ) → w *ℤ (q *ℤ (x +ℤ b *ℤ y)) ≡ (q *ℤ x) *ℤ w +ℤ (q *ℤ b) *ℤ (w *ℤ y)
    spread q w x b y = simp products (omega (arith, sums))

    gather : (q m x b s : ℤ) → (q *ℤ x) *ℤ m +ℤ (q *ℤ b) *ℤ s ≡ q *ℤ (m *ℤ x +ℤ b *ℤ s)
    gather q m x b s = simp products (omega (arith, sums))

stage-gives : (g : Numbers) (m v count V s i start : ℕ) (nodes : ℕ → Node) (past : List Stage) (Y : ℕ → ℕ → ℕ) → RowsAreFull g → s < g.states →
    own_place start past ≡ i → NodeKeeps g m v count (nodes i) → (A : ℕ → ℕ → ℤ) (b : ℤ) →
    stage_sum g count V s (node_weights nodes start past) Y (λ a c o t u v. A a c +ℤ b *ℤ (nodes u).vector t)
    ≡ total (λ c. pos (sum_by (Y c) (below V)) *ℤ total (λ a.
    pos g.row_total *ℤ (pos ((nodes i).mix a) *ℤ A a c) +ℤ b *ℤ over_row g s a c (λ o t. steps_worth nodes (nodes i) a o t))
    (below g.own_actions)) (below g.informed_actions)
stage-gives g m v count V s i start nodes past Y full ls e keeps A b =
    let q = λ (c : ℕ). sum_by (Y c) (below V) in
    let worth = λ (a o t : ℕ). steps_worth nodes (nodes i) a o t in
    let inside = λ (a c : ℕ). pos g.row_total *ℤ (pos ((nodes i).mix a) *ℤ A a c) +ℤ b *ℤ over_row g s a c (worth a) in
    total-below g.own_actions _ _ (λ a la.
    total-below g.informed_actions _ (λ c. pos (q c) *ℤ inside a c) (λ c lc.
    total-below g.observations _ _ (λ o lo.
    total-below g.states _ _ (λ t lt.
    ap (λ z. pos (g.weight s a c o t) *ℤ z)
    (total-below count _ _ (λ u lu. ap (λ z. pos (node_weights nodes start past a o u) *ℤ z) (total-weights (Y c) (A a c +ℤ b *ℤ (nodes u).vector t) (below V)))
    ∙ branches g m v count i start nodes past e keeps a o t (q c) la lo (A a c) b)))
    ∙ over_row-scale g s a c (pos (q c)) (λ o t. pos ((nodes i).mix a) *ℤ A a c +ℤ b *ℤ worth a o t)
    ∙ ap (λ z. pos (q c) *ℤ z)
    (over_row-add g s a c (λ o t. pos ((nodes i).mix a) *ℤ A a c) (λ o t. b *ℤ worth a o t)
    ∙ ap (λ z. z +ℤ over_row g s a c (λ o t. b *ℤ worth a o t)) (total-row g full s a c ls la lc (pos ((nodes i).mix a) *ℤ A a c))
    ∙ ap (λ z. pos g.row_total *ℤ (pos ((nodes i).mix a) *ℤ A a c) +ℤ z) (over_row-scale g s a c b (worth a)))))
    ∙ total-swap (λ a c. pos (q c) *ℤ inside a c) (below g.own_actions) (below g.informed_actions)
    ∙ total-below g.informed_actions _ _ (λ c lc. total-scale (pos (q c)) (λ a. inside a c) (below g.own_actions))

-- the same where nothing depends on the action or the entry
stage-constant : (g : Numbers) (m v count V N s i start : ℕ) (nodes : ℕ → Node) (past : List Stage) (Y : ℕ → ℕ → ℕ) → RowsAreFull g → s < g.states →
    own_place start past ≡ i → NodeKeeps g m v count (nodes i) → sum_by (λ c. sum_by (Y c) (below V)) (below g.informed_actions) ≡ N → (T : ℤ) →
    stage_sum g count V s (node_weights nodes start past) Y (λ a c o t u v. T +ℤ pos 0 *ℤ (nodes u).vector t) ≡ pos (g.row_total * m * N) *ℤ T
stage-constant g m v count V N s i start nodes past Y full ls e keeps right T =
    stage-gives g m v count V s i start nodes past Y full ls e keeps (λ a c. T) (pos 0)
    ∙ total-below g.informed_actions _ (λ c. pos (sum_by (Y c) (below V)) *ℤ (pos m *ℤ (pos g.row_total *ℤ T))) (λ c lc.
    ap (λ z. pos (sum_by (Y c) (below V)) *ℤ z)
    (total-below g.own_actions _ (λ a. pos ((nodes i).mix a) *ℤ (pos g.row_total *ℤ T)) (λ a la.
    one (pos g.row_total) (pos ((nodes i).mix a)) T (over_row g s a c (λ o t. steps_worth nodes (nodes i) a o t)))
    ∙ total-weights (nodes i).mix (pos g.row_total *ℤ T) (below g.own_actions)
    ∙ ap (λ (k : ℕ). pos k *ℤ (pos g.row_total *ℤ T)) keeps.mix_sums))
    ∙ total-weights (λ c. sum_by (Y c) (below V)) (pos m *ℤ (pos g.row_total *ℤ T)) (below g.informed_actions)
    ∙ ap (λ (k : ℕ). pos k *ℤ (pos m *ℤ (pos g.row_total *ℤ T))) right
    ∙ three (pos N) (pos m) (pos g.row_total) T
  where
    none : (z : ℤ) → pos 0 *ℤ z ≡ pos 0
    none z = omega (arith, ints)

    swap : (d k t : ℤ) → d *ℤ (k *ℤ t) +ℤ pos 0 ≡ k *ℤ (d *ℤ t)
    swap d k t =
        let same : d *ℤ (k *ℤ t) +ℤ pos 0 ≡ d *ℤ (k *ℤ t) = omega (arith, sums) in
        rw same (simp products (omega (arith, sums)))

    one : (d k t row : ℤ) → d *ℤ (k *ℤ t) +ℤ pos 0 *ℤ row ≡ k *ℤ (d *ℤ t)
    one d k t row = ap (λ z. d *ℤ (k *ℤ t) +ℤ z) (none row) ∙ swap d k t

    three : (n m d t : ℤ) → n *ℤ (m *ℤ (d *ℤ t)) ≡ ((d *ℤ m) *ℤ n) *ℤ t
    three n m d t = simp products (omega (arith, sums))

-- what one stage gives at least, by the node rule
stage-least : (g : Numbers) (e m v count V N n s i start : ℕ) (nodes : ℕ → Node) (past : List Stage) (Y : ℕ → ℕ → ℕ) → RowsAreFull g → s < g.states →
    own_place start past ≡ i → NodeKeeps g m v count (nodes i) → NodeGains g e m nodes i → sum_by (λ c. sum_by (Y c) (below V)) (below g.informed_actions) ≡ N →
    (x : ℤ) (k W : ℕ) →
    (pos N *ℤ (x *ℤ pos (e * W * g.row_total * m) +ℤ pos (k * (g.discount_under ^ n * W)) *ℤ ((nodes i).vector s *ℤ pos (m * g.row_total * g.discount_under))))
    ≤ℤ stage_sum g count V s (node_weights nodes start past) Y
    (λ a c o t u v. next_x g n s a c x (pos k) *ℤ pos (e * W) +ℤ (pos (k * g.discount_over) *ℤ pos (g.discount_under ^ n * W)) *ℤ (nodes u).vector t)
stage-least g e m v count V N n s i start nodes past Y full ls at keeps gains right x k W =
    let D = g.row_total in
    let Q = g.discount_under in
    let K = Q ^ n * W in
    let b = pos (k * g.discount_over) *ℤ pos K in
    let A = λ (a c : ℕ). next_x g n s a c x (pos k) *ℤ pos (e * W) in
    let row = λ (a c : ℕ). over_row g s a c (λ o t. steps_worth nodes (nodes i) a o t) in
    let Z = x *ℤ pos (e * W * D * m) +ℤ pos (k * K) *ℤ ((nodes i).vector s *ℤ pos (m * D * Q)) in
    let q = λ (c : ℕ). sum_by (Y c) (below V) in
    let inner = λ (c : ℕ). total (λ a. pos D *ℤ (pos ((nodes i).mix a) *ℤ A a c) +ℤ b *ℤ row a c) (below g.own_actions) in
    let is : (c : ℕ) → inner c ≡ x *ℤ pos (e * W * D * m) +ℤ pos (k * K) *ℤ
    (total (λ a. pos ((nodes i).mix a) *ℤ g.reward s a c *ℤ pos (e * D * Q)) (below g.own_actions) +ℤ pos g.discount_over *ℤ total (λ a. row a c) (below g.own_actions)) =
    λ c.
    total-below g.own_actions _ (λ a. (x *ℤ pos (e * W * D)) *ℤ pos ((nodes i).mix a) +ℤ (pos (k * K) *ℤ (pos ((nodes i).mix a) *ℤ g.reward s a c *ℤ pos (e * D * Q)) +ℤ (pos (k * K) *ℤ pos g.discount_over) *ℤ row a c))
    (λ a la.
    ap (λ (z : ℕ). pos D *ℤ (pos ((nodes i).mix a) *ℤ ((x +ℤ pos k *ℤ (g.reward s a c *ℤ pos z)) *ℤ pos (e * W))) +ℤ b *ℤ row a c) (pow-suc Q n)
    ∙ part (pos D) (pos ((nodes i).mix a)) x (pos k) (g.reward s a c) (pos (Q ^ n)) (pos Q) (pos e) (pos W) (pos g.discount_over) (row a c))
    ∙ total-add _ _ (below g.own_actions)
    ∙ ap (λ z. z +ℤ total (λ a. pos (k * K) *ℤ (pos ((nodes i).mix a) *ℤ g.reward s a c *ℤ pos (e * D * Q)) +ℤ (pos (k * K) *ℤ pos g.discount_over) *ℤ row a c) (below g.own_actions))
    (total-scale (x *ℤ pos (e * W * D)) (λ a. pos ((nodes i).mix a)) (below g.own_actions)
    ∙ ap (λ z. (x *ℤ pos (e * W * D)) *ℤ z) (total-pos (nodes i).mix (below g.own_actions) ∙ ap pos keeps.mix_sums))
    ∙ ap (λ z. (x *ℤ pos (e * W * D)) *ℤ pos m +ℤ z)
    (total-add _ _ (below g.own_actions)
    ∙ ap (λ z. z +ℤ total (λ a. (pos (k * K) *ℤ pos g.discount_over) *ℤ row a c) (below g.own_actions))
    (total-scale (pos (k * K)) (λ a. pos ((nodes i).mix a) *ℤ g.reward s a c *ℤ pos (e * D * Q)) (below g.own_actions))
    ∙ ap (λ z. pos (k * K) *ℤ total (λ a. pos ((nodes i).mix a) *ℤ g.reward s a c *ℤ pos (e * D * Q)) (below g.own_actions) +ℤ z)
    (total-scale (pos (k * K) *ℤ pos g.discount_over) (λ a. row a c) (below g.own_actions)))
    ∙ whole x (pos (e * W * D)) (pos m) (pos (k * K)) (total (λ a. pos ((nodes i).mix a) *ℤ g.reward s a c *ℤ pos (e * D * Q)) (below g.own_actions)) (pos g.discount_over) (total (λ a. row a c) (below g.own_actions)) in
    let low : (c : ℕ) → c < g.informed_actions → Z ≤ℤ inner c =
    λ c lc. raise _ _ _ _ (is c) (le-mulℤ (k * K) _ _ (gains s c ls lc)) in
    subst (λ (y : ℤ). (pos N *ℤ Z) ≤ℤ y) (sym (stage-gives g m v count V s i start nodes past Y full ls at keeps A b))
    (subst (λ (y : ℤ). y ≤ℤ total (λ c. pos (q c) *ℤ inner c) (below g.informed_actions))
    (total-weights q Z (below g.informed_actions) ∙ ap (λ (j : ℕ). pos j *ℤ Z) right)
    (total-below-le g.informed_actions (λ c. pos (q c) *ℤ Z) (λ c. pos (q c) *ℤ inner c) (λ c lc. le-mulℤ (q c) Z (inner c) (low c lc))))
  where
    part : (d m x k r qn q e w p row : ℤ) →
        d *ℤ (m *ℤ ((x +ℤ k *ℤ (r *ℤ (qn *ℤ q))) *ℤ (e *ℤ w))) +ℤ ((k *ℤ p) *ℤ (qn *ℤ w)) *ℤ row
        ≡ (x *ℤ ((e *ℤ w) *ℤ d)) *ℤ m +ℤ ((k *ℤ (qn *ℤ w)) *ℤ (m *ℤ r *ℤ ((e *ℤ d) *ℤ q)) +ℤ ((k *ℤ (qn *ℤ w)) *ℤ p) *ℤ row)
    part d m x k r qn q e w p row = simp products (omega (arith, sums))

    whole : (x h m k r p y : ℤ) → (x *ℤ h) *ℤ m +ℤ (k *ℤ r +ℤ (k *ℤ p) *ℤ y) ≡ x *ℤ (h *ℤ m) +ℤ k *ℤ (r +ℤ p *ℤ y)
    whole x h m k r p y = simp products (omega (arith, sums))

    raise : (x low high z : ℤ) → z ≡ x +ℤ high → low ≤ℤ high → (x +ℤ low) ≤ℤ z
    raise x low high z e l = omega (arith, sums)

longer : {X : Type 0} (xs : List X) (x : X) (n most : ℕ) → length xs + suc n ≤ most → length (xs ++ x ∷ []) + n ≤ most
longer xs x n most l = omega (arith, length-append xs (x ∷ []))

shorter : {X : Type 0} (xs : List X) (n most : ℕ) → length xs + suc n ≤ most → length xs < most
shorter xs n most l = omega arith

times_one : (z : ℤ) → z *ℤ pos 1 ≡ z
times_one z = omega (arith, ints)

one_times : (z : ℤ) → pos 1 *ℤ z ≡ z
one_times z = omega (arith, ints)

times_zero : (z : ℤ) → z *ℤ pos 0 ≡ pos 0
times_zero z = omega (arith, ints)

zero_times : (z : ℤ) → pos 0 *ℤ z ≡ pos 0
zero_times z = omega (arith, ints)

plus_zero : (z : ℤ) → z +ℤ pos 0 ≡ z
plus_zero z = omega (arith, ints)

base : (x e k y w : ℤ) → (k *ℤ y) ≤ℤ (k *ℤ w) → (x *ℤ (e *ℤ pos 1) +ℤ k *ℤ (y *ℤ pos 1)) ≤ℤ (e *ℤ (pos 1 *ℤ (x +ℤ k *ℤ pos 0) +ℤ pos 0) +ℤ k *ℤ ((pos 1 *ℤ w) *ℤ pos 1))
base x e k y w h =
    rw (times_one e, times_one y, times_zero k, plus_zero x, one_times x, plus_zero x, one_times w, times_one w)
    (omega (arith, sums, h, mulℤ_comm x e))

leaf : (a b q y f t : ℤ) → (a +ℤ b *ℤ (y *ℤ q)) ≤ℤ (f +ℤ t) → (a +ℤ (b *ℤ q) *ℤ y) ≤ℤ (f +ℤ (t +ℤ pos 0 *ℤ y))
leaf a b q y f t h =
    let same : b *ℤ (y *ℤ q) ≡ (b *ℤ q) *ℤ y = simp products (omega (arith, sums)) in
    rw (zero_times y) (omega (arith, sums, h, same))

left : (x e w d m n k qn q y x1 q1 : ℤ) → x1 ≡ w *ℤ ((d *ℤ m) *ℤ n) → q1 ≡ qn *ℤ q →
    x *ℤ (e *ℤ x1) +ℤ k *ℤ (y *ℤ (q1 *ℤ x1)) ≡ n *ℤ (x *ℤ (((e *ℤ w) *ℤ d) *ℤ m) +ℤ (k *ℤ (qn *ℤ w)) *ℤ (y *ℤ ((m *ℤ d) *ℤ q)))
left x e w d m n k qn q y x1 q1 a b = rw (a, b) (simp products (omega (arith, sums)))

tails : (k P n v X : ℕ) → X * (k * P * (P ^ n * v * X ^ n)) ≡ k * (P ^ suc n * v * X ^ suc n)
tails k P n v X = rw (pow-suc P n, pow-suc X n) (omega arith)

glue : (want s₁ s₂ s₃ e sf sc f tail : ℤ) → want ≡ s₁ → s₁ ≤ℤ s₂ → s₂ ≤ℤ s₃ → s₃ ≡ e *ℤ sf +ℤ sc → sc ≡ tail → f ≡ sf → (t : ℤ) → tail ≡ t → want ≤ℤ (e *ℤ f +ℤ t)
glue want s₁ s₂ s₃ e sf sc f tail a b c d h i t j = rw i (omega (arith, sums))

watched : (g : Numbers) (e m width count V N most start : ℕ) (nodes : ℕ → Node) (Y : List Stage → ℕ → ℕ → ℕ) → RowsAreFull g →
    ((i : ℕ) → i < count → NodeKeeps g m width count (nodes i)) → ((i : ℕ) → i < count → NodeGains g e m nodes i) →
    ((past : List Stage) → length past < most → AllByRecursion (IsStage g count V) past → sum_by (λ c. sum_by (Y past c) (below V)) (below g.informed_actions) ≡ N) →
    (n : ℕ) (past : List Stage) (i s : ℕ) (x : ℤ) (k : ℕ) → own_place start past ≡ i → i < count → s < g.states → length past + n ≤ most → AllByRecursion (IsStage g count V) past →
    (x *ℤ pos (e * (g.row_total * m * N) ^ n) +ℤ pos k *ℤ ((nodes i).vector s *ℤ pos (g.discount_under ^ n * (g.row_total * m * N) ^ n)))
    ≤ℤ (pos e *ℤ of_weights g count V (node_weights nodes start) (λ past c a o t v. Y past c v) n past s x (pos k) +ℤ pos (k * (g.discount_over ^ n * width * (g.row_total * m * N) ^ n)))
watched g e m width count V N most start nodes Y full keeps gains right zero past i s x k at li ls lp all =
    rw (pow-zero g.discount_under, pow-zero (g.row_total * m * N), pow-zero g.discount_over)
    (base x (pos e) (pos k) ((nodes i).vector s) (pos width) (le-mulℤ k _ _ ((keeps i li).at_most s ls)))
watched g e m width count V N most start nodes Y full keeps gains right (suc n) past i s x k at li ls lp all =
    let X = g.row_total * m * N in
    let W = X ^ n in
    let Q = g.discount_under in
    let P = g.discount_over in
    let own = node_weights nodes start in
    let informed = λ (past : List Stage) (c a o t v : ℕ). Y past c v in
    let f = λ (a c o t u v : ℕ). of_weights g count V own informed n (past ++ stage_of a c o t u v ∷ []) t (next_x g n s a c x (pos k)) (next_y g (pos k)) in
    let T = pos (k * P * (P ^ n * width * W)) in
    let sums_up = right past (shorter past n most lp) all in
    let low = stage-least g e m width count V N n s i start nodes past (Y past) full ls at (keeps i li) (gains i li) sums_up x k W in
    let step = stage_sum-le g count V s (own past) (Y past)
    (λ a c o t u v. next_x g n s a c x (pos k) *ℤ pos (e * W) +ℤ (pos (k * P) *ℤ pos (Q ^ n * W)) *ℤ (nodes u).vector t)
    (λ a c o t u v. pos e *ℤ f a c o t u v +ℤ (T +ℤ pos 0 *ℤ (nodes u).vector t))
    (λ a c o t u v la lc lo lt lu lv.
    leaf (next_x g n s a c x (pos k) *ℤ pos (e * W)) (pos (k * P)) (pos (Q ^ n * W)) ((nodes u).vector t) (pos e *ℤ f a c o t u v) T
    (watched g e m width count V N most start nodes Y full keeps gains right n (past ++ stage_of a c o t u v ∷ []) u t (next_x g n s a c x (pos k)) (k * P)
    (own_place-snoc start past (stage_of a c o t u v)) lu lt (longer past (stage_of a c o t u v) n most lp)
    (each-append (IsStage g count V) past (stage_of a c o t u v ∷ []) all (record { own = la; informed = lc; seen = lo; to = lt; own_coin = lu; informed_coin = lv }, tt)))) in
    let split = stage_sum-linear g count V s (own past) (Y past) (pos e) f (λ a c o t u v. T +ℤ pos 0 *ℤ (nodes u).vector t) in
    let constant = stage-constant g m width count V N s i start nodes past (Y past) full ls at (keeps i li) sums_up T in
    let first = weights-first g count V own informed n past s x (pos k) in
    glue _ _ _ _ (pos e) _ _ _ _
    (left x (pos e) (pos W) (pos g.row_total) (pos m) (pos N) (pos k) (pos (Q ^ n)) (pos Q) ((nodes i).vector s) _ _ (ap pos (pow-suc X n)) (ap pos (pow-suc Q n)))
    low step split constant first _ (ap pos (tails k P n width X))

plain : (w z : ℤ) → w *ℤ (pos 0 +ℤ pos 1 *ℤ z) ≡ w *ℤ z
plain w z = ap (λ (k : ℤ). w *ℤ k) (same z)
  where
    same : (z : ℤ) → pos 0 +ℤ pos 1 *ℤ z ≡ z
    same z = omega (arith, ints)

clean : (y z e f g : ℤ) (t : ℕ) → f ≡ g → (pos 0 *ℤ z +ℤ pos 1 *ℤ y) ≤ℤ (e *ℤ f +ℤ pos (1 * t)) → y ≤ℤ (e *ℤ g +ℤ pos t)
clean y z e f g t same h =
    let one : pos (1 * t) ≡ pos t = ap pos (omega arith) in
    let left : pos 0 *ℤ z +ℤ pos 1 *ℤ y ≡ y = rw (zero_times z, one_times y) (omega (arith, ints)) in
    rw (← same) (omega (arith, sums, one, left, h))

-- from each node, and in each first state
pub earns-watched_at : (g : GameData) (k : CertificateData) → RowsAreFull (numbers g) → CertificateStands g k → EarnsWatchedAt g k
earns-watched_at g k full stands n coins whole s i strategy ls li is =
    let G = numbers g in
    let own = node_weights (nodes_of k.nodes) i in
    let informed = watching_weights strategy s i in
    let vector = (nodes_of k.nodes i).vector in
    let W = (G.row_total * units * whole) ^ n in
    less_tail (vector s) (pos (G.discount_under ^ n)) (pos (G.discount_over ^ n * span g)) (pos W)
    (pos units *ℤ earned G (length k.nodes) coins n s own informed)
    (clean (vector s *ℤ pos (G.discount_under ^ n * W)) (pos (units * W)) (pos units) (of_weights G (length k.nodes) coins own informed n [] s (pos 0) (pos 1)) (earned G (length k.nodes) coins n s own informed) (G.discount_over ^ n * span g * W)
    (total-same _ _ (courses G (length k.nodes) coins n) (each (λ course. plain (pos (chance_after G [] n s own informed course)) (worth G n s course)) (courses G (length k.nodes) coins n)))
    (watched G units units (span g) (length k.nodes) coins whole n i (nodes_of k.nodes) (strategy s i) full (nodes-keep g k stands.fits) (nodes-gain g k (rules g k stands.holds))
    (λ past short all. is.sums s i past ls li short all) n [] i s (pos 0) 1 refl li ls (whole_length n) tt))
  where
    whole_length : (n : ℕ) → 0 + n ≤ n
    whole_length n = omega arith

-- the draw of the start node, and of the first state
pub earns-watched : (g : GameData) (k : CertificateData) → RowsAreFull (numbers g) → CertificateStands g k → EarnsWatched g k
earns-watched g k full stands n coins whole strategy is =
    let q : ℕ = (numbers g).discount_under ^ n in
    let t : ℕ = (numbers g).discount_over ^ n * span g in
    let w : ℕ = ((numbers g).row_total * units * whole) ^ n in
    over-first_starts g k stands units q t w (λ s. watched_earned g k coins n s strategy) (λ s ls.
    weighted-least k.start_nodes (λ i. (nodes_of k.nodes i).vector s) (λ i. earned (numbers g) (length k.nodes) coins n s (node_weights (nodes_of k.nodes) i) (watching_weights strategy s i))
    (pos units) (pos q) (pos t) (pos w) (from-some g k stands)
    (each-from (IsStart (length k.nodes) (pos most_from)) _ k.start_nodes (λ start h. earns-watched_at g k full stands n coins whole s start.0 strategy ls h.0 is) stands.fits.starts.from.each))

-- ---- the weights of all courses
stage_sum-same : (g : Numbers) (U V s : ℕ) (X : ℕ → ℕ → ℕ → ℕ) (Y : ℕ → ℕ → ℕ) (f h : ℕ → ℕ → ℕ → ℕ → ℕ → ℕ → ℤ) →
    ((a c o t u v : ℕ) → a < g.own_actions → c < g.informed_actions → o < g.observations → t < g.states → u < U → v < V → f a c o t u v ≡ h a c o t u v) →
    stage_sum g U V s X Y f ≡ stage_sum g U V s X Y h
stage_sum-same g U V s X Y f h same =
    total-below g.own_actions _ _ (λ a la.
    total-below g.informed_actions _ _ (λ c lc.
    total-below g.observations _ _ (λ o lo.
    total-below g.states _ _ (λ t lt.
    ap (λ z. pos (g.weight s a c o t) *ℤ z) (total-below U _ _ (λ u lu.
    ap (λ z. pos (X a o u) *ℤ z) (total-below V _ _ (λ v lv.
    ap (λ z. pos (Y c v) *ℤ z) (same a c o t u v la lc lo lt lu lv)))))))))

-- summed alone the weights are a power, whatever was before
weights-whole : (g : Numbers) (m width count V N most start : ℕ) (nodes : ℕ → Node) (Y : List Stage → ℕ → ℕ → ℕ) → RowsAreFull g →
    ((i : ℕ) → i < count → NodeKeeps g m width count (nodes i)) →
    ((past : List Stage) → length past < most → AllByRecursion (IsStage g count V) past → sum_by (λ c. sum_by (Y past c) (below V)) (below g.informed_actions) ≡ N) →
    (n : ℕ) (past : List Stage) (i s : ℕ) (x : ℤ) → own_place start past ≡ i → i < count → s < g.states → length past + n ≤ most → AllByRecursion (IsStage g count V) past →
    of_weights g count V (node_weights nodes start) (λ past c a o t v. Y past c v) n past s x (pos 0) ≡ x *ℤ pos ((g.row_total * m * N) ^ n)
weights-whole g m width count V N most start nodes Y full keeps right zero past i s x at li ls lp all = rw (pow-zero (g.row_total * m * N)) (alone x)
  where
    alone : (x : ℤ) → pos 1 *ℤ (x +ℤ pos 0 *ℤ pos 0) +ℤ pos 0 ≡ x *ℤ pos 1
    alone x = rw (zero_times (pos 0), plus_zero x, one_times x, plus_zero x, times_one x) refl
weights-whole g m width count V N most start nodes Y full keeps right (suc n) past i s x at li ls lp all =
    let X = g.row_total * m * N in
    let own = node_weights nodes start in
    let informed = λ (past : List Stage) (c a o t v : ℕ). Y past c v in
    let T = x *ℤ pos (X ^ n) in
    weights-first g count V own informed n past s x (pos 0)
    ∙ stage_sum-same g count V s (own past) (Y past)
    (λ a c o t u v. of_weights g count V own informed n (past ++ stage_of a c o t u v ∷ []) t (next_x g n s a c x (pos 0)) (next_y g (pos 0)))
    (λ a c o t u v. T +ℤ pos 0 *ℤ (nodes u).vector t)
    (λ a c o t u v la lc lo lt lu lv.
    ap (λ (y : ℤ). of_weights g count V own informed n (past ++ stage_of a c o t u v ∷ []) t y (next_y g (pos 0))) (stays x (g.reward s a c *ℤ pos (g.discount_under ^ suc n)))
    ∙ ap (λ (y : ℤ). of_weights g count V own informed n (past ++ stage_of a c o t u v ∷ []) t x y) (zero_times (pos g.discount_over))
    ∙ weights-whole g m width count V N most start nodes Y full keeps right n (past ++ stage_of a c o t u v ∷ []) u t x
    (own_place-snoc start past (stage_of a c o t u v)) lu lt (longer past (stage_of a c o t u v) n most lp)
    (each-append (IsStage g count V) past (stage_of a c o t u v ∷ []) all (record { own = la; informed = lc; seen = lo; to = lt; own_coin = lu; informed_coin = lv }, tt))
    ∙ sym (stays T ((nodes u).vector t)))
    ∙ stage-constant g m width count V N s i start nodes past (Y past) full ls at (keeps i li) (right past (shorter past n most lp) all) T
    ∙ ends (pos X) x (pos (X ^ n))
    ∙ ap (λ (k : ℕ). x *ℤ pos k) (sym (pow-suc X n))
  where
    stays : (x y : ℤ) → x +ℤ pos 0 *ℤ y ≡ x
    stays x y = rw (zero_times y) (plus_zero x)

    ends : (d x w : ℤ) → d *ℤ (x *ℤ w) ≡ x *ℤ (w *ℤ d)
    ends d x w = simp products (omega (arith, sums))

pub watched-mean : (g : GameData) (k : CertificateData) → RowsAreFull (numbers g) → CertificateStands g k → WatchedInTheMean g k
watched-mean g k full stands n coins whole s i strategy ls li is =
    let G = numbers g in
    let own = node_weights (nodes_of k.nodes) i in
    let informed = watching_weights strategy s i in
    let all = courses G (length k.nodes) coins n in
    ap up
    (sym (total-pos (chance G n s own informed) all)
    ∙ total-same _ _ all (each (λ course. alone (pos (chance_after G [] n s own informed course)) (worth G n s course)) all)
    ∙ weights-whole G units (span g) (length k.nodes) coins whole n i (nodes_of k.nodes) (strategy s i) full (nodes-keep g k stands.fits)
    (λ past short past_all. is.sums s i past ls li short past_all) n [] i s (pos 1) refl li ls (whole_length n) tt
    ∙ one_times (pos ((G.row_total * units * whole) ^ n)))
  where
    whole_length : (n : ℕ) → 0 + n ≤ n
    whole_length n = omega arith

    alone : (w z : ℤ) → w ≡ w *ℤ (pos 1 +ℤ pos 0 *ℤ z)
    alone w z = rw (zero_times z, plus_zero (pos 1), times_one w) refl
