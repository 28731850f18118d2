-- Where steps to a node go to one that is nowhere lower, all nodes stand.
use Rattle.std.proofs.Common.{◌≡◌, ℕ, ◌+◌, ◌*◌, ◌<◌, Bool, true, false, cond, ◌==◌, ◌&&◌, List, [], ◌∷◌, filter, length, get_or, set, refl, ap, arith, sym, subst, ◌∙◌}
use Rattle.std.specs.Prelude.{ℤ, pos, ◌+ℤ◌, ◌*ℤ◌, ◌≤ℤ◌}
use Rattle.std.specs.List.{AllByRecursion}
use Rattle.std.proofs.lemmas.Bool.{eqb-true}
use Rattle.std.proofs.lemmas.Int.{ints}
use Rattle.std.proofs.lemmas.List.Sums.{sum_by-cons}
use Rattle.scaled_num.specs.Share.{at}
use Rattle.scaled_num.specs.Sums.{below, total}
use Rattle.scaled_num.proofs.Products.{add-mulℤ, le-mulℤ}
use Rattle.scaled_num.proofs.Sums.{total-add, total-below, total-below-le, total-single}
use Rattle.game_model.specs.Branches.{Continuation, mix_total}
use Rattle.game_model.specs.Game.{unit}
use Rattle.game_model.specs.Numbers.{Numbers, over_row}
use Rattle.alpha_set.specs.Changes.{IsNowhereLower, IsRenamed, NodesStand, moved, weight_in}
use Rattle.alpha_set.specs.Nodes.{Node, NodeData, NodeStands, no_node, node_of, node_worth, nodes_of, steps_at, steps_worth}
use Rattle.alpha_set.proofs.Changing.{raised-stand}

once : (v : ℤ) → pos 1 *ℤ v ≡ v
once v = omega (arith, ints)

never : (v : ℤ) → pos 0 *ℤ v ≡ pos 0
never v = omega (arith, ints)

-- ---- branches, counted by member
one-weight : (b : Bool) (w : ℕ) (v : ℤ) → pos (cond b w 0) *ℤ v ≡ pos (cond b 1 0) *ℤ (pos w *ℤ v)
one-weight true w v = sym (once (pos w *ℤ v))
one-weight false w v = never v ∙ sym (never (pos w *ℤ v))

none-counted : (V : ℕ → ℤ) (ms : List ℕ) → pos 0 ≡ total (λ m. pos 0 *ℤ V m) ms
none-counted V [] = refl
none-counted V (m ∷ ms) = none-counted V ms ∙ more (V m) (total (λ m. pos 0 *ℤ V m) ms)
  where
    more : (v z : ℤ) → z ≡ pos 0 *ℤ v +ℤ z
    more v z = omega (arith, ints)

-- a sum over branches is one over members
by-member : (V : ℕ → ℤ) (n : ℕ) (xs : List Continuation) → AllByRecursion (λ (x : Continuation). x.member < n) xs →
    total (λ (x : Continuation). pos x.weight *ℤ V x.member) xs ≡ total (λ m. pos (weight_in xs m) *ℤ V m) (below n)
by-member V n [] h = none-counted V (below n)
by-member V n (x ∷ xs) h =
    let first : ℕ → ℤ = λ m. pos (cond (m == x.member) 1 0) *ℤ (pos x.weight *ℤ V m) in
    let rest : ℕ → ℤ = λ m. pos (weight_in xs m) *ℤ V m in
    sym (total-below n (λ m. pos (weight_in (x ∷ xs) m) *ℤ V m) (λ m. first m +ℤ rest m) (λ m lm.
    ap (λ (k : ℕ). pos k *ℤ V m) (sum_by-cons (λ (x : Continuation). cond (m == x.member) x.weight 0) x xs)
    ∙ add-mulℤ (pos (cond (m == x.member) x.weight 0)) (pos (weight_in xs m)) (V m)
    ∙ ap (λ (z : ℤ). z +ℤ rest m) (one-weight (m == x.member) x.weight (V m)))
    ∙ total-add first rest (below n)
    ∙ ap (λ (z : ℤ). z +ℤ total rest (below n)) (total-single (λ m. pos x.weight *ℤ V m) x.member n h.0)
    ∙ ap (λ (z : ℤ). pos x.weight *ℤ V x.member +ℤ z) (sym (by-member V n xs h.1)))

-- ---- what goes to one member goes to another
point-moved : (b c : Bool) (here from to : ℕ) (v : ℤ) → (b ≡ true → here ≡ from) → (b ≡ true → c ≡ true → ⊥) → (c ≡ true → here ≡ to) →
    pos (cond b 0 (cond c (to + from) here)) *ℤ v +ℤ pos (cond b 1 0) *ℤ (pos from *ℤ v) ≡ pos here *ℤ v +ℤ pos (cond c 1 0) *ℤ (pos from *ℤ v)
point-moved true true here from to v h apart k = absurd (apart refl refl)
point-moved true false here from to v h apart k =
    ap (λ (n : ℕ). pos 0 *ℤ v +ℤ pos 1 *ℤ (pos n *ℤ v)) (sym (h refl)) ∙ ends (pos here *ℤ v) (pos from *ℤ v) v
  where
    ends : (x y v : ℤ) → pos 0 *ℤ v +ℤ pos 1 *ℤ x ≡ x +ℤ pos 0 *ℤ y
    ends x y v = omega (arith, ints)
point-moved false true here from to v h apart k =
    ap (λ (z : ℤ). z +ℤ pos 0 *ℤ (pos from *ℤ v)) (add-mulℤ (pos to) (pos from) v)
    ∙ ends (pos to *ℤ v) (pos from *ℤ v)
    ∙ ap (λ (n : ℕ). pos n *ℤ v +ℤ pos 1 *ℤ (pos from *ℤ v)) (sym (k refl))
  where
    ends : (x y : ℤ) → (x +ℤ y) +ℤ pos 0 *ℤ y ≡ x +ℤ pos 1 *ℤ y
    ends x y = omega (arith, ints)
point-moved false false here from to v h apart k = refl

moved-total : (V : ℕ → ℤ) (n : ℕ) (w : ℕ → ℕ) (from to : ℕ) → from < n → to < n → (from ≡ to → ⊥) →
    total (λ m. pos (moved w from to m) *ℤ V m) (below n) +ℤ pos (w from) *ℤ V from ≡ total (λ m. pos (w m) *ℤ V m) (below n) +ℤ pos (w from) *ℤ V to
moved-total V n w from to lf lt apart =
    let new : ℕ → ℤ = λ m. pos (moved w from to m) *ℤ V m in
    let old : ℕ → ℤ = λ m. pos (w m) *ℤ V m in
    let at : ℕ → ℕ → ℤ = λ k m. pos (cond (m == k) 1 0) *ℤ (pos (w from) *ℤ V m) in
    ap (λ (z : ℤ). total new (below n) +ℤ z) (sym (total-single (λ m. pos (w from) *ℤ V m) from n lf))
    ∙ sym (total-add new (at from) (below n))
    ∙ total-below n (λ m. new m +ℤ at from m) (λ m. old m +ℤ at to m) (λ m lm.
    point-moved (m == from) (m == to) (w m) (w from) (w to) (V m) (λ e. ap w (eqb-true m from e)) (λ e f. apart (sym (eqb-true m from e) ∙ eqb-true m to f)) (λ e. ap w (eqb-true m to e)))
    ∙ total-add old (at to) (below n)
    ∙ ap (λ (z : ℤ). total old (below n) +ℤ z) (total-single (λ m. pos (w from) *ℤ V m) to n lt)

-- so of sums over branches
pub moved-sum : (V : ℕ → ℤ) (n : ℕ) (old new : List Continuation) (from to : ℕ) → from < n → to < n → (from ≡ to → ⊥) → AllByRecursion (λ (x : Continuation). x.member < n) old →
    AllByRecursion (λ (x : Continuation). x.member < n) new → ((m : ℕ) → m < n → weight_in new m ≡ moved (weight_in old) from to m) →
    total (λ (x : Continuation). pos x.weight *ℤ V x.member) new +ℤ pos (weight_in old from) *ℤ V from ≡ total (λ (x : Continuation). pos x.weight *ℤ V x.member) old +ℤ pos (weight_in old from) *ℤ V to
moved-sum V n old new from to lf lt apart named renamed goes =
    ap (λ (z : ℤ). z +ℤ pos (weight_in old from) *ℤ V from)
    (by-member V n new renamed ∙ total-below n (λ m. pos (weight_in new m) *ℤ V m) (λ m. pos (moved (weight_in old) from to m) *ℤ V m) (λ m lm. ap (λ (k : ℕ). pos k *ℤ V m) (goes m lm)))
    ∙ moved-total V n (weight_in old) from to lf lt apart
    ∙ ap (λ (z : ℤ). z +ℤ pos (weight_in old from) *ℤ V to) (sym (by-member V n old named))

each-filter : {X : Type 0} (P : X → Type 0) (p : X → Bool) (xs : List X) → AllByRecursion P xs → AllByRecursion P (filter p xs)
each-filter P p [] h = tt
each-filter P p (x ∷ xs) h = by (p x) (each-filter P p xs h.1)
  where
    by : (b : Bool) → AllByRecursion P (filter p xs) → AllByRecursion P (cond b (x ∷ filter p xs) (filter p xs))
    by true k = (h.0, k)
    by false k = k

-- ---- the node
less : (x y p q : ℤ) → x +ℤ p ≡ y +ℤ q → p ≤ℤ q → y ≤ℤ x
less x y p q e l = omega (arith, ints)

through : (x y z : ℤ) → x ≤ℤ y → y ≤ℤ z → x ≤ℤ z
through x y z h k = omega (arith, ints)

both : (x y v w : ℤ) → x ≡ v → y ≤ℤ w → (x +ℤ y) ≤ℤ (v +ℤ w)
both x y v w e l = omega (arith, ints)

-- after an own action and an observation the steps are worth no less
renamed-steps : (g : Numbers) (nodes : List NodeData) (from to : ℕ) (old new : NodeData) → from < length nodes → to < length nodes → (from ≡ to → ⊥) →
    IsNowhereLower g.states (get_or nodes from no_node).vector (get_or nodes to no_node).vector → IsRenamed g (length nodes) from to old new →
    (a o t : ℕ) → a < g.own_actions → o < g.observations → t < g.states → steps_worth (nodes_of nodes) (node_of old) a o t ≤ℤ steps_worth (nodes_of nodes) (node_of new) a o t
renamed-steps g nodes from to old new lf lt apart lower h a o t la lo lt' =
    let V : ℕ → ℤ = λ m. (nodes_of nodes m).vector t in
    let p : Continuation → Bool = λ (step : Continuation). (step.own == a) && (step.seen == o) in
    let w : ℕ = weight_in (steps_at (node_of old) a o) from in
    less (steps_worth (nodes_of nodes) (node_of new) a o t) (steps_worth (nodes_of nodes) (node_of old) a o t) (pos w *ℤ V from) (pos w *ℤ V to)
    (moved-sum V (length nodes) (steps_at (node_of old) a o) (steps_at (node_of new) a o) from to lf lt apart
    (each-filter (λ (x : Continuation). x.member < length nodes) p (node_of old).next h.old_named) (each-filter (λ (x : Continuation). x.member < length nodes) p (node_of new).next h.new_named)
    (λ m lm. h.goes a o m la lo lm))
    (le-mulℤ w (V from) (V to) (lower t lt'))

renamed-worth : (g : Numbers) (nodes : List NodeData) (from to : ℕ) (old new : NodeData) → from < length nodes → to < length nodes → (from ≡ to → ⊥) →
    IsNowhereLower g.states (get_or nodes from no_node).vector (get_or nodes to no_node).vector → IsRenamed g (length nodes) from to old new → (s c : ℕ) →
    node_worth g (nodes_of nodes) (node_of old) s c ≤ℤ node_worth g (nodes_of nodes) (node_of new) s c
renamed-worth g nodes from to old new lf lt apart lower h s c =
    let paid : List ℤ → ℤ = λ mix. total (λ a. pos ((node_of (record { vector = []; mix = mix; next = [] })).mix a) *ℤ g.reward s a c *ℤ pos (unit * g.row_total * g.discount_under)) (below g.own_actions) in
    let later : NodeData → ℕ → ℤ = λ node a. over_row g s a c (λ o t. steps_worth (nodes_of nodes) (node_of node) a o t) in
    both (paid old.mix) (pos g.discount_over *ℤ total (later old) (below g.own_actions)) (paid new.mix) (pos g.discount_over *ℤ total (later new) (below g.own_actions)) (ap paid (sym h.mix))
    (le-mulℤ g.discount_over (total (later old) (below g.own_actions)) (total (later new) (below g.own_actions))
    (total-below-le g.own_actions (later old) (later new) (λ a la.
    total-below-le g.observations _ _ (λ o lo.
    total-below-le g.states _ _ (λ t lt'.
    le-mulℤ (g.weight s a c o t) (steps_worth (nodes_of nodes) (node_of old) a o t) (steps_worth (nodes_of nodes) (node_of new) a o t)
    (renamed-steps g nodes from to old new lf lt apart lower h a o t la lo lt'))))))

pub renamed-stand : (g : Numbers) (nodes : List NodeData) (number from to : ℕ) (node : NodeData) → NodesStand g nodes → number < length nodes → from < length nodes → to < length nodes → (from ≡ to → ⊥) →
    IsNowhereLower g.states (get_or nodes from no_node).vector (get_or nodes to no_node).vector → IsRenamed g (length nodes) from to (get_or nodes number no_node) node → NodesStand g (set nodes number node)
renamed-stand g nodes number from to node stand l lf lt apart lower h =
    let old : NodeData = get_or nodes number no_node in
    raised-stand g nodes number node stand l (λ s ls. subst (λ (xs : List ℤ). at old.vector s ≤ℤ at xs s) (sym h.vector) (same (at old.vector s)))
    (λ s c ls lc.
    subst (λ (xs : List ℤ). (at xs s *ℤ pos (mix_total * g.row_total * g.discount_under)) ≤ℤ node_worth g (nodes_of nodes) (node_of node) s c) (sym h.vector)
    (through (at old.vector s *ℤ pos (mix_total * g.row_total * g.discount_under)) (node_worth g (nodes_of nodes) (node_of old) s c) (node_worth g (nodes_of nodes) (node_of node) s c)
    (stand number l s c ls lc) (renamed-worth g nodes from to old node lf lt apart lower h s c)))
  where
    same : (x : ℤ) → x ≤ℤ x
    same x = omega (arith, ints)
