-- What one stage of a node gives is at most the span.
use Rattle.std.proofs.Common.{◌≡◌, ℕ, ◌+◌, ◌-◌, ◌*◌, ◌<◌, ◌≤◌, Bool, true, false, cond, ◌==◌, ◌&&◌, List, [], ◌∷◌, length, map, filter, get_or, refl, ap, arith, sym, subst, ◌∙◌}
use Rattle.std.specs.Prelude.{ℤ, pos, neg_ℤ, ◌*ℤ◌, ◌≤ℤ◌, unsigned_abs, sum_by}
use Rattle.std.specs.List.{AllByRecursion}
use Rattle.std.proofs.Math.Nat.{mul-le-mul_left}
use Rattle.std.proofs.lemmas.Int.{ints, unsigned_abs-mul}
use borrow.Author.Differences.{up}
use Rattle.scaled_num.specs.Sums.{below, sum_of, total}
use Rattle.scaled_num.proofs.Products.{abs-add}
use Rattle.scaled_num.proofs.Sums.{below-each, each-at, each-map, sum_by-map, total-below, total-places, total-pos, total-same}
use Rattle.game_model.specs.Branches.{Branch, Continuation, IsBranch, branches_at, continuation_of, mix_total}
use Rattle.game_model.specs.Game.{GameData, IsGame, IsWithin, numbers, span, unit}
use Rattle.game_model.specs.Numbers.{Numbers, over_row}
use Rattle.game_model.specs.Seeds.{KeepsSpan}
use Rattle.game_model.proofs.Games.{keeps-span}
use Rattle.game_model.proofs.Pay.{each-from}
use Rattle.game_model.proofs.Worth.{total-bound}
use Rattle.alpha_set.specs.Members.{most_nodes}
use Rattle.alpha_set.specs.Nodes.{Node, NodeData, NodeFits, no_node, node_of, node_worth, nodes_of, steps_at, steps_worth}

-- ---- how much it is at most
-- the mix sums to the total, the steps have the weights of the actions, and their nodes' entries are at most so large
pub record Keeps (g : Numbers) (span : ℕ) (nodes : ℕ → Node) (node : Node) : Type 0 where
  pub mix_sums : sum_by node.mix (below g.own_actions) ≡ mix_total
  pub steps_sum : (a o : ℕ) → a < g.own_actions → o < g.observations → sum_by (λ step. step.weight) (steps_at node a o) ≡ node.mix a
  pub small : (a o t : ℕ) → t < g.states → AllByRecursion (λ step. unsigned_abs ((nodes step.member).vector t) ≤ span) (steps_at node a o)

steps-within : (g : Numbers) (V : ℕ) (nodes : ℕ → Node) (node : Node) → Keeps g V nodes node → (a o t : ℕ) → a < g.own_actions → o < g.observations → t < g.states →
    unsigned_abs (steps_worth nodes node a o t) ≤ node.mix a * V
steps-within g V nodes node h a o t la lo lt =
    subst (λ (n : ℕ). unsigned_abs (steps_worth nodes node a o t) ≤ n * V) (h.steps_sum a o la lo)
    (total-bound (λ (step : Continuation). pos step.weight *ℤ (nodes step.member).vector t) (λ (step : Continuation). step.weight) V (steps_at node a o)
    (each-from (λ (step : Continuation). unsigned_abs ((nodes step.member).vector t) ≤ V) _ (steps_at node a o)
    (λ step l. rw (unsigned_abs-mul (pos step.weight) ((nodes step.member).vector t)) (mul-le-mul_left step.weight l)) (h.small a o t lt)))

row-within : (g : Numbers) (V : ℕ) → KeepsSpan g V → (s a c most : ℕ) (f : ℕ → ℕ → ℤ) → s < g.states → a < g.own_actions → c < g.informed_actions →
    ((o t : ℕ) → o < g.observations → t < g.states → unsigned_abs (f o t) ≤ most) → unsigned_abs (over_row g s a c f) ≤ g.row_total * most
row-within g V keeps s a c most f ls la lc small =
    subst (λ (n : ℕ). unsigned_abs (over_row g s a c f) ≤ n * most) (keeps.full s a c ls la lc)
    (total-bound (λ o. total (λ t. pos (g.weight s a c o t) *ℤ f o t) (below g.states)) (λ o. sum_by (λ t. g.weight s a c o t) (below g.states)) most (below g.observations)
    (below-each _ g.observations (λ o lo.
    total-bound (λ t. pos (g.weight s a c o t) *ℤ f o t) (λ t. g.weight s a c o t) most (below g.states)
    (below-each _ g.states (λ t lt. rw (unsigned_abs-mul (pos (g.weight s a c o t)) (f o t)) (mul-le-mul_left (g.weight s a c o t) (small o t lo lt)))))))

paid-plain : (m r D Q S k : ℕ) → unit * r * Q ≤ S * k → m * r * (unit * D * Q) ≤ m * (S * k * D)
paid-plain m r D Q S k h = let more = mul-le-mul_left (m * D) h in omega arith

all-plain : (S k P D Q x y : ℕ) → x ≤ mix_total * (S * k * D) → y ≤ mix_total * (D * S) → k + P ≡ Q → x + P * y ≤ S * (mix_total * D * Q)
all-plain S k P D Q x y h w e =
    let more : P * y ≤ P * (mix_total * (D * S)) = mul-le-mul_left P w in
    subst (λ (q : ℕ). x + P * y ≤ S * (mix_total * D * q)) e (omega arith)

turn : (m D V : ℕ) → D * (m * V) ≡ m * (D * V)
turn m D V = omega arith

room : (P Q : ℕ) → P < Q → (Q - P) + P ≡ Q
room P Q l = omega arith

kept-within : (g : Numbers) (V : ℕ) → KeepsSpan g V → (nodes : ℕ → Node) (node : Node) → Keeps g V nodes node → (s c : ℕ) → s < g.states → c < g.informed_actions →
    unsigned_abs (node_worth g nodes node s c) ≤ V * (mix_total * g.row_total * g.discount_under)
kept-within g V keeps nodes node h s c ls lc =
    let K : ℕ = unit * g.row_total * g.discount_under in
    let gap : ℕ = g.discount_under - g.discount_over in
    let paid : ℕ → ℤ = λ a. pos (node.mix a) *ℤ g.reward s a c *ℤ pos K in
    let later : ℕ → ℤ = λ a. over_row g s a c (λ o t. steps_worth nodes node a o t) in
    let first : unsigned_abs (total paid (below g.own_actions)) ≤ mix_total * (V * gap * g.row_total) =
    subst (λ (n : ℕ). unsigned_abs (total paid (below g.own_actions)) ≤ n * (V * gap * g.row_total)) h.mix_sums
    (total-bound paid node.mix (V * gap * g.row_total) (below g.own_actions) (below-each _ g.own_actions (λ a la.
    rw (unsigned_abs-mul (pos (node.mix a) *ℤ g.reward s a c) (pos K), unsigned_abs-mul (pos (node.mix a)) (g.reward s a c))
    (paid-plain (node.mix a) (unsigned_abs (g.reward s a c)) g.row_total g.discount_under V gap (keeps.rewards s a c ls la lc))))) in
    let second : unsigned_abs (total later (below g.own_actions)) ≤ mix_total * (g.row_total * V) =
    subst (λ (n : ℕ). unsigned_abs (total later (below g.own_actions)) ≤ n * (g.row_total * V)) h.mix_sums
    (total-bound later node.mix (g.row_total * V) (below g.own_actions) (below-each _ g.own_actions (λ a la.
    subst (λ (n : ℕ). unsigned_abs (later a) ≤ n) (turn (node.mix a) g.row_total V)
    (row-within g V keeps s a c (node.mix a * V) (λ o t. steps_worth nodes node a o t) ls la lc (λ o t lo lt. steps-within g V nodes node h a o t la lo lt))))) in
    let times : unsigned_abs (pos g.discount_over *ℤ total later (below g.own_actions)) ≡ g.discount_over * unsigned_abs (total later (below g.own_actions)) =
    unsigned_abs-mul (pos g.discount_over) (total later (below g.own_actions)) in
    let all = all-plain V gap g.discount_over g.row_total g.discount_under (unsigned_abs (total paid (below g.own_actions))) (unsigned_abs (total later (below g.own_actions))) first second
    (room g.discount_over g.discount_under keeps.discount) in
    through _ _ _ (abs-add (total paid (below g.own_actions)) (pos g.discount_over *ℤ total later (below g.own_actions)))
    (subst (λ (n : ℕ). unsigned_abs (total paid (below g.own_actions)) + n ≤ V * (mix_total * g.row_total * g.discount_under)) (sym times) all)
  where
    through : (x y z : ℕ) → x ≤ y → y ≤ z → x ≤ z
    through x y z h k = omega arith

-- ---- a node that fits keeps to this
same_abs : (x : ℤ) → pos 0 ≤ℤ x → pos (unsigned_abs x) ≡ x
same_abs x h = omega (arith, ints)

sum-abs : {X : Type 0} (f : X → ℤ) (xs : List X) → AllByRecursion (λ x. pos 0 ≤ℤ f x) xs → pos (sum_by (λ x. unsigned_abs (f x)) xs) ≡ total f xs
sum-abs f xs h =
    sym (total-pos (λ x. unsigned_abs (f x)) xs)
    ∙ total-same (λ x. pos (unsigned_abs (f x))) f xs (each-from (λ x. pos 0 ≤ℤ f x) _ xs (λ x k. same_abs (f x) k) h)

pos_same : (m n : ℕ) → pos m ≡ pos n → m ≡ n
pos_same m n h = ap up h

each-filter : {X : Type 0} (P : X → Type 0) (p : X → Bool) (xs : List X) → AllByRecursion P xs → AllByRecursion P (filter p xs)
each-filter P p [] h = tt
each-filter P p (x ∷ xs) h = by (p x) (each-filter P p xs h.1)
  where
    by : (b : Bool) → AllByRecursion P (filter p xs) → AllByRecursion P (cond b (x ∷ filter p xs) (filter p xs))
    by true k = (h.0, k)
    by false k = k

filter-map : {X Y : Type 0} (f : X → Y) (p : Y → Bool) (xs : List X) → filter p (map f xs) ≡ map f (filter (λ x. p (f x)) xs)
filter-map f p [] = refl
filter-map {X} {Y} f p (x ∷ xs) = by (p (f x)) (filter-map f p xs)
  where
    by : (b : Bool) → filter p (map f xs) ≡ map f (filter (λ x. p (f x)) xs) →
        cond b (f x ∷ filter p (map f xs)) (filter p (map f xs)) ≡ map f (cond b (x ∷ filter (λ x. p (f x)) xs) (filter (λ x. p (f x)) xs))
    by true k = ap (λ (ys : List Y). f x ∷ ys) k
    by false k = k

steps-are : (node : NodeData) (a o : ℕ) → steps_at (node_of node) a o ≡ map continuation_of (branches_at node.next a o)
steps-are node a o = filter-map continuation_of _ node.next

-- what holds of each step's node holds of the steps after an own action and an observation
pub each-step : (P : ℕ → Type 0) (node : NodeData) → AllByRecursion (λ (b : Branch). P b.member) node.next → (a o : ℕ) → AllByRecursion (λ (step : Continuation). P step.member) (steps_at (node_of node) a o)
each-step P node h a o =
    subst (AllByRecursion (λ (step : Continuation). P step.member)) (sym (steps-are node a o))
    (each-map (λ (step : Continuation). P step.member) continuation_of (branches_at node.next a o) (each-filter (λ (b : Branch). P b.member) (λ (b : Branch). (b.own == a) && (b.seen == o)) node.next h))

sum-places : (xs : List ℤ) (n : ℕ) → length xs ≡ n → AllByRecursion (λ x. pos 0 ≤ℤ x) xs → pos (sum_by (λ i. unsigned_abs (get_or xs i (pos 0))) (below n)) ≡ sum_of xs
sum-places xs n l h =
    subst (λ (n : ℕ). pos (sum_by (λ i. unsigned_abs (get_or xs i (pos 0))) (below n)) ≡ sum_of xs) l
    (sym (total-pos (λ i. unsigned_abs (get_or xs i (pos 0))) (below (length xs)))
    ∙ total-below (length xs) _ (λ i. get_or xs i (pos 0)) (λ i li. same_abs _ (each-at (λ x. pos 0 ≤ℤ x) (pos 0) xs i h li))
    ∙ total-places (λ x. x) (pos 0) xs)

entry-within : (V : ℕ) (x : ℤ) → IsWithin (neg_ℤ (pos V)) (pos V) x → unsigned_abs x ≤ V
entry-within V x h = let low = h.0 in let high = h.1 in omega (arith, ints)

fitting-keeps : (g : GameData) (nodes : List NodeData) (node : NodeData) → AllByRecursion (NodeFits g most_nodes) nodes → NodeFits g (length nodes) node →
    Keeps (numbers g) (span g) (nodes_of nodes) (node_of node)
fitting-keeps g nodes node others fits =
    record {
      mix_sums = pos_same _ _ (sum-places node.mix g.shape.own_actions fits.mix.long (each-from _ _ node.mix (λ x h. h.0) fits.mix.each) ∙ fits.mix.sums);
      steps_sum = λ a o la lo. pos_same _ _
          (ap (λ (steps : List Continuation). pos (sum_by (λ (step : Continuation). step.weight) steps)) (steps-are node a o)
          ∙ ap pos (sum_by-map (λ (step : Continuation). step.weight) continuation_of (branches_at node.next a o))
          ∙ sum-abs (λ (b : Branch). b.weight) (branches_at node.next a o) (each-filter (λ (b : Branch). pos 0 ≤ℤ b.weight) _ node.next (each-from _ _ _ (λ b k. positive b.weight (pos mix_total) k.weight) fits.next.each))
          ∙ fits.sums a o la lo
          ∙ sym (same_abs _ (each-at (IsWithin (pos 0) (pos mix_total)) (pos 0) node.mix a fits.mix.each (subst (λ (n : ℕ). a < n) (sym fits.mix.long) la)).0));
      small = λ a o t lt. each-step (λ (k : ℕ). unsigned_abs ((nodes_of nodes k).vector t) ≤ span g) node
          (each-from (IsBranch (numbers g) (length nodes) (pos mix_total)) _ node.next (λ b k. entry b.member t k.member lt) fits.next.each) a o;
    }
  where
    positive : (x most : ℤ) → IsWithin (pos 1) most x → pos 0 ≤ℤ x
    positive x most h = omega (arith, ints, h.0)

    entry : (k t : ℕ) → k < length nodes → t < g.shape.states → unsigned_abs ((nodes_of nodes k).vector t) ≤ span g
    entry k t lk lt =
        let its : NodeFits g most_nodes (get_or nodes k no_node) = each-at (NodeFits g most_nodes) no_node nodes k others lk in
        entry-within (span g) _ (each-at (IsWithin (neg_ℤ (pos (span g))) (pos (span g))) (pos 0) (get_or nodes k no_node).vector t its.entries (subst (λ (n : ℕ). t < n) (sym its.long) lt))

-- what one stage of a node that fits gives among nodes that fit is at most the span
pub worth-within : (g : GameData) → IsGame g → (nodes : List NodeData) (node : NodeData) → AllByRecursion (NodeFits g most_nodes) nodes → NodeFits g (length nodes) node →
    (s c : ℕ) → s < g.shape.states → c < g.shape.informed_actions →
    unsigned_abs (node_worth (numbers g) (nodes_of nodes) (node_of node) s c) ≤ span g * (mix_total * unsigned_abs g.shape.row_total * unsigned_abs g.shape.discount.1)
worth-within g h nodes node others fits s c ls lc = kept-within (numbers g) (span g) (keeps-span g h) (nodes_of nodes) (node_of node) (fitting-keeps g nodes node others fits) s c ls lc
