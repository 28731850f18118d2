-- Sets that grow by a member that stands among them.
use Rattle.std.proofs.Common.{◌≡◌, ◌⊎◌, ℕ, ◌+◌, ◌*◌, ◌<◌, ◌≤◌, ◌==◌, ◌&&◌, Bool, true, false, cond, List, [], ◌∷◌, ◌++◌, filter, length, map, replicate, inl, inr, refl, ap, sym, subst, ◌∙◌, arith, length-append}
use Rattle.std.proofs.Math.Seq.{get_or-append_seam}
use Rattle.std.proofs.lemmas.List.{get_or_append_left, length-replicate, length-set}
use Rattle.std.specs.List.{AllByRecursion}
use Rattle.std.specs.Prelude.{ℤ, pos, slice_index_or, ◌+ℤ◌, ◌*ℤ◌, ◌≤ℤ◌}
use Rattle.scaled_num.specs.Sums.{below, total}
use Rattle.scaled_num.proofs.Sums.{each, each-append, each-at, each-map, total-same}
use Rattle.belief.specs.Beliefs.{corner_of}
use Rattle.belief.proofs.Landings.{each-filter}
use Rattle.game_model.specs.Branches.{Branch, Continuation, IsBranch, branches_at, continuation_of, mix_total}
use Rattle.game_model.specs.Game.{GameData, numbers, unit}
use Rattle.game_model.specs.Numbers.{Numbers, over_row}
use Rattle.game_model.proofs.Pay.{each-from}
use Rattle.alpha_set.specs.Nodes.{Node, NodeData, NodeFits, NodeStands, no_node, node_of, node_worth, nodes_of, steps_at, steps_worth}
use Rattle.point_set.specs.Points.{PointData, PointFits, PointStands, no_point, point_of, points_of}
use Rattle.point_set.proofs.Fitting.{fits-more}
use Rattle.backup.specs.Standing.{NodesFitAndStand, PointsFitAndStand}
use Rattle.backup.proofs.Standing.{stands-on}

-- a node that fits among some nodes fits among more
pub node-fits-more : (g : GameData) (few many : ℕ) (node : NodeData) → few ≤ many → NodeFits g few node → NodeFits g many node
node-fits-more g few many node l h = record {
  long = h.long;
  entries = h.entries;
  mix = h.mix;
  next = record {
    rising = h.next.rising;
    each = each-from (IsBranch (numbers g) few (pos mix_total)) (IsBranch (numbers g) many (pos mix_total)) node.next (λ b i. record { own = i.own; seen = i.seen; member = omega arith; weight = i.weight }) h.next.each;
  };
  sums = h.sums;
}

-- ---- nodes that are added to the others leave what a node gives
filter-map : {X Y : Type 0} (f : X → Y) (p : Y → Bool) (xs : List X) → filter p (map f xs) ≡ map f (filter (λ x. p (f x)) xs)
filter-map f p [] = refl
filter-map {X} {Y} f p (x ∷ xs) = by (p (f x)) (filter-map f p xs)
  where
    by : (b : Bool) → filter p (map f xs) ≡ map f (filter (λ x. p (f x)) xs) →
        cond b (f x ∷ filter p (map f xs)) (filter p (map f xs)) ≡ map f (cond b (x ∷ filter (λ x. p (f x)) xs) (filter (λ x. p (f x)) xs))
    by true k = ap (λ (ys : List Y). f x ∷ ys) k
    by false k = k

steps-are : (node : NodeData) (a o : ℕ) → steps_at (node_of node) a o ≡ map continuation_of (branches_at node.next a o)
steps-are node a o = filter-map continuation_of _ node.next

each-step : (P : ℕ → Type 0) (node : NodeData) → AllByRecursion (λ (b : Branch). P b.member) node.next → (a o : ℕ) → AllByRecursion (λ (step : Continuation). P step.member) (steps_at (node_of node) a o)
each-step P node h a o =
    subst (AllByRecursion (λ (step : Continuation). P step.member)) (sym (steps-are node a o))
    (each-map (λ (step : Continuation). P step.member) continuation_of (branches_at node.next a o) (each-filter (λ (b : Branch). P b.member) (λ (b : Branch). (b.own == a) && (b.seen == o)) node.next h))

worth-stays : (g : Numbers) (nodes more : List NodeData) (node : NodeData) → AllByRecursion (λ (b : Branch). b.member < length nodes) node.next → (s c : ℕ) →
    node_worth g (nodes_of nodes) (node_of node) s c ≡ node_worth g (nodes_of (nodes ++ more)) (node_of node) s c
worth-stays g nodes more node named s c =
    let worth : (ℕ → Node) → ℕ → ℕ → ℕ → ℤ = λ others a o t. steps_worth others (node_of node) a o t in
    let same : (a o t : ℕ) → worth (nodes_of nodes) a o t ≡ worth (nodes_of (nodes ++ more)) a o t =
    λ a o t. total-same (λ (step : Continuation). pos step.weight *ℤ (nodes_of nodes step.member).vector t) (λ (step : Continuation). pos step.weight *ℤ (nodes_of (nodes ++ more) step.member).vector t) (steps_at (node_of node) a o)
    (each-from (λ (step : Continuation). step.member < length nodes) _ (steps_at (node_of node) a o)
    (λ step l. ap (λ (x : NodeData). pos step.weight *ℤ (node_of x).vector t) (sym (get_or_append_left nodes more no_node step.member l))) (each-step (λ (k : ℕ). k < length nodes) node named a o)) in
    ap (λ (z : ℤ). total (λ a. pos ((node_of node).mix a) *ℤ g.reward s a c *ℤ pos (unit * g.row_total * g.discount_under)) (below g.own_actions) +ℤ pos g.discount_over *ℤ z)
    (total-same (λ a. over_row g s a c (worth (nodes_of nodes) a)) (λ a. over_row g s a c (worth (nodes_of (nodes ++ more)) a)) (below g.own_actions)
    (each (λ a. total-same (λ o. total (λ t. pos (g.weight s a c o t) *ℤ worth (nodes_of nodes) a o t) (below g.states)) (λ o. total (λ t. pos (g.weight s a c o t) *ℤ worth (nodes_of (nodes ++ more)) a o t) (below g.states)) (below g.observations)
    (each (λ o. total-same (λ t. pos (g.weight s a c o t) *ℤ worth (nodes_of nodes) a o t) (λ t. pos (g.weight s a c o t) *ℤ worth (nodes_of (nodes ++ more)) a o t) (below g.states)
    (each (λ t. ap (λ (z : ℤ). pos (g.weight s a c o t) *ℤ z) (same a o t)) (below g.states))) (below g.observations))) (below g.own_actions)))

node-stands-on : (g : GameData) (nodes more : List NodeData) (node : NodeData) → NodeFits g (length nodes) node → NodeStands (numbers g) (nodes_of nodes) (node_of node) → NodeStands (numbers g) (nodes_of (nodes ++ more)) (node_of node)
node-stands-on g nodes more node fits stands s c ls lc =
    subst (λ (z : ℤ). ((node_of node).vector s *ℤ pos (mix_total * (numbers g).row_total * (numbers g).discount_under)) ≤ℤ z)
    (worth-stays (numbers g) nodes more node (each-from (IsBranch (numbers g) (length nodes) (pos mix_total)) _ node.next (λ b k. k.member) fits.next.each) s c)
    (stands s c ls lc)

-- ---- sets that grow by a member
last-or : (i n : ℕ) → i < n + 1 → (i < n) ⊎ (i ≡ n)
last-or i n l = grind arith

pub nodes-with : (g : GameData) (nodes : List NodeData) (node : NodeData) → NodesFitAndStand g nodes → NodeFits g (length nodes) node → NodeStands (numbers g) (nodes_of (nodes ++ node ∷ [])) (node_of node) → NodesFitAndStand g (nodes ++ node ∷ [])
nodes-with g nodes node old fits stands = record {
  fit = each-append (NodeFits g (length (nodes ++ node ∷ []))) nodes (node ∷ [])
      (each-from (NodeFits g (length nodes)) (NodeFits g (length (nodes ++ node ∷ []))) nodes (λ x h. node-fits-more g (length nodes) (length (nodes ++ node ∷ [])) x (omega (arith, length-append nodes (node ∷ []))) h) old.fit)
      (node-fits-more g (length nodes) (length (nodes ++ node ∷ [])) node (omega (arith, length-append nodes (node ∷ []))) fits, tt);
  stand = λ i l. elim (last-or i (length nodes) (omega (arith, length-append nodes (node ∷ [])))) [
    | inl k ↦ subst (λ (x : NodeData). NodeStands (numbers g) (nodes_of (nodes ++ node ∷ [])) (node_of x)) (sym (get_or_append_left nodes (node ∷ []) no_node i k))
        (node-stands-on g nodes (node ∷ []) (slice_index_or nodes i no_node) (each-at (NodeFits g (length nodes)) no_node nodes i old.fit k) (old.stand i k))
    | inr e ↦ subst (λ (j : ℕ). NodeStands (numbers g) (nodes_of (nodes ++ node ∷ [])) (nodes_of (nodes ++ node ∷ []) j)) (sym e)
        (subst (λ (x : NodeData). NodeStands (numbers g) (nodes_of (nodes ++ node ∷ [])) (node_of x)) (sym (get_or-append_seam nodes node [] no_node)) stands)
  ];
}

pub points-with : (g : GameData) (points : List PointData) (point : PointData) → PointsFitAndStand g points → PointFits g (length points) point → PointStands (numbers g) (points_of (points ++ point ∷ [])) (point_of point) → PointsFitAndStand g (points ++ point ∷ [])
points-with g points point old fits stands = record {
  fit = each-append (PointFits g (length (points ++ point ∷ []))) points (point ∷ [])
      (each-from (PointFits g (length points)) (PointFits g (length (points ++ point ∷ []))) points (λ x h. fits-more g (length points) (length (points ++ point ∷ [])) x (omega (arith, length-append points (point ∷ []))) h) old.fit)
      (fits-more g (length points) (length (points ++ point ∷ [])) point (omega (arith, length-append points (point ∷ []))) fits, tt);
  stand = λ i l. elim (last-or i (length points) (omega (arith, length-append points (point ∷ [])))) [
    | inl k ↦ subst (λ (x : PointData). PointStands (numbers g) (points_of (points ++ point ∷ [])) (point_of x)) (sym (get_or_append_left points (point ∷ []) no_point i k))
        (stands-on g points (point ∷ []) (slice_index_or points i no_point) (each-at (PointFits g (length points)) no_point points i old.fit k).splits.each (old.stand i k))
    | inr e ↦ subst (λ (j : ℕ). PointStands (numbers g) (points_of (points ++ point ∷ [])) (points_of (points ++ point ∷ []) j)) (sym e)
        (subst (λ (x : PointData). PointStands (numbers g) (points_of (points ++ point ∷ [])) (point_of x)) (sym (get_or-append_seam points point [] no_point)) stands)
  ];
}

-- ---- the corner of a state has an entry for each state
pub long-corner : (states s : ℕ) → length (corner_of states s) ≡ states
long-corner states s = length-set (replicate states (pos 0)) s (pos 1) ∙ length-replicate states (pos 0)
