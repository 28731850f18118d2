-- The node that always plays one action fits the game and stands.
use Rattle.std.proofs.Common.{◌≡◌, ℕ, zero, suc, ◌+◌, ◌*◌, ◌<◌, Bool, true, false, cond, ◌==◌, ◌&&◌, List, [], ◌∷◌, length, map, filter, refl, ap, arith, sym, subst, ◌∙◌, inl, inr}
use Rattle.std.specs.Prelude.{ℤ, pos, neg_ℤ, ◌+ℤ◌, ◌*ℤ◌, ◌≤ℤ◌, unsigned_abs}
use Rattle.std.specs.List.{range_with_len}
use Rattle.std.proofs.lemmas.Int.{ints}
use Rattle.scaled_num.specs.Share.{at}
use Rattle.scaled_num.specs.Sums.{below, total}
use Rattle.scaled_num.proofs.Products.{le-mulℤ, products, sums}
use Rattle.scaled_num.proofs.Sums.{below-each, each-map, total-below, total-map, total-scale, total-single}
use Rattle.game_model.specs.Branches.{AreRising, Branch, Continuation, IsBranch, branches_at, continuation_of, mix_total}
use Rattle.game_model.specs.Game.{GameData, IsGame, IsWithin, numbers, span, unit}
use Rattle.game_model.specs.Numbers.{Numbers, over_row}
use Rattle.game_model.specs.Seeds.{IsSeed, stage_worth}
use Rattle.game_model.proofs.Games.{keeps-span}
use Rattle.game_model.proofs.SeedVectors.{seeds-stand}
use Rattle.alpha_set.specs.Nodes.{Node, NodeFits, NodeStands, node_of, steps_worth}
use Rattle.backup.specs.Seeds.{always_node}
use Rattle.backup.proofs.Placed.{placed-at, placed-long, placed-sum, placed-within, turn}
use Rattle.scaled_num.proofs.Each.{each-by-place}

-- ---- the steps of the node
abbrev pub steps_from : ℕ → ℕ → ℕ → List Branch
steps_from a from n = map (λ o. record { own = a; seen = o; member = a; weight = pos mix_total }) (range_with_len from n)

rising-from : (a from n : ℕ) → AreRising (steps_from a from n)
rising-from a from zero = tt
rising-from a from (suc zero) = tt
rising-from a from (suc (suc n)) = (inr (refl, inl (omega arith)), rising-from a (from + 1) (suc n))

counts : (x y : Bool) (v : ℤ) → cond (x && y) v (pos 0) ≡ pos (cond y 1 0) *ℤ cond x v (pos 0)
counts true true v = omega (arith, ints)
counts true false v = omega (arith, ints)
counts false true v = omega (arith, ints)
counts false false v = omega (arith, ints)

-- a sum over elements that pass a test
filter-total : {X : Type 0} (F : X → ℤ) (p : X → Bool) (xs : List X) → total F (filter p xs) ≡ total (λ x. cond (p x) (F x) (pos 0)) xs
filter-total F p [] = refl
filter-total F p (x ∷ xs) =
    elim (p x) as (λ b. total F (cond b (x ∷ filter p xs) (filter p xs)) ≡ cond b (F x) (pos 0) +ℤ total (λ y. cond (p y) (F y) (pos 0)) xs) [
      | true ↦ ap (λ (z : ℤ). F x +ℤ z) (filter-total F p xs)
      | false ↦ zero-plus _ _ (filter-total F p xs)
    ]
  where
    zero-plus : (x y : ℤ) → x ≡ y → x ≡ pos 0 +ℤ y
    zero-plus x y e = omega (arith, ints)

-- what the branches after an own action and an observation weigh
pub branches-weigh : (a b o O : ℕ) → o < O → total (λ (d : Branch). d.weight) (branches_at (steps_from a 0 O) b o) ≡ pos (cond (a == b) mix_total 0)
branches-weigh a b o O lo =
    filter-total (λ (d : Branch). d.weight) (λ (d : Branch). (d.own == b) && (d.seen == o)) (steps_from a 0 O)
    ∙ total-map (λ (d : Branch). cond ((d.own == b) && (d.seen == o)) d.weight (pos 0)) (λ u. record { own = a; seen = u; member = a; weight = pos mix_total }) (below O)
    ∙ total-below O _ (λ u. pos (cond (u == o) 1 0) *ℤ cond (a == b) (pos mix_total) (pos 0)) (λ u lu. counts (a == b) (u == o) (pos mix_total))
    ∙ total-single (λ u. cond (a == b) (pos mix_total) (pos 0)) o O lo
    ∙ inside (a == b)
  where
    inside : (x : Bool) → cond x (pos mix_total) (pos 0) ≡ pos (cond x mix_total 0)
    inside true = refl
    inside false = refl

-- what the steps after an own action and an observation are worth
pub steps-worth : (g : GameData) (nodes : ℕ → Node) (vector : List ℤ) (a b o t : ℕ) → o < g.shape.observations →
    steps_worth nodes (node_of (always_node g a vector)) b o t ≡ pos (cond (b == a) 1 0) *ℤ (pos mix_total *ℤ (nodes a).vector t)
steps-worth g nodes vector a b o t lo =
    let w : ℤ = pos mix_total *ℤ (nodes a).vector t in
    let here : ℕ → Branch = λ u. record { own = a; seen = u; member = a; weight = pos mix_total } in
    filter-total (λ (step : Continuation). pos step.weight *ℤ (nodes step.member).vector t) (λ (step : Continuation). (step.own == b) && (step.seen == o)) (map continuation_of (map here (below g.shape.observations)))
    ∙ total-map (λ (step : Continuation). cond ((step.own == b) && (step.seen == o)) (pos step.weight *ℤ (nodes step.member).vector t) (pos 0)) continuation_of (map here (below g.shape.observations))
    ∙ total-map (λ (d : Branch). cond ((d.own == b) && (d.seen == o)) (pos (unsigned_abs d.weight) *ℤ (nodes d.member).vector t) (pos 0)) here (below g.shape.observations)
    ∙ total-below g.shape.observations _ (λ u. pos (cond (u == o) 1 0) *ℤ cond (a == b) w (pos 0)) (λ u lu. counts (a == b) (u == o) w)
    ∙ total-single (λ u. cond (a == b) w (pos 0)) o g.shape.observations lo
    ∙ ap (λ (x : Bool). cond x w (pos 0)) (turn a b)
    ∙ inside (b == a) w
  where
    inside : (x : Bool) (w : ℤ) → cond x w (pos 0) ≡ pos (cond x 1 0) *ℤ w
    inside true w = omega (arith, ints)
    inside false w = omega (arith, ints)

-- ---- it fits
pub always-fits : (g : GameData) → IsGame g → (a nodes : ℕ) (vector : List ℤ) → a < g.shape.own_actions → a < nodes → length vector ≡ g.shape.states →
    IsSeed (numbers g) (span g) a (at vector) → NodeFits g nodes (always_node g a vector)
always-fits g h a nodes vector la ln long seed =
    let A = g.shape.own_actions in
    let O = g.shape.observations in
    record {
      long = long;
      entries = each-by-place (IsWithin (neg_ℤ (pos (span g))) (pos (span g))) (pos 0) vector (λ s l.
          let inside = (seeds-stand (numbers g) (span g) a (at vector) (keeps-span g h) la seed).1 s (subst (λ (n : ℕ). s < n) long l) in (inside.0, inside.1));
      mix = record { long = placed-long A a mix_total; each = placed-within A a mix_total; sums = placed-sum A a mix_total la };
      next = record {
        rising = rising-from a 0 O;
        each = each-map (IsBranch (numbers g) nodes (pos mix_total)) (λ o. record { own = a; seen = o; member = a; weight = pos mix_total }) (below O)
            (below-each _ O (λ o lo. record { own = la; seen = lo; member = ln; weight = (omega (arith, ints), omega (arith, ints)) }));
      };
      sums = λ b o lb lo. branches-weigh a b o O lo ∙ ap (λ (x : Bool). pos (cond x mix_total 0)) (turn a b) ∙ sym (placed-at A a mix_total b la lb);
    }

-- ---- it stands
-- what one stage gives: the mix total times what the action is worth
pub always-worth : (g : Numbers) (node : Node) (nodes : ℕ → Node) (a s c : ℕ) (vector : ℕ → ℤ) → a < g.own_actions →
    ((b : ℕ) → b < g.own_actions → node.mix b ≡ cond (b == a) mix_total 0) →
    ((b o t : ℕ) → b < g.own_actions → o < g.observations → t < g.states → steps_worth nodes node b o t ≡ pos (cond (b == a) 1 0) *ℤ (pos mix_total *ℤ vector t)) →
    total (λ b. pos (node.mix b) *ℤ g.reward s b c *ℤ pos (unit * g.row_total * g.discount_under)) (below g.own_actions)
    +ℤ pos g.discount_over *ℤ total (λ b. over_row g s b c (λ o t. steps_worth nodes node b o t)) (below g.own_actions)
    ≡ pos mix_total *ℤ stage_worth g a vector s c
always-worth g node nodes a s c vector la mix steps =
    let K : ℤ = pos (unit * g.row_total * g.discount_under) in
    let M : ℤ = pos mix_total in
    let row : ℕ → ℤ = λ b. over_row g s b c (λ o t. vector t) in
    let now : total (λ b. pos (node.mix b) *ℤ g.reward s b c *ℤ K) (below g.own_actions) ≡ M *ℤ g.reward s a c *ℤ K =
    total-below g.own_actions _ (λ b. pos (cond (b == a) 1 0) *ℤ (M *ℤ g.reward s b c *ℤ K)) (λ b lb.
    ap (λ (n : ℕ). pos n *ℤ g.reward s b c *ℤ K) (mix b lb) ∙ one (b == a) (g.reward s b c) K)
    ∙ total-single (λ b. M *ℤ g.reward s b c *ℤ K) a g.own_actions la in
    let later : total (λ b. over_row g s b c (λ o t. steps_worth nodes node b o t)) (below g.own_actions) ≡ M *ℤ row a =
    total-below g.own_actions _ (λ b. pos (cond (b == a) 1 0) *ℤ (M *ℤ row b)) (λ b lb.
    total-below g.observations _ (λ o. pos (cond (b == a) 1 0) *ℤ (M *ℤ total (λ t. pos (g.weight s b c o t) *ℤ vector t) (below g.states))) (λ o lo.
    total-below g.states _ (λ t. pos (cond (b == a) 1 0) *ℤ (M *ℤ (pos (g.weight s b c o t) *ℤ vector t))) (λ t lt.
    ap (λ (z : ℤ). pos (g.weight s b c o t) *ℤ z) (steps b o t lb lo lt) ∙ out (pos (g.weight s b c o t)) (pos (cond (b == a) 1 0)) M (vector t))
    ∙ total-scale (pos (cond (b == a) 1 0)) (λ t. M *ℤ (pos (g.weight s b c o t) *ℤ vector t)) (below g.states)
    ∙ ap (λ (z : ℤ). pos (cond (b == a) 1 0) *ℤ z) (total-scale M (λ t. pos (g.weight s b c o t) *ℤ vector t) (below g.states)))
    ∙ total-scale (pos (cond (b == a) 1 0)) (λ o. M *ℤ total (λ t. pos (g.weight s b c o t) *ℤ vector t) (below g.states)) (below g.observations)
    ∙ ap (λ (z : ℤ). pos (cond (b == a) 1 0) *ℤ z) (total-scale M (λ o. total (λ t. pos (g.weight s b c o t) *ℤ vector t) (below g.states)) (below g.observations)))
    ∙ total-single (λ b. M *ℤ row b) a g.own_actions la in
    ap (λ (z : ℤ). z +ℤ pos g.discount_over *ℤ total (λ b. over_row g s b c (λ o t. steps_worth nodes node b o t)) (below g.own_actions)) now
    ∙ ap (λ (z : ℤ). M *ℤ g.reward s a c *ℤ K +ℤ pos g.discount_over *ℤ z) later
    ∙ joined M (g.reward s a c) (pos unit) (pos g.row_total) (pos g.discount_under) (pos g.discount_over) (row a)
  where
    none : (z : ℤ) → pos 0 *ℤ z ≡ pos 0
    none z = omega (arith, ints)

    one : (x : Bool) (r k : ℤ) → pos (cond x mix_total 0) *ℤ r *ℤ k ≡ pos (cond x 1 0) *ℤ (pos mix_total *ℤ r *ℤ k)
    one true r k = omega (arith, ints)
    one false r k = ap (λ (z : ℤ). z *ℤ k) (none r) ∙ none k ∙ sym (none (pos mix_total *ℤ r *ℤ k))

    out : (w x m v : ℤ) → w *ℤ (x *ℤ (m *ℤ v)) ≡ x *ℤ (m *ℤ (w *ℤ v))
    out w x m v = simp products (omega (arith, sums))

    joined : (m r e d q p x : ℤ) → m *ℤ r *ℤ ((e *ℤ d) *ℤ q) +ℤ p *ℤ (m *ℤ x) ≡ m *ℤ (e *ℤ r *ℤ (d *ℤ q) +ℤ p *ℤ x)
    joined m r e d q p x = simp products (omega (arith, sums))

pub always-stands : (g : GameData) → IsGame g → (a : ℕ) (vector : List ℤ) (nodes : ℕ → Node) → a < g.shape.own_actions →
    IsSeed (numbers g) (span g) a (at vector) → ((t : ℕ) → (nodes a).vector t ≡ at vector t) → NodeStands (numbers g) nodes (node_of (always_node g a vector))
always-stands g h a vector nodes la seed same s c ls lc =
    let n = numbers g in
    ends _ _ _ _
    (turn-out (pos mix_total) (at vector s) (pos n.row_total) (pos n.discount_under))
    (le-mulℤ mix_total (at vector s *ℤ pos (n.row_total * n.discount_under)) (stage_worth n a (at vector) s c)
    ((seeds-stand n (span g) a (at vector) (keeps-span g h) la seed).0 s c ls lc))
    (sym (always-worth n (node_of (always_node g a vector)) nodes a s c (at vector) la
    (λ b lb. ap unsigned_abs (placed-at g.shape.own_actions a mix_total b la lb))
    (λ b o t lb lo lt. steps-worth g nodes vector a b o t lo ∙ ap (λ (z : ℤ). pos (cond (b == a) 1 0) *ℤ (pos mix_total *ℤ z)) (same t))))
  where
    turn-out : (m v d q : ℤ) → v *ℤ ((m *ℤ d) *ℤ q) ≡ m *ℤ (v *ℤ (d *ℤ q))
    turn-out m v d q = simp products (omega (arith, sums))

    ends : (x y z w : ℤ) → x ≡ y → y ≤ℤ z → z ≡ w → x ≤ℤ w
    ends x y z w e h f = omega (arith, ints)
