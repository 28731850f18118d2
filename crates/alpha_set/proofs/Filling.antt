-- A table filled step by step.
use Rattle.std.proofs.Common.{◌≡◌, ℕ, zero, suc, ◌+◌, ◌*◌, ◌^◌, ◌<◌, ◌≤◌, Bool, true, false, cond, ◌&&◌, ◌==◌, List, [], ◌∷◌, length, map, get_or, take, filter, replicate, refl, ap, arith, sym, subst, ◌∙◌}
use Rattle.std.specs.Prelude.{ℤ, pos, neg_ℤ, ◌+ℤ◌, ◌*ℤ◌, ◌≤ℤ◌, unsigned_abs, sum_by}
use Rattle.std.specs.List.{AllByRecursion}
use Rattle.std.proofs.Math.Nat.{mul-le-mul_left, mul-le-mul_right}
use Rattle.std.proofs.lemmas.Int.{ints, unsigned_abs-mul}
use Rattle.std.proofs.lemmas.List.{take_all}
use Rattle.std.proofs.lemmas.List.Sums.{sum_by-cons, sum_by-take-le}
use Rattle.scaled_num.specs.Sums.{total}
use Rattle.scaled_num.proofs.Sums.{each-at}
use Rattle.game_model.specs.Branches.{Branch, Continuation, IsBranch, branch_of, branches_at, continuation_of, mix_total}
use Rattle.game_model.specs.Game.{GameData, IsGame, IsWithin, numbers, span}
use Rattle.game_model.proofs.Games.{weight-abs}
use Rattle.game_model.proofs.Pay.{each-from}
use Rattle.game_model.proofs.Sizes.{total-more}
use Rattle.game_model.proofs.Worth.{span-small, total-bound}
use Rattle.alpha_set.specs.Nodes.{NodeData, NodeFits, no_node, node_of, nodes_of, steps_worth}
use Rattle.alpha_set.specs.Members.{HoldsWorths, IsMember, IsTable, brought, data_of, entry_at, most_nodes, node_data, table_length, table_index}
use Rattle.alpha_set.specs.declared.nodes.Node.{Node as NodeParts}
use Rattle.game_model.specs.declared.branches.Branch.{Branch as StepParts}
use Rattle.scaled_num.proofs.Each.{each-of-map, get-map}

each-take : {X : Type 0} (P : X → Type 0) (i : ℕ) (xs : List X) → AllByRecursion P xs → AllByRecursion P (take i xs)
each-take P zero xs h = tt
each-take P (suc i) [] h = tt
each-take P (suc i) (x ∷ xs) h = (h.0, each-take P i xs h.1)

-- the vector of a node by its number
abbrev pub vector_of : List NodeParts → ℕ → List ℤ
vector_of nodes k = (get_or (data_of nodes) k no_node).vector

abbrev pub step_worth : List NodeParts → ℕ → ℕ → ℕ → StepParts → ℤ
step_worth nodes a o t step = brought step (vector_of nodes step.k) a o t

abbrev step_weight : ℕ → ℕ → StepParts → ℕ
step_weight a o step = cond ((step.a == a) && (step.o == o)) (unsigned_abs step.weight) 0

-- the sum over all steps is what the steps are worth
pub all-steps : (nodes : List NodeParts) (vector mix : List ℤ) (a o t : ℕ) (steps : List StepParts) → AllByRecursion (λ (step : StepParts). pos 1 ≤ℤ step.weight) steps →
    total (step_worth nodes a o t) steps ≡ steps_worth (nodes_of (data_of nodes)) (node_of (record { vector = vector; mix = mix; next = map branch_of steps })) a o t
all-steps nodes vector mix a o t [] h = refl
all-steps nodes vector mix a o t (x ∷ xs) h =
    let v : ℤ = get_or (vector_of nodes x.k) t (pos 0) in
    let worth = λ (step : Continuation). pos step.weight *ℤ (nodes_of (data_of nodes) step.member).vector t in
    let first : Continuation = continuation_of (branch_of x) in
    let others : List Continuation = filter (λ (step : Continuation). (step.own == a) && (step.seen == o)) (map continuation_of (map branch_of xs)) in
    let more : x.weight *ℤ v ≡ pos (unsigned_abs x.weight) *ℤ v = ap (λ (z : ℤ). z *ℤ v) (weight-abs x.weight h.0) in
    elim ((x.a == a) && (x.o == o)) as (λ (b : Bool). cond b (x.weight *ℤ v) (pos 0) +ℤ total (step_worth nodes a o t) xs ≡ total worth (cond b (first ∷ others) others)) [
      | true ↦ ap (λ (z : ℤ). z +ℤ total (step_worth nodes a o t) xs) more ∙ ap (λ (z : ℤ). pos (unsigned_abs x.weight) *ℤ v +ℤ z) (all-steps nodes vector mix a o t xs h.1)
      | false ↦ none-more (total (step_worth nodes a o t) xs) ∙ all-steps nodes vector mix a o t xs h.1
    ]
  where
    none-more : (z : ℤ) → pos 0 +ℤ z ≡ z
    none-more z = omega (arith, ints)

-- the weights after an own action and an observation
all-weights : (a o : ℕ) (steps : List StepParts) → AllByRecursion (λ (step : StepParts). pos 1 ≤ℤ step.weight) steps →
    pos (sum_by (step_weight a o) steps) ≡ total (λ (b : Branch). b.weight) (branches_at (map branch_of steps) a o)
all-weights a o [] h = refl
all-weights a o (x ∷ xs) h =
    let others : List Branch = branches_at (map branch_of xs) a o in
    ap pos (sum_by-cons (step_weight a o) x xs)
    ∙ elim ((x.a == a) && (x.o == o)) as (λ (b : Bool). pos (cond b (unsigned_abs x.weight) 0 + sum_by (step_weight a o) xs) ≡ total (λ (b : Branch). b.weight) (cond b (branch_of x ∷ others) others)) [
      | true ↦ joined (unsigned_abs x.weight) (sum_by (step_weight a o) xs) ∙ ap (λ (z : ℤ). z +ℤ pos (sum_by (step_weight a o) xs)) (sym (weight-abs x.weight h.0)) ∙ ap (λ (z : ℤ). x.weight +ℤ z) (all-weights a o xs h.1)
      | false ↦ ap pos (nothing (sum_by (step_weight a o) xs)) ∙ all-weights a o xs h.1
    ]
  where
    joined : (m n : ℕ) → pos (m + n) ≡ pos m +ℤ pos n
    joined m n = refl

    nothing : (n : ℕ) → 0 + n ≡ n
    nothing n = omega arith

-- how large a step's part of an entry is
step-small : (nodes : List NodeParts) (a o t : ℕ) (most : ℕ) (step : StepParts) → unsigned_abs (get_or (vector_of nodes step.k) t (pos 0)) ≤ most → unsigned_abs (step_worth nodes a o t step) ≤ step_weight a o step * most
step-small nodes a o t most step small =
    let v : ℤ = get_or (vector_of nodes step.k) t (pos 0) in
    elim ((step.a == a) && (step.o == o)) as (λ (b : Bool). unsigned_abs (cond b (step.weight *ℤ v) (pos 0)) ≤ cond b (unsigned_abs step.weight) 0 * most) [
      | true ↦ rw (unsigned_abs-mul step.weight v) (mul-le-mul_left (unsigned_abs step.weight) small)
      | false ↦ omega arith
    ]

-- the nodes that steps name
pub record Named (g : GameData) (nodes : List NodeParts) (k : ℕ) : Type 0 where
  pub long : length (vector_of nodes k) ≡ g.shape.states
  pub each : AllByRecursion (λ x. unsigned_abs x ≤ span g) (vector_of nodes k)

within : (V : ℕ) (x : ℤ) → IsWithin (neg_ℤ (pos V)) (pos V) x → unsigned_abs x ≤ V
within V x h = let low = h.0 in let high = h.1 in omega (arith, ints)

length-map : {X Y : Type 0} (f : X → Y) (xs : List X) → length (map f xs) ≡ length xs
length-map f [] = refl
length-map f (x ∷ xs) = ap suc (length-map f xs)

pub named : (g : GameData) (nodes : List NodeParts) → AllByRecursion (NodeFits g most_nodes) (data_of nodes) → (k : ℕ) → k < length nodes → Named g nodes k
named g nodes each k l =
    let fits : NodeFits g most_nodes (get_or (data_of nodes) k no_node) = each-at (NodeFits g most_nodes) no_node (data_of nodes) k each (subst (λ (n : ℕ). k < n) (sym (length-map node_data nodes)) l) in
    record {
      long = fits.long;
      each = each-from (IsWithin (neg_ℤ (pos (span g))) (pos (span g))) (λ x. unsigned_abs x ≤ span g) (vector_of nodes k) (λ x h. within (span g) x h) fits.entries;
    }

entry-small : (g : GameData) (nodes : List NodeParts) (k t : ℕ) → Named g nodes k → t < g.shape.states → unsigned_abs (get_or (vector_of nodes k) t (pos 0)) ≤ span g
entry-small g nodes k t h l = each-at (λ x. unsigned_abs x ≤ span g) (pos 0) (vector_of nodes k) t h.each (subst (λ (n : ℕ). t < n) (sym h.long) l)

-- how large the sum over the first steps is
pub first-small : (g : GameData) (nodes : List NodeParts) (node : NodeParts) → IsMember g nodes node → (i a o t : ℕ) → a < g.shape.own_actions → o < g.shape.observations → t < g.shape.states →
    unsigned_abs (total (step_worth nodes a o t) (take i node.next.items)) ≤ mix_total * span g
first-small g nodes node h i a o t la lo lt =
    let steps : List StepParts = node.next.items in
    let positive : AllByRecursion (λ (step : StepParts). pos 1 ≤ℤ step.weight) steps =
    each-from (λ (step : StepParts). IsBranch (numbers g) most_nodes (pos mix_total) (branch_of step)) (λ (step : StepParts). pos 1 ≤ℤ step.weight) steps (λ step b. b.weight.0) (each-of-map (IsBranch (numbers g) most_nodes (pos mix_total)) branch_of steps h.fits.next.each) in
    let small : AllByRecursion (λ (step : StepParts). unsigned_abs (step_worth nodes a o t step) ≤ step_weight a o step * span g) steps =
    each-from (λ (step : StepParts). step.k < length nodes) (λ (step : StepParts). unsigned_abs (step_worth nodes a o t step) ≤ step_weight a o step * span g) steps
    (λ step l. step-small nodes a o t (span g) step (entry-small g nodes step.k t (named g nodes h.each step.k l) lt)) (each-of-map (λ (b : Branch). b.member < length nodes) branch_of steps h.named) in
    let sum : pos (sum_by (step_weight a o) steps) ≡ get_or node.mix.items a (pos 0) = all-weights a o steps positive ∙ h.fits.sums a o la lo in
    let weight = each-at (IsWithin (pos 0) (pos mix_total)) (pos 0) node.mix.items a h.fits.mix.each (subst (λ (n : ℕ). a < n) (sym h.fits.mix.long) la) in
    let high : pos (sum_by (step_weight a o) steps) ≤ℤ pos mix_total = subst (λ (z : ℤ). z ≤ℤ pos mix_total) (sym sum) weight.1 in
    let upto : sum_by (step_weight a o) (take i steps) ≤ mix_total = omega (arith, ints, sum_by-take-le (step_weight a o) steps i) in
    omega (arith, total-bound (step_worth nodes a o t) (step_weight a o) (span g) (take i steps) (each-take _ i steps small), mul-le-mul_right (span g) upto)

-- the table after the first steps
pub record Filled (g : GameData) (nodes : List NodeParts) (steps : List StepParts) (i : ℕ) (table : List ℤ) : Type 0 where
  pub long : length table ≡ table_length
  pub entries : (a o t : ℕ) → o < 8 → t < g.shape.states → entry_at table a o t ≡ total (step_worth nodes a o t) (take i steps)

abbrev pub no_step : StepParts
no_step = record { a = 0; o = 0; k = 0; weight = pos 0 }

pub vector-is : (nodes : List NodeParts) (k : ℕ) (d : NodeParts) → k < length nodes → (get_or nodes k d).vector.items ≡ vector_of nodes k
vector-is nodes k d l = ap (λ (node : NodeData). node.vector) (sym (get-map node_data nodes k d no_node l))

-- what the next step keeps
pub record NextStep (g : GameData) (nodes : List NodeParts) (steps : List StepParts) (i : ℕ) (vector table : List ℤ) : Type 0 where
  pub inside : (get_or steps i no_step).k < length nodes
  pub own : (get_or steps i no_step).a < 6
  pub seen : (get_or steps i no_step).o < 8
  pub weight : IsWithin (pos 1) (pos mix_total) (get_or steps i no_step).weight
  pub long : length vector ≡ g.shape.states
  pub few : length vector ≤ 16
  pub entries : AllByRecursion (λ x. unsigned_abs x ≤ 2 ^ 66) vector
  pub small : (t : ℕ) → t < length vector → unsigned_abs (entry_at table (get_or steps i no_step).a (get_or steps i no_step).o t) ≤ 2 ^ 82

named-step : (g : GameData) (nodes : List NodeParts) (node : NodeParts) → IsMember g nodes node → (i : ℕ) → i < length node.next.items → (get_or node.next.items i no_step).k < length nodes
named-step g nodes node h i l = each-at (λ (step : StepParts). step.k < length nodes) no_step node.next.items i (each-of-map (λ (b : Branch). b.member < length nodes) branch_of node.next.items h.named) l

step-in : (g : GameData) (nodes : List NodeParts) (node : NodeParts) → IsMember g nodes node → (i : ℕ) → i < length node.next.items → IsBranch (numbers g) most_nodes (pos mix_total) (branch_of (get_or node.next.items i no_step))
step-in g nodes node h i l =
    each-at (λ (step : StepParts). IsBranch (numbers g) most_nodes (pos mix_total) (branch_of step)) no_step node.next.items i (each-of-map (IsBranch (numbers g) most_nodes (pos mix_total)) branch_of node.next.items h.fits.next.each) l

at-step : (g : GameData) → IsGame g → (nodes : List NodeParts) (node : NodeParts) → IsMember g nodes node → (i : ℕ) (table : List ℤ) → Filled g nodes node.next.items i table → i < length node.next.items →
    NextStep g nodes node.next.items i (vector_of nodes (get_or node.next.items i no_step).k) table
at-step g right nodes node h i table so_far l =
    let step : StepParts = get_or node.next.items i no_step in
    let inside : step.k < length nodes = named-step g nodes node h i l in
    let branch = step-in g nodes node h i l in
    let its = named g nodes h.each step.k inside in
    let few_own = right.shape.own_actions.1 in
    let few_seen = right.shape.observations.1 in
    let few_states = right.shape.states.1 in
    let own : step.a < g.shape.own_actions = branch.own in
    let seen : step.o < g.shape.observations = branch.seen in
    let seen8 : step.o < 8 = omega arith in
    record {
      inside = inside;
      own = omega arith;
      seen = seen8;
      weight = branch.weight;
      long = its.long;
      few = omega (arith, its.long);
      entries = each-from (λ x. unsigned_abs x ≤ span g) (λ x. unsigned_abs x ≤ 2 ^ 66) (vector_of nodes step.k) (λ x b. omega (arith, span-small g right)) its.each;
      small = λ t lt.
          let below_states : t < g.shape.states = subst (λ (n : ℕ). t < n) its.long lt in
          subst (λ (z : ℤ). unsigned_abs z ≤ 2 ^ 82) (sym (so_far.entries step.a step.o t seen8 below_states))
          (omega (arith, first-small g nodes node h i step.a step.o t own seen below_states, span-small g right));
    }

pub next-step : (g : GameData) → IsGame g → (nodes : List NodeParts) (node : NodeParts) → IsMember g nodes node → (i : ℕ) (table : List ℤ) → Filled g nodes node.next.items i table →
    (steps : List StepParts) → steps ≡ node.next.items → i < length steps → (vector : List ℤ) → vector ≡ vector_of nodes (get_or steps i no_step).k → NextStep g nodes steps i vector table
next-step g right nodes node h i table so_far steps e l vector same =
    subst (λ (v : List ℤ). NextStep g nodes steps i v table) (sym same)
    (subst (λ (ss : List StepParts). i < length ss → NextStep g nodes ss i (vector_of nodes (get_or ss i no_step).k) table) (sym e) (at-step g right nodes node h i table so_far) l)

pub inside-step : (g : GameData) (nodes : List NodeParts) (node : NodeParts) → IsMember g nodes node → (i : ℕ) (steps : List StepParts) → steps ≡ node.next.items → i < length steps → (get_or steps i no_step).k < length nodes
inside-step g nodes node h i steps e = subst (λ (ss : List StepParts). i < length ss → (get_or ss i no_step).k < length nodes) (sym e) (named-step g nodes node h i)

-- one more step in the table
pub filled-more : (g : GameData) (nodes : List NodeParts) (all steps : List StepParts) (i : ℕ) (vector table new : List ℤ) → steps ≡ all → i < length steps → Filled g nodes all i table → length new ≡ table_length →
    length vector ≡ g.shape.states → vector ≡ vector_of nodes (get_or steps i no_step).k →
    ((a o t : ℕ) → o < 8 → t < length vector → entry_at new a o t ≡ entry_at table a o t +ℤ brought (get_or steps i no_step) vector a o t) → Filled g nodes all (i + 1) new
filled-more g nodes all steps i vector table new e l so_far long states same added =
    record {
      long = long;
      entries = λ a o t lo lt.
          added a o t lo (subst (λ (n : ℕ). t < n) (sym states) lt)
          ∙ ap (λ (z : ℤ). z +ℤ brought (get_or steps i no_step) vector a o t) (so_far.entries a o t lo lt)
          ∙ ap (λ (v : List ℤ). total (step_worth nodes a o t) (take i all) +ℤ brought (get_or steps i no_step) v a o t) same
          ∙ subst (λ (ss : List StepParts). i < length ss → total (step_worth nodes a o t) (take i all) +ℤ step_worth nodes a o t (get_or ss i no_step) ≡ total (step_worth nodes a o t) (take (i + 1) all)) (sym e)
          (λ k. sym (total-more (step_worth nodes a o t) all i no_step k)) l;
    }

-- an empty table
entry-none : (n k : ℕ) → get_or (replicate n (pos 0)) k (pos 0) ≡ pos 0
entry-none zero k = refl
entry-none (suc n) zero = refl
entry-none (suc n) (suc k) = entry-none n k

length-none : (n : ℕ) → length (replicate n (pos 0)) ≡ n
length-none zero = refl
length-none (suc n) = ap suc (length-none n)

pub filled-none : (g : GameData) (nodes : List NodeParts) (steps : List StepParts) (table : List ℤ) → table ≡ replicate table_length (pos 0) → Filled g nodes steps 0 table
filled-none g nodes steps table e =
    subst (λ (ts : List ℤ). Filled g nodes steps 0 ts) (sym e) (record { long = length-none table_length; entries = λ a o t lo lt. entry-none table_length (table_index a o t) })

-- a table filled by all steps
pub filled-table : (g : GameData) → IsGame g → (nodes : List NodeParts) (node : NodeParts) → IsMember g nodes node → (i : ℕ) (table : List ℤ) → Filled g nodes node.next.items i table → length node.next.items ≤ i →
    IsTable g table × HoldsWorths g (nodes_of (data_of nodes)) (node_of (node_data node)) table
filled-table g right nodes node h i table filled past =
    let few_seen = right.shape.observations.1 in
    let all : take i node.next.items ≡ node.next.items = take_all i node.next.items past in
    let positive : AllByRecursion (λ (step : StepParts). pos 1 ≤ℤ step.weight) node.next.items =
    each-from (λ (step : StepParts). IsBranch (numbers g) most_nodes (pos mix_total) (branch_of step)) (λ (step : StepParts). pos 1 ≤ℤ step.weight) node.next.items (λ step b. b.weight.0)
    (each-of-map (IsBranch (numbers g) most_nodes (pos mix_total)) branch_of node.next.items h.fits.next.each) in (
      record {
        long = filled.long;
        small = λ a o t la lo lt. subst (λ (z : ℤ). unsigned_abs z ≤ mix_total * span g) (sym (filled.entries a o t (omega arith) lt)) (first-small g nodes node h i a o t la lo lt);
      },
      λ a o t la lo lt.
          filled.entries a o t (omega arith) lt
          ∙ ap (total (step_worth nodes a o t)) all
          ∙ all-steps nodes node.vector.items node.mix.items a o t node.next.items positive,
    )
