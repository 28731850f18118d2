-- Entries that are raised in place, and the node that has them.
use Rattle.std.proofs.Common.{◌≡◌, ℕ, ◌+◌, ◌*◌, ◌<◌, ◌≤◌, Bool, true, List, length, get_or, set, vec_len, refl, ap, arith, inl, inr, ◌⊎◌, sym, subst, ◌∙◌}
use Rattle.std.specs.Prelude.{ℤ, pos, neg_ℤ, ◌*ℤ◌, ◌≤ℤ◌, ◌<ℤ◌, unsigned_abs}
use Rattle.std.specs.List.{AllByRecursion}
use Rattle.std.specs.Bool.{IsTrue}
use Rattle.std.specs.Int.{int_max}
use Rattle.std.proofs.Math.Nat.{mul-le-mul_left}
use Rattle.std.proofs.lemmas.Int.{ints, clamps, by_lt_z}
use Rattle.std.proofs.lemmas.List.{get_or-set_same, get_or-set_other, length-set, map-set, with_items_is}
use Rattle.std.specs.Vec.{with_items}
use Rattle.scaled_num.specs.Share.{at}
use Rattle.scaled_num.proofs.Each.{each-by-place, get-map}
use Rattle.scaled_num.proofs.Sums.{each-at}
use Rattle.game_model.specs.Branches.{Branch, IsBranch, mix_total}
use Rattle.game_model.specs.Game.{GameData, IsGame, IsWithin, numbers, span}
use Rattle.game_model.proofs.Front.{length-map}
use Rattle.game_model.proofs.Games.{keeps-span}
use Rattle.game_model.proofs.Least.{last-or, quotient-within}
use Rattle.game_model.proofs.Pay.{each-from}
use Rattle.alpha_set.specs.Changes.{HasRisen, IsLifted, IsNowhereLower, IsRaised, IsRaisedVector, NodesStand, divisor_of, with_vector}
use Rattle.alpha_set.specs.Members.{IsMember, data_of, most_nodes, node_data}
use Rattle.alpha_set.specs.Nodes.{NodeData, NodeFits, NodeStands, no_node, node_of, node_worth, nodes_of}
use Rattle.alpha_set.specs.Products.{AreNarrow, HaveNarrowEntries}
use Rattle.alpha_set.specs.declared.nodes.Node.{Node as NodeParts}
use Rattle.alpha_set.proofs.Changing.{AreNowhereLower, each-set, raised-stand, replaced-fit, replaced-rise}
use Rattle.alpha_set.proofs.NodeWorths.{worth-within}

-- the first numbers are raised, and it is known whether one of them rose
pub record RaisedFirst (worths : List ℤ) (divisor : ℤ) (old : List ℤ) (i : ℕ) (new : List ℤ) (risen : Bool) : Type 0 where
  pub long : length new ≡ length old
  pub raised : (k : ℕ) → k < i → IsRaised (at worths k) divisor (at old k) (at new k)
  pub left : (k : ℕ) → i ≤ k → at new k ≡ at old k
  pub rose : IsTrue risen → HasRisen old new
  pub told : (k : ℕ) → k < i → at old k <ℤ at new k → IsTrue risen

max-least : (x y : ℤ) → x ≤ℤ int_max x y
max-least x y = by_lt_z x y (λ h. omega (arith, ints, clamps)) (λ h. omega (arith, ints, clamps))

-- a raised number is not lower
pub raised-higher : (worth divisor old new : ℤ) → IsRaised worth divisor old new → old ≤ℤ new
raised-higher worth divisor old new h = subst (λ (z : ℤ). old ≤ℤ z) (sym h.greater) (max-least old h.quotient)

raised-none_higher : (old x : ℤ) → old ≤ℤ x → x ≤ℤ old → x ≡ old
raised-none_higher old x h k = omega (arith, ints)

never : (x y : ℤ) → x ≡ y → y <ℤ x → ⊥
never x y e l = omega (arith, ints)

-- one more number, which rises
pub raised-more : (worths : List ℤ) (divisor : ℤ) (old new : List ℤ) (i : ℕ) (risen : Bool) (x : ℤ) → i < length new → RaisedFirst worths divisor old i new risen →
    IsRaised (at worths i) divisor (at new i) x → at new i <ℤ x → RaisedFirst worths divisor old (i + 1) (set new i x) true
raised-more worths divisor old new i risen x l so_far raised rises =
    let here : at old i <ℤ at (set new i x) i =
    subst (λ (z : ℤ). at old i <ℤ z) (sym (get_or-set_same new i x (pos 0) l)) (subst (λ (z : ℤ). z <ℤ x) (so_far.left i (omega arith)) rises) in
    record {
      long = length-set new i x ∙ so_far.long;
      raised = λ k b. elim (last-or k i b) [
        | inl c ↦ subst (IsRaised (at worths k) divisor (at old k)) (sym (get_or-set_other new i k x (pos 0) (λ e. omega arith))) (so_far.raised k c)
        | inr e ↦ subst (λ (j : ℕ). IsRaised (at worths j) divisor (at old j) (at (set new i x) j)) (sym e)
            (subst (IsRaised (at worths i) divisor (at old i)) (sym (get_or-set_same new i x (pos 0) l)) (subst (λ (z : ℤ). IsRaised (at worths i) divisor z x) (so_far.left i (omega arith)) raised))
      ];
      left = λ k b. get_or-set_other new i k x (pos 0) (λ e. omega arith) ∙ so_far.left k (omega arith);
      rose = λ t. (i, omega (arith, so_far.long), here);
      told = λ k b r. refl;
    }

-- one more number, which does not rise
pub raised-kept : (worths : List ℤ) (divisor : ℤ) (old new : List ℤ) (i : ℕ) (risen : Bool) (x : ℤ) → RaisedFirst worths divisor old i new risen →
    IsRaised (at worths i) divisor (at new i) x → x ≤ℤ at new i → RaisedFirst worths divisor old (i + 1) new risen
raised-kept worths divisor old new i risen x so_far raised low =
    let same : x ≡ at new i = raised-none_higher (at new i) x (raised-higher (at worths i) divisor (at new i) x raised) low in
    record {
      long = so_far.long;
      raised = λ k b. elim (last-or k i b) [
        | inl c ↦ so_far.raised k c
        | inr e ↦ subst (λ (j : ℕ). IsRaised (at worths j) divisor (at old j) (at new j)) (sym e)
            (subst (λ (z : ℤ). IsRaised (at worths i) divisor z (at new i)) (so_far.left i (omega arith)) (subst (IsRaised (at worths i) divisor (at new i)) same raised))
      ];
      left = λ k b. so_far.left k (omega arith);
      rose = so_far.rose;
      told = λ k b r. elim (last-or k i b) [
        | inl c ↦ so_far.told k c r
        | inr e ↦ absurd (never (at new i) (at old i) (so_far.left i (omega arith)) (subst (λ (j : ℕ). at old j <ℤ at new j) e r))
      ];
    }

-- ---- the node that has them
pub divisor-positive : (g : GameData) → IsGame g → pos 0 <ℤ divisor_of g
divisor-positive g h = let k = keeps-span g h in some (unsigned_abs g.shape.row_total) (unsigned_abs g.shape.discount.1) k.whole (omega (arith, k.discount))
  where
    times : (d q : ℕ) → 1 ≤ d → 1 ≤ q → 1 ≤ d * q
    times d q l m = omega (arith, mul-le-mul_left d m)

    some : (d q : ℕ) → 1 ≤ d → 1 ≤ q → pos 0 <ℤ pos (mix_total * d * q)
    some d q l m = let n : 1 ≤ d * q = times d q l m in omega (arith, ints)

-- a node that fits among some nodes fits among more
pub node-fits-more : (g : GameData) (few many : ℕ) (node : NodeData) → few ≤ many → NodeFits g few node → NodeFits g many node
node-fits-more g few many node l h = record {
  long = h.long;
  entries = h.entries;
  mix = h.mix;
  next = record {
    rising = h.next.rising;
    each = each-from (IsBranch (numbers g) few (pos mix_total)) (IsBranch (numbers g) many (pos mix_total)) node.next (λ b i. record { own = i.own; seen = i.seen; member = omega arith; weight = i.weight }) h.next.each;
  };
  sums = h.sums;
}

pub nodes-fit-more : (g : GameData) (few many : ℕ) (nodes : List NodeData) → few ≤ many → AllByRecursion (NodeFits g few) nodes → AllByRecursion (NodeFits g many) nodes
nodes-fit-more g few many nodes l h = each-from (NodeFits g few) (NodeFits g many) nodes (λ node fits. node-fits-more g few many node l fits) h

-- a node that fits among nodes that fit is a member
pub fitting-member : (g : GameData) (nodes : List NodeParts) (node : NodeParts) → length nodes ≤ most_nodes → AllByRecursion (NodeFits g (length nodes)) (data_of nodes) → NodeFits g (length nodes) (node_data node) →
    IsMember g nodes node
fitting-member g nodes node few each fits = record {
  each = nodes-fit-more g (length nodes) most_nodes (data_of nodes) few each;
  fits = node-fits-more g (length nodes) most_nodes (node_data node) few fits;
  named = each-from (IsBranch (numbers g) (length nodes) (pos mix_total)) (λ (step : Branch). step.member < length nodes) (node_data node).next (λ b i. i.member) fits.next.each;
}

max-cases : (x y : ℤ) → ((int_max x y ≡ x) × (y ≤ℤ x)) ⊎ ((int_max x y ≡ y) × (x ≤ℤ y))
max-cases x y = by_lt_z x y (λ h. inr (omega (arith, ints, clamps), omega (arith, ints))) (λ h. inl (omega (arith, ints, clamps), h))

-- what holds of a number and of a quotient holds of the greater
raised-either : (P : ℤ → Type 0) (worth divisor old new : ℤ) (h : IsRaised worth divisor old new) → P old → P h.quotient → P new
raised-either P worth divisor old new h low high =
    elim (max-cases old h.quotient) [
      | inl m ↦ subst P (sym (h.greater ∙ m.0)) low
      | inr m ↦ subst P (sym (h.greater ∙ m.0)) high
    ]

within-both : (V : ℕ) (x : ℤ) → unsigned_abs x ≤ V → IsWithin (neg_ℤ (pos V)) (pos V) x
within-both V x h = (omega (arith, ints), omega (arith, ints))

through : (x y z : ℤ) → x ≤ℤ y → y ≤ℤ z → x ≤ℤ z
through x y z h k = omega (arith, ints)

-- the raised node fits, and stands where it stood before
pub raised-fits : (g : GameData) → IsGame g → (nodes : List NodeData) (node : NodeData) (vector : List ℤ) → AllByRecursion (NodeFits g most_nodes) nodes → NodeFits g (length nodes) node →
    IsRaisedVector g nodes node vector → NodeFits g (length nodes) (with_vector node vector)
raised-fits g h nodes node vector others fits raised = record {
  long = raised.long;
  entries = each-by-place (IsWithin (neg_ℤ (pos (span g))) (pos (span g))) (pos 0) vector (λ s l.
      let ls : s < g.shape.states = subst (λ (n : ℕ). s < n) raised.long l in
      let r = raised.raised s ls in
      let least = raised.least s ls in
      raised-either (IsWithin (neg_ℤ (pos (span g))) (pos (span g))) (raised.worths s) (divisor_of g) (at node.vector s) (at vector s) r
      (each-at (IsWithin (neg_ℤ (pos (span g))) (pos (span g))) (pos 0) node.vector s fits.entries (subst (λ (n : ℕ). s < n) (sym fits.long) ls))
      (within-both (span g) r.quotient
      (quotient-within (span g) (mix_total * unsigned_abs g.shape.row_total * unsigned_abs g.shape.discount.1) (raised.worths s) r.quotient
      (subst (λ (z : ℤ). unsigned_abs z ≤ span g * (mix_total * unsigned_abs g.shape.row_total * unsigned_abs g.shape.discount.1)) (sym least.some.2)
      (worth-within g h nodes node others fits s least.some.0 ls least.some.1)) r.floor.low r.floor.high)));
  mix = fits.mix;
  next = fits.next;
  sums = fits.sums;
}

pub raised-stands : (g : GameData) (nodes : List NodeData) (node : NodeData) (vector : List ℤ) → IsRaisedVector g nodes node vector →
    NodeStands (numbers g) (nodes_of nodes) (node_of node) → NodeStands (numbers g) (nodes_of nodes) (node_of (with_vector node vector))
raised-stands g nodes node vector raised stands s c ls lc =
    let r = raised.raised s ls in
    let worth : ℤ = node_worth (numbers g) (nodes_of nodes) (node_of node) s c in
    raised-either (λ (z : ℤ). (z *ℤ divisor_of g) ≤ℤ worth) (raised.worths s) (divisor_of g) (at node.vector s) (at vector s) r (stands s c ls lc)
    (through (r.quotient *ℤ divisor_of g) (raised.worths s) worth r.floor.low ((raised.least s ls).each c lc))

pub raised-rises : (g : GameData) (nodes : List NodeData) (node : NodeData) (vector : List ℤ) → IsRaisedVector g nodes node vector → IsNowhereLower g.shape.states node.vector vector
raised-rises g nodes node vector raised s ls = raised-higher (raised.worths s) (divisor_of g) (at node.vector s) (at vector s) (raised.raised s ls)

-- what the code leaves
pub data-at : (nodes : List NodeParts) (number : ℕ) (d : NodeParts) → number < length nodes → node_data (get_or nodes number d) ≡ get_or (data_of nodes) number no_node
data-at nodes number d l = sym (get-map node_data nodes number d no_node l)

-- the entries of a node of a number: as data, and how many they are
pub entries-at : (nodes : List NodeParts) (number : ℕ) (d : NodeParts) (entries : List ℤ) → number < length nodes → entries ≡ (get_or nodes number d).vector.items →
    entries ≡ (get_or (data_of nodes) number no_node).vector
entries-at nodes number d entries l is = is ∙ ap (λ (x : NodeData). x.vector) (data-at nodes number d l)

pub inside-data : (nodes : List NodeParts) (number : ℕ) → number < length nodes → number < length (data_of nodes)
inside-data nodes number l = subst (λ (n : ℕ). number < n) (sym (length-map node_data nodes)) l

pub entries-long : (g : GameData) (nodes : List NodeParts) (number : ℕ) (d : NodeParts) (entries : List ℤ) → AllByRecursion (NodeFits g (length nodes)) (data_of nodes) → number < length nodes →
    entries ≡ (get_or nodes number d).vector.items → length entries ≡ g.shape.states
entries-long g nodes number d entries fit l is =
    let fits : NodeFits g (length nodes) (get_or (data_of nodes) number no_node) = each-at (NodeFits g (length nodes)) no_node (data_of nodes) number fit (inside-data nodes number l) in
    ap length (entries-at nodes number d entries l is) ∙ fits.long

pub lifted-is : (g : GameData) (nodes : List NodeParts) (number : ℕ) (d : NodeParts) (entries : List ℤ) → number < length nodes → length entries ≡ vec_len (get_or nodes number d).vector →
    IsRaisedVector g (data_of nodes) (get_or (data_of nodes) number no_node) entries →
    IsLifted g (data_of nodes) number
    (data_of (set nodes number (record { vector = with_items (get_or nodes number d).vector entries; mix = (get_or nodes number d).mix; next = (get_or nodes number d).next })))
lifted-is g nodes number d entries l long raised =
    let old : NodeParts = get_or nodes number d in
    let new : NodeParts = record { vector = with_items old.vector entries; mix = old.mix; next = old.next } in
    let made : node_data new ≡ with_vector (node_data old) entries = ap (λ (xs : List ℤ). with_vector (node_data old) xs) (with_items_is old.vector entries long) in
    record {
      vector = entries;
      raised = raised;
      members = map-set node_data nodes number new ∙ ap (set (data_of nodes) number) (made ∙ ap (λ (x : NodeData). with_vector x entries) (data-at nodes number d l));
    }

pub vector-written : (nodes : List NodeParts) (number : ℕ) (d : NodeParts) (entries : List ℤ) → number < length nodes → length entries ≡ vec_len (get_or nodes number d).vector →
    (get_or (data_of (set nodes number (record { vector = with_items (get_or nodes number d).vector entries; mix = (get_or nodes number d).mix; next = (get_or nodes number d).next }))) number no_node).vector ≡ entries
vector-written nodes number d entries l long =
    let old : NodeParts = get_or nodes number d in
    let new : NodeParts = record { vector = with_items old.vector entries; mix = old.mix; next = old.next } in
    ap (λ (ms : List NodeData). (get_or ms number no_node).vector) (map-set node_data nodes number new)
    ∙ ap (λ (x : NodeData). x.vector) (get_or-set_same (data_of nodes) number (node_data new) no_node (inside-data nodes number l))
    ∙ with_items_is old.vector entries long

-- the vector of the number is the raised one
pub lifted-vector : (g : GameData) (nodes new : List NodeData) (number : ℕ) → number < length nodes → (h : IsLifted g nodes number new) → (get_or new number no_node).vector ≡ h.vector
lifted-vector g nodes new number l h =
    ap (λ (ms : List NodeData). (get_or ms number no_node).vector) h.members
    ∙ ap (λ (x : NodeData). x.vector) (get_or-set_same nodes number (with_vector (get_or nodes number no_node) h.vector) no_node l)

pub lifted-narrow : (g : GameData) (nodes new : List NodeData) (number : ℕ) → number < length nodes → IsLifted g nodes number new → HaveNarrowEntries nodes → AreNarrow (get_or new number no_node).vector →
    HaveNarrowEntries new
lifted-narrow g nodes new number l h narrow here =
    subst HaveNarrowEntries (sym h.members)
    (each-set (λ (x : NodeData). AreNarrow x.vector) nodes number (with_vector (get_or nodes number no_node) h.vector) narrow (subst AreNarrow (lifted-vector g nodes new number l h) here))

-- ---- the nodes after it
-- all that follows for the nodes
pub record LiftedKeep (g : GameData) (nodes new : List NodeData) : Type 0 where
  pub count : length new ≡ length nodes
  pub higher : AreNowhereLower (numbers g) (nodes_of nodes) (nodes_of new)
  pub fit : AllByRecursion (NodeFits g (length new)) new
  pub stand : NodesStand (numbers g) nodes → NodesStand (numbers g) new

pub lifted-keep : (g : GameData) → IsGame g → (nodes new : List NodeData) (number : ℕ) → length nodes ≤ most_nodes → number < length nodes → AllByRecursion (NodeFits g (length nodes)) nodes →
    IsLifted g nodes number new → LiftedKeep g nodes new
lifted-keep g h nodes new number few l fit lifted =
    let node : NodeData = get_or nodes number no_node in
    let raised = lifted.raised in
    let more : NodeData = with_vector node lifted.vector in
    let fits : NodeFits g (length nodes) node = each-at (NodeFits g (length nodes)) no_node nodes number fit l in
    let all : AllByRecursion (NodeFits g (length (set nodes number more))) (set nodes number more) =
    replaced-fit g nodes number more fit (raised-fits g h nodes node lifted.vector (nodes-fit-more g (length nodes) most_nodes nodes few fit) fits raised) in
    let kept : LiftedKeep g nodes (set nodes number more) = record {
      count = length-set nodes number more;
      higher = replaced-rise (numbers g) nodes number more l (raised-rises g nodes node lifted.vector raised);
      fit = all;
      stand = λ stand. raised-stand (numbers g) nodes number more stand l (raised-rises g nodes node lifted.vector raised) (raised-stands g nodes node lifted.vector raised (stand number l));
    } in
    subst (LiftedKeep g nodes) (sym lifted.members) kept
