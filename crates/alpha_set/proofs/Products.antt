-- The states that have mass, step by step, and how large their product with a vector is.
use Rattle.std.proofs.Common.{◌≡◌, ℕ, ◌+◌, ◌*◌, ◌^◌, ◌<◌, ◌≤◌, ◌⊎◌, inl, inr, List, [], ◌∷◌, ◌++◌, length, get_or, of_z, set, take, refl, ap, arith, sym, subst, ◌∙◌}
use Rattle.std.specs.Prelude.{ℤ, pos, negsuc, neg_ℤ, ◌+ℤ◌, ◌*ℤ◌, ◌≤ℤ◌, ◌<ℤ◌, unsigned_abs, FitsSigned, sum_by}
use Rattle.std.specs.List.{AllByRecursion}
use Rattle.std.specs.Int.{w64, w128}
use Rattle.std.proofs.Math.Nat.{mul-le-mul_left, mul-le-mul_right}
use Rattle.std.proofs.lemmas.Int.{ints, fits_signed_from_abs, unsigned_abs-mul}
use Rattle.std.proofs.lemmas.List.{get_or-map, length-append, length-map, take_more_set}
use Rattle.std.proofs.lemmas.List.Sums.{sum_by-cons, sum_by_more, sum_by_more_le}
use Rattle.scaled_num.specs.Share.{at}
use Rattle.scaled_num.specs.Sums.{sum_of, total}
use Rattle.scaled_num.proofs.Products.{sums, abs-add}
use Rattle.scaled_num.proofs.Sums.{each-append, each-at, total-append, total-places, total-same, each, total-below-more}
use Rattle.game_model.specs.Game.{GameData, IsWithin, span}
use Rattle.game_model.proofs.Pay.{each-from}
use Rattle.game_model.proofs.Sizes.{total-more}
use Rattle.alpha_set.specs.Members.{data_of, most_nodes, node_data}
use Rattle.alpha_set.specs.Nodes.{NodeData, NodeFits, no_node}
use Rattle.alpha_set.specs.Products.{AreNarrow, AreShort, CanMultiply, HaveNarrowEntries, IsFirstBest, IsGathered, node_product_of}
use Rattle.alpha_set.specs.Worth.{AreWeighed, IsWorth}
use Rattle.alpha_set.specs.declared.nodes.Node.{Node as NodeParts}
use Rattle.alpha_set.specs.declared.worth.Portion.{Portion}
use Rattle.alpha_set.proofs.Wide.{wide}

abbrev pub portion : ℕ → ℤ → Portion
portion state mass = record { state = state; mass = mass }

abbrev pub none : Portion
none = portion 0 (pos 0)

-- ---- gathering
later : (i : ℕ) (portions : List Portion) → AllByRecursion (λ (p : Portion). p.state < i) portions → AllByRecursion (λ (p : Portion). p.state < i + 1) portions
later i portions h = each-from (λ (p : Portion). p.state < i) (λ (p : Portion). p.state < i + 1) portions (λ p l. omega arith) h

pub gathered-skip : (mass : List ℤ) (i : ℕ) (portions : List Portion) → at mass i ≡ pos 0 → IsGathered mass i portions → IsGathered mass (i + 1) portions
gathered-skip mass i portions empty h = record {
  few = omega (arith, h.few);
  inside = later i portions h.inside;
  drawn = h.drawn;
  positive = h.positive;
  same = λ f.
      let nothing : at mass i *ℤ f i ≡ pos 0 = ap (λ (z : ℤ). z *ℤ f i) empty ∙ none_times (f i) in
      h.same f ∙ omega (arith, sums, nothing, total-below-more (λ s. at mass s *ℤ f s) i);
}
  where
    none_times : (z : ℤ) → pos 0 *ℤ z ≡ pos 0
    none_times z = omega (arith, ints)

pub gathered-more : (mass : List ℤ) (i : ℕ) (portions : List Portion) → pos 0 ≤ℤ at mass i → IsGathered mass i portions → IsGathered mass (i + 1) (portions ++ portion i (at mass i) ∷ [])
gathered-more mass i portions low h = record {
  few = omega (arith, h.few, length-append portions (portion i (at mass i) ∷ []));
  inside = each-append (λ (p : Portion). p.state < i + 1) portions (portion i (at mass i) ∷ []) (later i portions h.inside) (omega arith, tt);
  drawn = each-append (λ (p : Portion). p.mass ≡ at mass p.state) portions (portion i (at mass i) ∷ []) h.drawn (refl, tt);
  positive = each-append (λ (p : Portion). pos 0 ≤ℤ p.mass) portions (portion i (at mass i) ∷ []) h.positive (low, tt);
  same = λ f.
      total-append (λ (p : Portion). p.mass *ℤ f p.state) portions (portion i (at mass i) ∷ [])
      ∙ omega (arith, sums, h.same f, total-below-more (λ s. at mass s *ℤ f s) i);
}

-- ---- the product, entry by entry
abbrev pub size : Portion → ℕ
size p = unsigned_abs p.mass

abbrev pub term : List ℤ → Portion → ℤ
term vector p = p.mass *ℤ at vector p.state

-- the sum over the first portions
pub record SumSoFar (portions : List Portion) (vector : List ℤ) (i : ℕ) (sum : ℤ) : Type 0 where
  pub is : sum ≡ total (term vector) (take i portions)
  pub bounded : (most : ℕ) → AllByRecursion (λ x. unsigned_abs x ≤ most) vector → unsigned_abs sum ≤ sum_by size (take i portions) * most

pub record NextPortion (portions : List Portion) (vector : List ℤ) (i : ℕ) (sum : ℤ) : Type 0 where
  pub product_fits : FitsSigned w128 (term vector (get_or portions i none))
  pub sum_fits : FitsSigned w128 (sum +ℤ term vector (get_or portions i none))
  pub so_far : SumSoFar portions vector (i + 1) (sum +ℤ term vector (get_or portions i none))

pub next-portion : (portions : List Portion) (vector : List ℤ) (i : ℕ) (sum : ℤ) → CanMultiply portions vector → i < length portions → SumSoFar portions vector i sum → NextPortion portions vector i sum
next-portion portions vector i sum can l so_far =
    let p : Portion = get_or portions i none in
    let x : ℤ = at vector p.state in
    let inside : p.state < length vector = each-at (λ (p : Portion). p.state < length vector) none portions i can.inside l in
    let small : unsigned_abs x ≤ can.most = each-at (λ x. unsigned_abs x ≤ can.most) (pos 0) vector p.state can.entries inside in
    let more : sum_by size (take i portions) + size p ≤ sum_by size portions = sum_by_more_le size portions i none l in
    let product : unsigned_abs (term vector p) ≤ size p * can.most = rw (unsigned_abs-mul p.mass x) (mul-le-mul_left (size p) small) in
    let highest : (sum_by size (take i portions) + size p) * can.most ≤ sum_by size portions * can.most = mul-le-mul_right can.most more in
    let upto = λ (most : ℕ) (h : AllByRecursion (λ x. unsigned_abs x ≤ most) vector). bound vector portions i sum most inside l h (so_far.bounded most h) in
    record {
      product_fits = fits_signed_from_abs w128 (term vector p) (omega (arith, product, highest));
      sum_fits = fits_signed_from_abs w128 (sum +ℤ term vector p) (omega (arith, upto can.most can.entries, highest));
      so_far = record {
        is = ap (λ z. z +ℤ term vector p) so_far.is ∙ sym (total-more (term vector) portions i none l);
        bounded = λ most h. rw (sum_by_more size portions i none l) (upto most h);
      };
    }
  where
    bound : (vector : List ℤ) (portions : List Portion) (i : ℕ) (sum : ℤ) (most : ℕ) → (get_or portions i none).state < length vector → i < length portions →
        AllByRecursion (λ x. unsigned_abs x ≤ most) vector → unsigned_abs sum ≤ sum_by size (take i portions) * most →
        unsigned_abs (sum +ℤ term vector (get_or portions i none)) ≤ (sum_by size (take i portions) + size (get_or portions i none)) * most
    bound vector portions i sum most inside l h before =
        let p : Portion = get_or portions i none in
        let small : unsigned_abs (at vector p.state) ≤ most = each-at (λ x. unsigned_abs x ≤ most) (pos 0) vector p.state h inside in
        let product : unsigned_abs (term vector p) ≤ size p * most = rw (unsigned_abs-mul p.mass (at vector p.state)) (mul-le-mul_left (size p) small) in
        omega (arith, abs-add sum (term vector p))

-- ---- the short way
narrow : (x : ℤ) → unsigned_abs x < 2 ^ 63 → FitsSigned w64 x
narrow x h = fits_signed_from_abs w64 x (omega arith)

pub narrow-mass : (portions : List Portion) (vector : List ℤ) (i : ℕ) → AreShort portions vector → i < length portions → FitsSigned w64 (get_or portions i none).mass
narrow-mass portions vector i short l = narrow (get_or portions i none).mass (each-at (λ (p : Portion). unsigned_abs p.mass < 2 ^ 63) none portions i short.masses l)

pub narrow-entry : (portions : List Portion) (vector : List ℤ) (i : ℕ) → CanMultiply portions vector → AreShort portions vector → i < length portions →
    FitsSigned w64 (at vector (get_or portions i none).state)
narrow-entry portions vector i can short l =
    let inside : (get_or portions i none).state < length vector = each-at (λ (p : Portion). p.state < length vector) none portions i can.inside l in
    narrow (at vector (get_or portions i none).state) (each-at (λ x. unsigned_abs x < 2 ^ 63) (pos 0) vector (get_or portions i none).state short.entries inside)

-- portions are narrow where the mass is
pub narrow-portions : (mass : List ℤ) (portions : List Portion) → IsGathered mass (length mass) portions → AreNarrow mass → AllByRecursion (λ (p : Portion). unsigned_abs p.mass < 2 ^ 63) portions
narrow-portions mass portions h each = each-both portions h.drawn h.inside
  where
    each-both : (ps : List Portion) → AllByRecursion (λ (p : Portion). p.mass ≡ at mass p.state) ps → AllByRecursion (λ (p : Portion). p.state < length mass) ps →
        AllByRecursion (λ (p : Portion). unsigned_abs p.mass < 2 ^ 63) ps
    each-both [] drawn inside = tt
    each-both (p ∷ ps) drawn inside =
        (subst (λ (x : ℤ). unsigned_abs x < 2 ^ 63) (sym drawn.0) (each-at (λ x. unsigned_abs x < 2 ^ 63) (pos 0) mass p.state each inside.0), each-both ps drawn.1 inside.1)

pub short-all : (nodes : List NodeData) (mass : List ℤ) (portions : List Portion) → IsGathered mass (length mass) portions → AreNarrow mass → HaveNarrowEntries nodes →
    AllByRecursion (λ (node : NodeData). AreShort portions node.vector) nodes
short-all nodes mass portions gathered light entries =
    each-from (λ (node : NodeData). AreNarrow node.vector) (λ (node : NodeData). AreShort portions node.vector) nodes
    (λ node narrow. record { masses = narrow-portions mass portions gathered light; entries = narrow }) entries

-- ---- what the places of an array hold after one more state
pub mass-low : (mass : List ℤ) (i : ℕ) → AllByRecursion (λ x. pos 0 ≤ℤ x) mass → i < length mass → pos 0 ≤ℤ at mass i
mass-low mass i h l = each-at (λ x. pos 0 ≤ℤ x) (pos 0) mass i h l

pub zero-from : (x : ℤ) → pos 0 ≤ℤ x → of_z w128 x ≡ 0 → x ≡ pos 0
zero-from (pos n) low e = ap pos e
zero-from (negsuc n) low e = absurd (omega (arith, ints))

pub gathered-put : (mass : List ℤ) (i count : ℕ) (places : List Portion) → pos 0 ≤ℤ at mass i → count < length places →
    IsGathered mass i (take count places) → IsGathered mass (i + 1) (take (count + 1) (set places count (portion i (at mass i))))
gathered-put mass i count places low l h =
    subst (IsGathered mass (i + 1)) (sym (take_more_set places count (portion i (at mass i)) l)) (gathered-more mass i (take count places) low h)

-- ---- the first of the greatest, with one more number
pub best-more : (f : ℕ → ℤ) (count number : ℕ) (value new : ℤ) → new ≡ f count → value <ℤ new → IsFirstBest f count value number → IsFirstBest f (count + 1) new count
best-more f count number value new is more h = record {
  inside = omega arith;
  has = is;
  greatest = λ i l. elim (split i count l) [ inl b ↦ omega (arith, ints, h.greatest i b) | inr e ↦ subst (λ (k : ℕ). f k ≤ℤ new) (sym e) (omega (arith, ints, is)) ];
  first = λ i l. omega (arith, ints, h.greatest i l);
}
  where
    split : (i n : ℕ) → i < n + 1 → (i < n) ⊎ (i ≡ n)
    split i n l = search arith

pub best-same : (f : ℕ → ℤ) (count number : ℕ) (value new : ℤ) → new ≡ f count → new ≤ℤ value → IsFirstBest f count value number → IsFirstBest f (count + 1) value number
best-same f count number value new is less h = record {
  inside = omega (arith, h.inside);
  has = h.has;
  greatest = λ i l. elim (split i count l) [ inl b ↦ h.greatest i b | inr e ↦ subst (λ (k : ℕ). f k ≤ℤ value) (sym e) (omega (arith, ints, is)) ];
  first = h.first;
}
  where
    split : (i n : ℕ) → i < n + 1 → (i < n) ⊎ (i ≡ n)
    split i n l = search arith

-- ---- the nodes of a game
pub node-vector : (nodes : List NodeParts) (k : ℕ) (d : NodeParts) → k < length nodes → (get_or nodes k d).vector.items ≡ (get_or (data_of nodes) k no_node).vector
node-vector nodes k d l = ap (λ (node : NodeData). node.vector) (sym (get_or-map node_data nodes k d no_node l))

pub can-at : (nodes : List NodeParts) (portions : List Portion) (k : ℕ) → AllByRecursion (λ (node : NodeData). CanMultiply portions node.vector) (data_of nodes) → k < length nodes →
    CanMultiply portions (get_or (data_of nodes) k no_node).vector
can-at nodes portions k h l = each-at (λ (node : NodeData). CanMultiply portions node.vector) no_node (data_of nodes) k h (omega (arith, length-map nodes node_data))

pub short-at : (nodes : List NodeParts) (portions : List Portion) (k : ℕ) → AllByRecursion (λ (node : NodeData). AreShort portions node.vector) (data_of nodes) → k < length nodes →
    AreShort portions (get_or (data_of nodes) k no_node).vector
short-at nodes portions k h l = each-at (λ (node : NodeData). AreShort portions node.vector) no_node (data_of nodes) k h (omega (arith, length-map nodes node_data))

-- the mass of the portions is the mass
sizes-are : (portions : List Portion) → AllByRecursion (λ (p : Portion). pos 0 ≤ℤ p.mass) portions → pos (sum_by size portions) ≡ total (λ (p : Portion). p.mass *ℤ pos 1) portions
sizes-are [] h = refl
sizes-are (p ∷ ps) h = let low = h.0 in omega (arith, ints, sum_by-cons size p ps, sizes-are ps h.1)

pub gathered-size : (mass : List ℤ) (portions : List Portion) → IsGathered mass (length mass) portions → pos (sum_by size portions) ≡ sum_of mass
gathered-size mass portions h =
    sizes-are portions h.positive
    ∙ h.same (λ s. pos 1)
    ∙ total-places (λ x. x *ℤ pos 1) (pos 0) mass
    ∙ total-same (λ x. x *ℤ pos 1) (λ x. x) mass (each once mass)
  where
    once : (x : ℤ) → x *ℤ pos 1 ≡ x
    once x = omega (arith, ints)

mass-room : (n d s q : ℕ) → n ≤ 2 ^ 36 * d → d * s * q ≤ 2 ^ 88 → 1 ≤ q → n * s ≤ 2 ^ 124
mass-room n d s q most wide some =
    let first : n * s ≤ 2 ^ 36 * d * s = mul-le-mul_right s most in
    let second : d * s * 1 ≤ d * s * q = mul-le-mul_left (d * s) some in
    omega arith

within : (n : ℕ) (x : ℤ) → IsWithin (neg_ℤ (pos n)) (pos n) x → unsigned_abs x ≤ n
within n x h = let low = h.0 in let high = h.1 in omega (arith, ints)

pub can-all : (nodes : List NodeData) (mass : List ℤ) (portions : List Portion) → AreWeighed nodes mass → IsGathered mass (length mass) portions →
    AllByRecursion (λ (node : NodeData). CanMultiply portions node.vector) nodes
can-all nodes mass portions h gathered =
    let g : GameData = h.game in
    let d = h.accepted.shape.row_total.0 in
    let p = h.accepted.shape.discount.0 in
    let q = h.accepted.shape.discount.1 in
    let some : 1 ≤ unsigned_abs g.shape.discount.1 = omega (arith, ints) in
    let all : pos (sum_by size portions) ≤ℤ (pos (2 ^ 36) *ℤ g.shape.row_total) = subst (λ (z : ℤ). z ≤ℤ (pos (2 ^ 36) *ℤ g.shape.row_total)) (sym (gathered-size mass portions gathered)) h.right.most in
    let light : sum_by size portions ≤ 2 ^ 36 * unsigned_abs g.shape.row_total = omega (arith, ints) in
    each-from (NodeFits g most_nodes) (λ (node : NodeData). CanMultiply portions node.vector) nodes
    (λ node fits. record {
      inside = each-from (λ (p : Portion). p.state < length mass) (λ (p : Portion). p.state < length node.vector) portions (λ p l. omega (arith, h.right.long, fits.long)) gathered.inside;
      most = span g;
      entries = each-from (IsWithin (neg_ℤ (pos (span g))) (pos (span g))) (λ x. unsigned_abs x ≤ span g) node.vector (λ x b. within (span g) x b) fits.entries;
      room = mass-room (sum_by size portions) (unsigned_abs g.shape.row_total) (span g) (unsigned_abs g.shape.discount.1) light (wide g h.accepted) some;
    }) h.fit

-- the first of the greatest products is the worth
pub worth-from : (nodes : List NodeData) (mass : List ℤ) (portions : List Portion) (count number : ℕ) (value : ℤ) → count ≡ length nodes → IsGathered mass (length mass) portions →
    IsFirstBest (node_product_of nodes portions) count value number → IsWorth nodes mass value number
worth-from nodes mass portions count number value long gathered best =
    let same = λ (i : ℕ). gathered.same (λ s. at (get_or nodes i no_node).vector s) in
    record {
      inside = omega (arith, best.inside);
      has = best.has ∙ same number;
      greatest = λ i l. subst (λ (z : ℤ). z ≤ℤ value) (same i) (best.greatest i (omega arith));
      first = λ i l. subst (λ (z : ℤ). z <ℤ value) (same i) (best.first i l);
    }
