-- The numbers of the lower stage program: what the code divides, and that all are narrow.
use Rattle.std.proofs.Common.{◌≡◌, ℕ, ◌*◌, ◌^◌, ◌<◌, ◌≤◌, inl, inr, Bool, true, false, cond, ◌==◌, List, [], ◌∷◌, ◌++◌, filter, get_or, length, map, ap, arith, sym, subst, ◌∙◌}
use Rattle.std.specs.Prelude.{ℤ, pos, neg_ℤ, ◌+ℤ◌, ◌*ℤ◌, ◌≤ℤ◌, sum_by, unsigned_abs}
use Rattle.std.specs.List.{AllByRecursion}
use Rattle.std.proofs.lemmas.Int.{ints}
use Rattle.std.proofs.Math.Nat.{mul-le-mul_right}
use Rattle.scaled_num.specs.Share.{at}
use Rattle.scaled_num.specs.Sums.{below, total}
use Rattle.scaled_num.proofs.Sums.{below-each, each-append, each-at, each-flat_map, each-map}
use Rattle.game_model.specs.Game.{GameData, IsGame, IsWithin, numbers, row_at, span}
use Rattle.game_model.specs.declared.parts.Landing.{Landing}
use Rattle.game_model.proofs.Games.{row-in, row-weights}
use Rattle.game_model.proofs.Worth.{span-small}
use Rattle.alpha_set.specs.Members.{most_nodes}
use Rattle.alpha_set.specs.Nodes.{NodeData, NodeFits, no_node}
use Rattle.belief.specs.Masses.{AreLandings, IsSeen}
use Rattle.belief.proofs.Landings.{landings-seen, row-landings, sum-filter}
use Rattle.simplex.specs.Program.{IsNarrow}
use Rattle.stage_game.specs.Asked.{AreBits}
use Rattle.stage_game.specs.LowerProgram.{going_on_row, lower_worth_row}
use Rattle.stage_game.specs.Masses.{over_pairs}
use Rattle.stage_game.specs.Pairs.{pairs}
use Rattle.stage_game.specs.Scaling.{floor_of, most_scale, paid_above, pay_width, scale, width, worth_rows}
use Rattle.stage_game.specs.Variables.{GoesOn, Plays, Variable, WorthOf, variables}
use Rattle.stage_game.proofs.Appends.{IsInside, each-of-pairs, over-pairs, pairs-inside}
use Rattle.stage_game.proofs.Quotients.{IsSmall, floor-small}
use Rattle.stage_game.proofs.SeenSums.{IsRaised, raised-bounds, seen-sum}
use Rattle.stage_game.proofs.Serving.{AreNarrowOver}
use Rattle.stage_game.proofs.Sizes.{IsQuotient, brings-quotient, over, paid-quotient, under, whole}

pub bits-few : (bits : ℕ) → AreBits bits → 2 ^ bits ≤ most_scale
bits-few bits h = elim h [
  | inl e ↦ subst (λ (b : ℕ). 2 ^ b ≤ most_scale) (sym e) (omega arith)
  | inr h ↦ elim h [
    | inl e ↦ subst (λ (b : ℕ). 2 ^ b ≤ most_scale) (sym e) (omega arith)
    | inr e ↦ subst (λ (b : ℕ). 2 ^ b ≤ most_scale) (sym e) (omega arith)
  ]
]

-- what the seen landings of a row bring with a vector
pub record SeenBring (g : GameData) (s a c o : ℕ) (vector : List ℤ) : Type 0 where
  pub same :
      total (λ (l : Landing). l.weight *ℤ (at vector l.to +ℤ pos (span g))) (filter (IsSeen o) (row_at g s a c))
      ≡ total (λ t. pos ((numbers g).weight s a c o t) *ℤ (at vector t +ℤ pos (span g))) (below g.shape.states)
  pub landings : AreLandings (length vector) (filter (IsSeen o) (row_at g s a c))
  pub raised : IsRaised (whole g * (2 * span g)) (total (λ t. pos ((numbers g).weight s a c o t) *ℤ (at vector t +ℤ pos (span g))) (below g.shape.states))

pub seen-bring : (g : GameData) → IsGame g → (s a c o : ℕ) → s < g.shape.states → a < g.shape.own_actions → c < g.shape.informed_actions →
    (vector : List ℤ) → length vector ≡ g.shape.states → AllByRecursion (IsWithin (neg_ℤ (pos (span g))) (pos (span g))) vector → SeenBring g s a c o vector
seen-bring g h s a c o ls la lc vector long entries =
    let row : List Landing = row_at g s a c in
    let seen_ones : List Landing = filter (IsSeen o) row in
    let all = row-landings g h s a c ls la lc in
    let seen = landings-seen g.shape.states row o all in
    let here : AreLandings (length vector) seen_ones = subst (λ (n : ℕ). AreLandings n seen_ones) (sym long) seen in
    let same = seen-sum g.shape.states row o (λ t. at vector t +ℤ pos (span g)) all in
    let bounds = raised-bounds (span g) vector seen_ones entries here.inside here.positive in
    let light : sum_by (λ (l : Landing). unsigned_abs l.weight) seen_ones ≤ whole g =
    omega (arith, sum-filter (λ (l : Landing). unsigned_abs l.weight) (IsSeen o) row, row-weights g.shape row (row-in g h s a c ls la lc)) in
    let less : sum_by (λ (l : Landing). unsigned_abs l.weight) seen_ones * (2 * span g) ≤ whole g * (2 * span g) = mul-le-mul_right (2 * span g) light in
    let low = bounds.low in
    let high = bounds.high in
    record {
      same = same;
      landings = here;
      raised = record {
        low = subst (λ (z : ℤ). pos 0 ≤ℤ z) same low;
        high = subst (λ (z : ℤ). unsigned_abs z ≤ whole g * (2 * span g)) same (omega arith);
      };
    }

-- a node that fits, by number
pub node-in : (g : GameData) (nodes : List NodeData) (k : ℕ) → AllByRecursion (NodeFits g most_nodes) nodes → k < length nodes → NodeFits g most_nodes (get_or nodes k no_node)
node-in g nodes k fit l = each-at (NodeFits g most_nodes) no_node nodes k fit l

pub brings-is : (g : GameData) → IsGame g → (bits : ℕ) → AreBits bits → (nodes : List NodeData) → AllByRecursion (NodeFits g most_nodes) nodes →
    (s a c o k : ℕ) → s < g.shape.states → a < g.shape.own_actions → c < g.shape.informed_actions → k < length nodes →
    IsQuotient (2 ^ bits)
    (scale bits *ℤ pos (over g) *ℤ total (λ t. pos ((numbers g).weight s a c o t) *ℤ (at (get_or nodes k no_node).vector t +ℤ pos (span g))) (below g.shape.states))
    (pos (whole g * under g) *ℤ width g)
brings-is g h bits b nodes fit s a c o k ls la lc lk =
    let node = node-in g nodes k fit lk in
    let r = (seen-bring g h s a c o ls la lc (get_or nodes k no_node).vector node.long node.entries).raised in
    brings-quotient g h bits (bits-few bits b) _ r.low r.high

-- minus a small quotient is narrow
pub minus-narrow : (q : ℤ) (k : ℕ) → k ≤ most_scale → IsSmall k q → IsNarrow (neg_ℤ q)
minus-narrow q k few small = let low = small.low in let high = small.high in omega (arith, ints)

pub quotient-narrow : (k : ℕ) (a b : ℤ) → k ≤ most_scale → IsQuotient k a b → IsNarrow (neg_ℤ (floor_of a b))
quotient-narrow k a b few q = minus-narrow (floor_of a b) k few (floor-small a b k q.divisor q.low q.high)

pub one-narrow : (b : Bool) (x y : ℤ) → IsNarrow x → IsNarrow y → IsNarrow (cond b x y)
one-narrow true x y p q = p
one-narrow false x y p q = q

-- numbers over all variables are narrow where they are on each group
pub narrow-over : (g : GameData) (f : Variable → ℤ) (count : ℕ) (ends : List ℕ) → AllByRecursion (λ k. k < count) ends →
    ((s : ℕ) → s < g.shape.states → IsNarrow (f (WorthOf s))) → ((a : ℕ) → a < g.shape.own_actions → IsNarrow (f (Plays a))) →
    ((a o k : ℕ) → a < g.shape.own_actions → o < g.shape.observations → k < count → IsNarrow (f (GoesOn a o k))) → AreNarrowOver (variables g ends) f
narrow-over g f count ends inside worths plays goes =
    let P : Variable → Type 0 = λ v. IsNarrow (f v) in
    let third : AllByRecursion P (over_pairs g (λ a o. map (GoesOn a o) ends)) =
    subst (AllByRecursion P) (sym (over-pairs (λ a o. map (GoesOn a o) ends) g.shape.own_actions g.shape.observations))
    (each-flat_map P (λ (p : ℕ × ℕ). map (GoesOn p.0 p.1) ends) (pairs g.shape.own_actions g.shape.observations) (each-pair (pairs g.shape.own_actions g.shape.observations) (pairs-inside g.shape.own_actions g.shape.observations))) in
    each-append P (map WorthOf (below g.shape.states)) _ (each-map P WorthOf (below g.shape.states) (below-each _ g.shape.states worths))
    (each-append P (map Plays (below g.shape.own_actions)) _ (each-map P Plays (below g.shape.own_actions) (below-each _ g.shape.own_actions plays)) third)
  where
    each-end : (a o : ℕ) → a < g.shape.own_actions → o < g.shape.observations → (xs : List ℕ) → AllByRecursion (λ k. k < count) xs → AllByRecursion (λ k. IsNarrow (f (GoesOn a o k))) xs
    each-end a o la lo [] h = tt
    each-end a o la lo (x ∷ xs) h = (goes a o x la lo h.0, each-end a o la lo xs h.1)

    each-pair : (ps : List (ℕ × ℕ)) → AllByRecursion (IsInside g.shape.own_actions g.shape.observations) ps →
        AllByRecursion (λ (p : ℕ × ℕ). AllByRecursion (λ v. IsNarrow (f v)) (map (GoesOn p.0 p.1) ends)) ps
    each-pair [] h = tt
    each-pair (p ∷ ps) h = (each-map (λ v. IsNarrow (f v)) (GoesOn p.0 p.1) ends (each-end p.0 p.1 h.0.0 h.0.1 ends inside), each-pair ps h.1)

-- all rows of the lower program are narrow
pub lower-narrow : (g : GameData) → IsGame g → (bits : ℕ) → AreBits bits → (nodes : List NodeData) → AllByRecursion (NodeFits g most_nodes) nodes →
    (ends : List ℕ) → AllByRecursion (λ k. k < length nodes) ends →
    AllByRecursion (AreNarrowOver (variables g ends)) (worth_rows g (lower_worth_row g bits nodes) ++ over_pairs g (λ a o. going_on_row a o ∷ []))
lower-narrow g h bits b nodes fit ends inside =
    let vars : List Variable = variables g ends in
    let P : (Variable → ℤ) → Type 0 = AreNarrowOver vars in
    each-append P (worth_rows g (lower_worth_row g bits nodes)) _
    (subst (AllByRecursion P) (sym (each-of-pairs (lower_worth_row g bits nodes) g.shape.states g.shape.informed_actions))
    (each-map P (λ (p : ℕ × ℕ). lower_worth_row g bits nodes p.0 p.1) (pairs g.shape.states g.shape.informed_actions)
    (worths (pairs g.shape.states g.shape.informed_actions) (pairs-inside g.shape.states g.shape.informed_actions))))
    (subst (AllByRecursion P) (sym (over-pairs (λ a o. going_on_row a o ∷ []) g.shape.own_actions g.shape.observations))
    (each-flat_map P (λ (p : ℕ × ℕ). going_on_row p.0 p.1 ∷ []) (pairs g.shape.own_actions g.shape.observations) (goings (pairs g.shape.own_actions g.shape.observations))))
  where
    worth : (s c : ℕ) → s < g.shape.states → c < g.shape.informed_actions → AreNarrowOver (variables g ends) (lower_worth_row g bits nodes s c)
    worth s c ls lc = narrow-over g (lower_worth_row g bits nodes s c) (length nodes) ends inside
        (λ t l. one-narrow (t == s) (pos 1) (pos 0) (omega arith) (omega arith))
        (λ a la. quotient-narrow (2 ^ bits) (paid_above g bits s a c) (pay_width g) (bits-few bits b) (paid-quotient g h bits s a c (bits-few bits b) ls la lc))
        (λ a o k la lo lk. quotient-narrow (2 ^ bits) _ _ (bits-few bits b) (brings-is g h bits b nodes fit s a c o k ls la lc lk))

    worths : (ps : List (ℕ × ℕ)) → AllByRecursion (IsInside g.shape.states g.shape.informed_actions) ps → AllByRecursion (λ (p : ℕ × ℕ). AreNarrowOver (variables g ends) (lower_worth_row g bits nodes p.0 p.1)) ps
    worths [] h = tt
    worths (p ∷ ps) h = (worth p.0 p.1 h.0.0 h.0.1, worths ps h.1)

    going : (a o : ℕ) → AreNarrowOver (variables g ends) (going_on_row a o)
    going a o = narrow-over g (going_on_row a o) (length nodes) ends inside (λ t l. omega arith)
        (λ d l. one-narrow (d == a) (neg_ℤ (pos 1)) (pos 0) (omega arith) (omega arith))
        (λ d p k l m n. one-narrow _ (pos 1) (pos 0) (omega arith) (omega arith))

    goings : (ps : List (ℕ × ℕ)) → AllByRecursion (λ (p : ℕ × ℕ). AllByRecursion (AreNarrowOver (variables g ends)) (going_on_row p.0 p.1 ∷ [])) ps
    goings [] = tt
    goings (p ∷ ps) = ((going p.0 p.1, tt), goings ps)

-- the sum that the code finds, of landings, a vector and a span that are those of the game and the node
pub summed : (g : GameData) (s a c o : ℕ) (vector read : List ℤ) (found : List Landing) (raise : ℤ) → read ≡ vector → found ≡ filter (IsSeen o) (row_at g s a c) → raise ≡ pos (span g) →
    SeenBring g s a c o vector →
    total (λ (l : Landing). l.weight *ℤ (at read l.to +ℤ raise)) found ≡ total (λ t. pos ((numbers g).weight s a c o t) *ℤ (at vector t +ℤ pos (span g))) (below g.shape.states)
summed g s a c o vector read found raise v e r bring =
    ap (λ (x : List ℤ). total (λ (l : Landing). l.weight *ℤ (at x l.to +ℤ raise)) found) v
    ∙ ap (λ (ls : List Landing). total (λ (l : Landing). l.weight *ℤ (at vector l.to +ℤ raise)) ls) e
    ∙ ap (λ (z : ℤ). total (λ (l : Landing). l.weight *ℤ (at vector l.to +ℤ z)) (filter (IsSeen o) (row_at g s a c))) r
    ∙ bring.same

-- entries within the span are small
pub small-entries : (g : GameData) → IsGame g → (vector : List ℤ) → AllByRecursion (IsWithin (neg_ℤ (pos (span g))) (pos (span g))) vector → AllByRecursion (λ x. unsigned_abs x ≤ 2 ^ 69) vector
small-entries g h [] entries = tt
small-entries g h (x ∷ xs) entries = (one x (span g) entries.0.0 entries.0.1 (span-small g h), small-entries g h xs entries.1)
  where
    one : (x : ℤ) (v : ℕ) → (neg_ℤ (pos v)) ≤ℤ x → x ≤ℤ (pos v) → v ≤ 2 ^ 66 → unsigned_abs x ≤ 2 ^ 69
    one x v l h s = omega (arith, ints)
