-- The lines of the nodes of a certificate that fits are said.
use Rattle.std.proofs.Common.{◌≡◌, ℕ, ◌+◌, ◌*◌, ◌/◌, ◌%◌, ◌<◌, ◌≤◌, Bool, true, false, ◌&&◌, List, [], ◌∷◌, ◌++◌, reverse, length, take, Ok, ℤ, pos, refl, sym, ap, subst, ◌∙◌, arith, inl, inr, append_assoc}
use Rattle.std.specs.Prelude.{◌+ℤ◌, ◌≤ℤ◌, ◌==◌, slice_index_or, codes}
use Rattle.std.specs.List.{AllByRecursion}
use mathlib.Core.List.{reverse-cons}
use Rattle.std.proofs.lemmas.Int.{ints}
use Rattle.std.proofs.lemmas.Bool.{cases_lt}
use Rattle.std.proofs.lemmas.Bool.Decides.{nat_tests}
use Rattle.std.proofs.lemmas.List.{get_or-take, length-take}
use Rattle.std.proofs.Math.Nat.{mod-lt, div-add-mod, div-lt_iff_lt-mul}
use Rattle.text_words.specs.Lines.{Line}
use Rattle.game_model.specs.Branches.{AreRising, Branch, IsBranch, IsBranchBefore, mix_total}
use Rattle.game_model.specs.Game.{GameData, IsGame, numbers}
use Rattle.alpha_set.specs.Nodes.{NodeData, NodeFits}
use Rattle.controller.specs.Certificates.{CertificateData}
use Rattle.text_words.proofs.Numerals.{Small}
use Rattle.cert_text.specs.Entries.{Entry, Vector, Mix, Next, Node, Point, entry_of, entry_after, in_node, limits_of, pair_at, lacking_of, lacking_less}
use Rattle.cert_text.proofs.LawGuards.{IsLater, IsNone}
use Rattle.cert_text.proofs.LawSaid.{words_in, branch_numbers, vector-to, mix-to, in_node-next, in_node-node, in_node-point, NextFits, VectorFits, MixFits}
use Rattle.cert_text.proofs.LawLists.{HeadBefore, weight_at, weight_hit, weight_miss, none_at, length_more}
use Rattle.cert_text.proofs.LawParts.{cell_below}
use Rattle.cert_text.proofs.LawStages.{Head, AtNode, AtVector, AtSteps, AtPoint, progress_of, latest_step, node_from, Known, NodesFit, StepsFit, Lacks}
use Rattle.cert_text.proofs.LawSteps.{step_vector, step_weights, step_next, step_node, step_point}
use Rattle.cert_text.proofs.LawWrites.{Can, can_step, small_few, small_each, small_span, small_branch, numbered_written, word_node, word_vector, word_mix, word_next, word_point}

-- these branches in order onto those from behind
abbrev pub onto : List Branch → List Branch → List Branch
onto [] back = back
onto (b ∷ rest) back = onto rest (b ∷ back)

pub onto_reverse : (rest back : List Branch) → reverse (onto rest back) ≡ reverse back ++ rest
onto_reverse [] back = append_none (reverse back)
  where
    append_none : (xs : List Branch) → xs ≡ xs ++ []
    append_none [] = refl
    append_none (x ∷ xs) = ap (λ (ys : List Branch). x ∷ ys) (append_none xs)
onto_reverse (b ∷ rest) back =
    onto_reverse rest (b ∷ back) ∙ ap (λ (xs : List Branch). xs ++ rest) (reverse-cons b back) ∙ append_assoc (reverse back) (b ∷ []) rest

-- the branches rise behind those before
abbrev pub GoesOn : List Branch → List Branch → Type 0
GoesOn back [] = Unit {0}
GoesOn back (b ∷ rest) = HeadBefore back b × AreRising (b ∷ rest)

pub goes_further : (back : List Branch) (b : Branch) (rest : List Branch) → GoesOn back (b ∷ rest) → GoesOn (b ∷ back) rest
goes_further back b [] h = tt
goes_further back b (d ∷ rest) h = (h.1.0, h.1.1)

pub goes_first : (rest : List Branch) → AreRising rest → GoesOn [] rest
goes_first [] h = tt
goes_first (b ∷ rest) h = (tt, h)

-- ---- weights by pair

abbrev cell : ℕ → Branch → ℕ
cell n b = b.own * n + b.seen

cells_rise : (n : ℕ) (b d : Branch) → b.seen < n → d.seen < n → IsBranchBefore b d → cell n b ≤ cell n d
cells_rise n b d lb ld (inl own) = omega (arith, cell_below b.own d.own b.seen n own lb)
cells_rise n b d lb ld (inr (e, inl seen)) = let p : b.own * n ≡ d.own * n = ap (λ (x : ℕ). x * n) e in omega (arith, p, seen)
cells_rise n b d lb ld (inr (e, inr (f, member))) = let p : b.own * n ≡ d.own * n = ap (λ (x : ℕ). x * n) e in omega (arith, p, f)

abbrev From : ℕ → ℕ → Branch → Type 0
From n p d = p ≤ cell n d

from_on : (n p q : ℕ) (xs : List Branch) → p ≤ q → AllByRecursion (From n q) xs → AllByRecursion (From n p) xs
from_on n p q [] le h = tt
from_on n p q (x ∷ xs) le h = (omega (arith, le, h.0), from_on n p q xs le h.1)

abbrev SeenBelow : ℕ → Branch → Type 0
SeenBelow n d = d.seen < n

rest_from : (n : ℕ) (b : Branch) (rest : List Branch) → AreRising (b ∷ rest) → AllByRecursion (SeenBelow n) (b ∷ rest) → AllByRecursion (From n (cell n b)) (b ∷ rest)
rest_from n b [] h l = (omega arith, tt)
rest_from n b (d ∷ rest) h l =
    (omega arith, from_on n (cell n b) (cell n d) (d ∷ rest) (cells_rise n b d l.0 l.1.0 h.0) (rest_from n d rest h.1 l.1))

apart_false : (b : Branch) (n a o : ℕ) → a * n + o < cell n b → ((b.own == a) && (b.seen == o)) ≡ false
apart_false b n a o lt = by (b.own == a) (b.seen == o) refl refl
  where
    by : (x y : Bool) → (b.own == a) ≡ x → (b.seen == o) ≡ y → (x && y) ≡ false
    by true true p q =
        let e : b.own ≡ a = grind (arith, nat_tests) in
        let f : b.seen ≡ o = grind (arith, nat_tests) in
        let m : b.own * n ≡ a * n = ap (λ (x : ℕ). x * n) e in
        absurd (omega (arith, lt, m, f))
    by true false p q = refl
    by false y p q = refl

weight_none : (n p a o : ℕ) (xs : List Branch) → a * n + o < p → AllByRecursion (From n p) xs → weight_at xs a o ≡ pos 0
weight_none n p a o [] lt h = refl
weight_none n p a o (b ∷ xs) lt h = weight_miss b xs a o (apart_false b n a o (omega (arith, lt, h.0))) ∙ weight_none n p a o xs lt h.1

move_by : (back : List Branch) (b : Branch) (rest : List Branch) (a o : ℕ) (x : Bool) → ((b.own == a) && (b.seen == o)) ≡ x
    → (weight_at (b ∷ back) a o +ℤ weight_at rest a o) ≡ (weight_at back a o +ℤ weight_at (b ∷ rest) a o)
move_by back b rest a o true e = omega (arith, ints, weight_hit b back a o e, weight_hit b rest a o e)
move_by back b rest a o false e = omega (arith, ints, weight_miss b back a o e, weight_miss b rest a o e)

-- the branches before and those to come have the weights of the mix
abbrev pub IsWhole : GameData → List ℤ → List Branch → List Branch → Type 0
IsWhole g m back rest = (a o : ℕ) → a < g.shape.own_actions → o < g.shape.observations → (weight_at back a o +ℤ weight_at rest a o) ≡ slice_index_or m a (pos 0)

whole_on : (g : GameData) (m : List ℤ) (back : List Branch) (b : Branch) (rest : List Branch) → IsWhole g m back (b ∷ rest) → IsWhole g m (b ∷ back) rest
whole_on g m back b rest h a o la lo = move_by back b rest a o ((b.own == a) && (b.seen == o)) refl ∙ h a o la lo

-- ---- what is lacking

pub cell_is : (n i : ℕ) → i / n * n + i % n ≡ i
cell_is n i = let e : i / n * n ≡ n * (i / n) = omega arith in omega (arith, e, div-add-mod i n)

pub lack_zero : (g : GameData) (m : List ℤ) (back : List Branch) (L : List ℤ) (i : ℕ) → IsGame g → Lacks g m back L → i < g.shape.own_actions * g.shape.observations
    → weight_at back (i / g.shape.observations) (i % g.shape.observations) ≡ slice_index_or m (i / g.shape.observations) (pos 0) → slice_index_or L i (pos 0) ≡ pos 0
lack_zero g m back L i game k l e =
    let n = g.shape.observations in
    let some : 0 < n = omega (arith, game.shape.observations) in
    let own : i / n < g.shape.own_actions = (div-lt_iff_lt-mul {k = n} {x = i} {y = g.shape.own_actions} some).1 l in
    let at = k.each (i / n) (i % n) own (mod-lt i some) in
    let same : slice_index_or L (i / n * n + i % n) (pos 0) ≡ slice_index_or L i (pos 0) = ap (λ (x : ℕ). slice_index_or L x (pos 0)) (cell_is n i) in
    omega (arith, ints, at, same, e)

pub own_of : (g : GameData) (i : ℕ) → IsGame g → i < g.shape.own_actions * g.shape.observations → i / g.shape.observations < g.shape.own_actions
own_of g i game l = (div-lt_iff_lt-mul {k = g.shape.observations} {x = i} {y = g.shape.own_actions} (omega (arith, game.shape.observations))).1 l

-- behind all steps nothing lacks
pub nothing_lacks : (g : GameData) (m : List ℤ) (back : List Branch) (L : List ℤ) → IsGame g → Lacks g m back L → IsWhole g m back [] → AllByRecursion IsNone L
nothing_lacks g m back L game k whole =
    let n = g.shape.observations in
    none_at L (λ i l. elim (cases_lt i (g.shape.own_actions * n)) [
      | inl lt ↦ lack_zero g m back L i game k lt
          (let w = whole (i / n) (i % n) (own_of g i game lt) (mod-lt i (omega (arith, game.shape.observations))) in omega (arith, ints, w))
      | inr ge ↦ k.past i ge
    ])

-- no pair before the next step lacks anything
earlier_none : (g : GameData) (m : List ℤ) (back : List Branch) (b : Branch) (rest : List Branch) (L : List ℤ) → IsGame g → Lacks g m back L → IsWhole g m back (b ∷ rest)
    → AllByRecursion (From g.shape.observations (cell g.shape.observations b)) (b ∷ rest) → cell g.shape.observations b < g.shape.own_actions * g.shape.observations
    → AllByRecursion IsNone (take (cell g.shape.observations b) L)
earlier_none g m back b rest L game k whole after inside =
    let n = g.shape.observations in
    let p = cell n b in
    none_at (take p L) (λ i l.
    (let lt : i < p = omega (arith, l, length-take p L) in
    let none : weight_at (b ∷ rest) (i / n) (i % n) ≡ pos 0 = weight_none n p (i / n) (i % n) (b ∷ rest) (omega (arith, lt, cell_is n i)) after in
    let w = whole (i / n) (i % n) (own_of g i game (omega (arith, lt, inside))) (mod-lt i (omega (arith, game.shape.observations))) in
    get_or-take p L i (pos 0) lt ∙ lack_zero g m back L i game k (omega (arith, lt, inside)) (omega (arith, ints, w, none))))

abbrev IsStep : GameData → Head → Branch → Type 0
IsStep g h b = IsBranch (numbers g) h.nodes (pos mix_total) b

weight_least : (g : GameData) (h : Head) (xs : List Branch) (a o : ℕ) → AllByRecursion (IsStep g h) xs → pos 0 ≤ℤ weight_at xs a o
weight_least g h [] a o f = omega (arith, ints)
weight_least g h (b ∷ xs) a o f = by ((b.own == a) && (b.seen == o)) refl (weight_least g h xs a o f.1)
  where
    by : (x : Bool) → ((b.own == a) && (b.seen == o)) ≡ x → pos 0 ≤ℤ weight_at xs a o → pos 0 ≤ℤ weight_at (b ∷ xs) a o
    by true e k = omega (arith, ints, weight_hit b xs a o e, k, f.0.weight.0)
    by false e k = omega (arith, ints, weight_miss b xs a o e, k)

same_true : (b : Branch) → ((b.own == b.own) && (b.seen == b.seen)) ≡ true
same_true b = grind (arith, nat_tests)

room_for : (g : GameData) (h : Head) (m : List ℤ) (back : List Branch) (b : Branch) (rest : List Branch) (L : List ℤ) → Lacks g m back L → IsWhole g m back (b ∷ rest) → AllByRecursion (IsStep g h) (b ∷ rest)
    → b.weight ≤ℤ slice_index_or L (cell g.shape.observations b) (pos 0)
room_for g h m back b rest L k whole f =
    let at = k.each b.own b.seen f.0.own f.0.seen in
    let w = whole b.own b.seen f.0.own f.0.seen in
    omega (arith, ints, at, w, weight_hit b rest b.own b.seen (same_true b), weight_least g h rest b.own b.seen f.1)

seen_below : (g : GameData) (h : Head) (xs : List Branch) → AllByRecursion (IsStep g h) xs → AllByRecursion (SeenBelow g.shape.observations) xs
seen_below g h [] f = tt
seen_below g h (b ∷ xs) f = (f.0.seen, seen_below g h xs f.1)

step_later : (back : List Branch) (b : Branch) → HeadBefore back b → IsLater (latest_step back) b.own b.seen b.member
step_later [] b h = tt
step_later (d ∷ back) b h = h

next_fits : (g : GameData) (h : Head) (ns : List NodeData) (v m : List ℤ) (back : List Branch) (b : Branch) (rest : List Branch) (L : List ℤ) → IsGame g → StepsFit g h v m back L → IsWhole g m back (b ∷ rest)
    → GoesOn back (b ∷ rest) → AllByRecursion (IsStep g h) (b ∷ rest) → NextFits (progress_of g (AtSteps h ns v m back L)) b
next_fits g h ns v m back b rest L game k whole on f =
    let n = g.shape.observations in
    record {
      branch = record { own = f.0.own; seen = f.0.seen; member = f.0.member; weight = f.0.weight; later = step_later back b on.0 };
      earlier = earlier_none g m back b rest L game k.lacks whole (rest_from n b rest on.1 (seen_below g h (b ∷ rest) f)) (cell_below b.own g.shape.own_actions b.seen n f.0.own f.0.seen);
      room = room_for g h m back b rest L k.lacks whole f;
    }

-- ---- the steps of a node

in_steps : (g : GameData) (h : Head) (ns : List NodeData) (v m : List ℤ) (back : List Branch) (L : List ℤ) (line : Line) (e : Entry)
    → in_node (progress_of g (AtSteps h ns v m back L)) line ≡ Ok e → entry_of (progress_of g (AtSteps h ns v m back L)) line ≡ Ok e
unfolding entry_after
in_steps g h ns v m [] L line e p = p
in_steps g h ns v m (b ∷ back) L line e p = p

steps_can : (g : GameData) (k : CertificateData) (h : Head) (ns : List NodeData) (v m : List ℤ) (rest back : List Branch) (L : List ℤ) → IsGame g → NodesFit g h ns → StepsFit g h v m back L
    → IsWhole g m back rest → GoesOn back rest → AllByRecursion (IsStep g h) rest
    → ((last : List ℤ) → StepsFit g h v m (onto rest back) last → AllByRecursion IsNone last → Can g (AtSteps h ns v m (onto rest back) last) k) → Can g (AtSteps h ns v m back L) k
steps_can g k h ns v m [] back L game before fits whole on f next = next L fits (nothing_lacks g m back L game fits.lacks whole)
steps_can g k h ns v m (b ∷ rest) back L game before fits whole on f next =
    let s = AtSteps h ns v m back L in
    let small = small_branch g h.nodes (pos mix_total) b game before.head.sizes.most_nodes (omega arith) f.0 in
    let ok = next_fits g h ns v m back b rest L game fits whole on f in
    can_step g s (Next b) (AtSteps h ns v m (b ∷ back) (lacking_less L (pair_at (limits_of g) b) b.weight)) k
    (step_next g h ns v m back L b game before fits ok)
    (in_steps g h ns v m back L (words_in (Next b)) (Next b) (in_node-next (progress_of g s) b small ok))
    (numbered_written (codes "next") (branch_numbers b) word_next small)
    (λ known. steps_can g k h ns v m rest (b ∷ back) (lacking_less L (pair_at (limits_of g) b) b.weight) game before known.1 (whole_on g m back b rest whole) (goes_further back b rest on) f.1 next)

-- ---- a node

vector_ok : (g : GameData) (h : Head) (ns : List NodeData) (v L : List ℤ) → AllByRecursion Small v → VectorFits (limits_of g) v → entry_of (progress_of g (AtNode h ns L)) (words_in (Vector v)) ≡ Ok (Vector v)
unfolding entry_after
vector_ok g h ns v L small fits = vector-to (limits_of g) v small fits

mix_ok : (g : GameData) (h : Head) (ns : List NodeData) (v m L : List ℤ) → AllByRecursion Small m → MixFits g.shape.own_actions m → entry_of (progress_of g (AtVector h ns v L)) (words_in (Mix m)) ≡ Ok (Mix m)
unfolding entry_after
mix_ok g h ns v m L small fits = mix-to (limits_of g) m small fits

whole_first : (g : GameData) (h : Head) (n : NodeData) → NodeFits g h.nodes n → IsWhole g n.mix [] n.next
whole_first g h n f a o la lo = omega (arith, ints, f.sums a o la lo)

node_can : (g : GameData) (k : CertificateData) (h : Head) (ns : List NodeData) (n : NodeData) (L : List ℤ) → IsGame g → NodesFit g h ns → NodeFits g h.nodes n
    → ((last : List ℤ) → StepsFit g h n.vector n.mix (onto n.next []) last → AllByRecursion IsNone last → Can g (AtSteps h ns n.vector n.mix (onto n.next []) last) k) → Can g (AtNode h ns L) k
node_can g k h ns n L game before f next =
    let v = n.vector in
    let m = n.mix in
    let vs = small_span g v game f.entries in
    let ms = small_each (pos 0) (pos mix_total) m (omega arith) (omega arith) f.mix.each in
    let vf : VectorFits (limits_of g) v = record { long = f.long; each = f.entries } in
    let mf : MixFits g.shape.own_actions m = record { long = f.mix.long; each = f.mix.each; sums = f.mix.sums } in
    can_step g (AtNode h ns L) (Vector v) (AtVector h ns v L) k (step_vector g h ns v L (before, vf)) (vector_ok g h ns v L vs vf) (numbered_written (codes "vector") v word_vector vs)
    (λ kv. can_step g (AtVector h ns v L) (Mix m) (AtSteps h ns v m [] (lacking_of g.shape.observations m)) k (step_weights g h ns v m L game kv mf) (mix_ok g h ns v m L ms mf) (numbered_written (codes "mix") m word_mix ms)
    (λ ks. steps_can g k h ns v m n.next [] (lacking_of g.shape.observations m) game before ks.1 (whole_first g h n f) (goes_first n.next f.next.rising) f.next.each next))

pub node_again : (n : NodeData) → node_from n.vector n.mix (onto n.next []) ≡ n
node_again n = ap (λ (xs : List Branch). record { vector = n.vector; mix = n.mix; next = xs }) (onto_reverse n.next [])

-- ---- all nodes

node_entry : (g : GameData) (h : Head) (ns : List NodeData) (v m : List ℤ) (back : List Branch) (L : List ℤ) → NodesFit g h ns → length ns + 1 < h.nodes → AllByRecursion IsNone L
    → entry_of (progress_of g (AtSteps h ns v m back L)) (words_in (Node (length ns + 1))) ≡ Ok (Node (length ns + 1))
node_entry g h ns v m back L before more none =
    in_steps g h ns v m back L (words_in (Node (length ns + 1))) (Node (length ns + 1))
    (in_node-node (progress_of g (AtSteps h ns v m back L)) (small_few (length ns + 1) (omega (arith, more, before.head.sizes.most_nodes))) more none)

point_entry : (g : GameData) (h : Head) (ns : List NodeData) (v m : List ℤ) (back : List Branch) (L : List ℤ) → h.nodes ≤ length ns + 1 → AllByRecursion IsNone L
    → entry_of (progress_of g (AtSteps h ns v m back L)) (words_in (Point 0)) ≡ Ok (Point 0)
point_entry g h ns v m back L last none =
    in_steps g h ns v m back L (words_in (Point 0)) (Point 0) (in_node-point (progress_of g (AtSteps h ns v m back L)) last none)

abbrev AfterNodes : GameData → CertificateData → Head → List NodeData → Type 0
AfterNodes g k h ns = (L : List ℤ) → Known g (AtPoint h ns [] L (pos 0)) → Can g (AtPoint h ns [] L (pos 0)) k

abbrev AfterNode : GameData → CertificateData → Head → List NodeData → List ℤ → NodeData → Type 0
AfterNode g k h ns L n = Known g (AtNode h (ns ++ n ∷ []) L) → Can g (AtNode h (ns ++ n ∷ []) L) k

abbrev AfterLast : GameData → CertificateData → Head → List NodeData → List ℤ → NodeData → Type 0
AfterLast g k h ns L n = Known g (AtPoint h (ns ++ n ∷ []) [] L (pos 0)) → Can g (AtPoint h (ns ++ n ∷ []) [] L (pos 0)) k

to_next : (g : GameData) (k : CertificateData) (h : Head) (ns : List NodeData) (n : NodeData) (L : List ℤ) → NodesFit g h ns → StepsFit g h n.vector n.mix (onto n.next []) L → AllByRecursion IsNone L → length ns + 1 < h.nodes
    → AfterNode g k h ns L n → Can g (AtSteps h ns n.vector n.mix (onto n.next []) L) k
to_next g k h ns n L before fits none more next =
    let back = onto n.next [] in
    let s = AtSteps h ns n.vector n.mix back L in
    can_step g s (Node (length ns + 1)) (AtNode h (ns ++ node_from n.vector n.mix back ∷ []) L) k
    (step_node g h ns n.vector n.mix back L before fits more none) (node_entry g h ns n.vector n.mix back L before more none)
    (numbered_written (codes "node") (pos (length ns + 1) ∷ []) word_node (small_few (length ns + 1) (omega (arith, more, before.head.sizes.most_nodes)), tt))
    (subst (AfterNode g k h ns L) (sym (node_again n)) next)

to_points : (g : GameData) (k : CertificateData) (h : Head) (ns : List NodeData) (n : NodeData) (L : List ℤ) → IsGame g → NodesFit g h ns → StepsFit g h n.vector n.mix (onto n.next []) L → AllByRecursion IsNone L → h.nodes ≤ length ns + 1
    → AfterLast g k h ns L n → Can g (AtSteps h ns n.vector n.mix (onto n.next []) L) k
to_points g k h ns n L game before fits none last next =
    let back = onto n.next [] in
    let s = AtSteps h ns n.vector n.mix back L in
    can_step g s (Point 0) (AtPoint h (ns ++ node_from n.vector n.mix back ∷ []) [] L (pos 0)) k
    (step_point g h ns n.vector n.mix back L game before fits last none) (point_entry g h ns n.vector n.mix back L last none)
    (numbered_written (codes "point") (pos 0 ∷ []) word_point (omega arith, tt))
    (subst (AfterLast g k h ns L) (sym (node_again n)) next)

pub nodes_can : (g : GameData) (k : CertificateData) (h : Head) (rest : List NodeData) (ns : List NodeData) (n : NodeData) (L : List ℤ) → IsGame g → NodesFit g h ns → NodeFits g h.nodes n → AllByRecursion (NodeFits g h.nodes) rest
    → length ns + 1 + length rest ≡ h.nodes → AfterNodes g k h (ns ++ n ∷ rest) → Can g (AtNode h ns L) k
nodes_can g k h [] ns n L game before f fs count next =
    node_can g k h ns n L game before f (λ last fits none. to_points g k h ns n last game before fits none (omega (arith, count)) (next last))
nodes_can g k h (d ∷ rest) ns n L game before f fs count next =
    node_can g k h ns n L game before f (λ last fits none. to_next g k h ns n last before fits none (omega (arith, count))
    (λ known. nodes_can g k h rest (ns ++ n ∷ []) d last game known fs.0 fs.1 (omega (arith, count, length_more ns n))
    (subst (AfterNodes g k h) (sym (append_assoc ns (n ∷ []) (d ∷ rest))) next)))
