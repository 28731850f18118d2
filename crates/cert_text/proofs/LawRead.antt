-- The text of a certificate that fits is accepted, and its lines say the certificate.
use Rattle.std.proofs.Common.{◌≡◌, ℕ, ◌^◌, List, [], ◌∷◌, ◌++◌, length, map, Ok, pos, refl, sym, ap, subst, ◌∙◌, arith, append-nil, append_assoc, reverse, inl, inr, ◌<◌, ◌≤◌, ℤ}
use Rattle.std.specs.Prelude.{codes}
use Rattle.std.specs.List.{AllByRecursion}
use Rattle.text_words.specs.Lines.{Line, lines_of, after_lines}
use Rattle.text_words.proofs.Whole.{lines_text, lines_of-lines, after_lines-lines}
use Rattle.game_model.specs.Game.{GameData, IsGame}
use Rattle.alpha_set.specs.Nodes.{NodeData, NodeFits}
use Rattle.point_set.specs.Points.{PointData, PointFits}
use Rattle.controller.specs.Certificates.{CertificateData, CertificateFits, Ending, FractionData, most_gap, most_gap_under}
use Rattle.text_words.proofs.Numerals.{Small, small_within}
use Rattle.game_model.specs.Limits.{most_members}
use Rattle.game_model.specs.Game.{IsWithin}
use Rattle.point_set.specs.Split.{AreRisingPairs}
use Rattle.controller.specs.Starts.{AreStarts, IsStart, most_from, most_over, weights_sum}
use Rattle.cert_text.specs.Forms.{coprime}
use Rattle.cert_text.specs.Rules.{AreCoprimeStarts}
use Rattle.cert_text.proofs.StartWeights.{Start as PairStart, AreSeveral, IsAbove, IsWhole, weights, weights_of, starts_of, coprime-to, coprime_reverse, only_one, one_start, sum_low, whole-to, long_reverse}
use Rattle.cert_text.proofs.LawStarts.{FromFits, OverFits, start-to, multiple-to, from-to, over-to, first-to, in_sizes-start, in_sizes-multiple, in_from-from, in_from-over, in_over-over, in_over-node}
use Rattle.cert_text.proofs.LawGuards.{IsAboveFrom}
use Rattle.text_words.proofs.Whole.{IsWritten}
use mathlib.Core.List.{reverse-cons, reverse-reverse}
use Rattle.std.proofs.lemmas.Int.{ints}
use Rattle.std.specs.Prelude.{◌+ℤ◌, ◌≤ℤ◌}
use Rattle.cert_text.specs.Answers.{IsTextFor}
use Rattle.cert_text.specs.Text.{certificate_text}
use Rattle.cert_text.specs.Entries.{Entry, Version, Outcome, Gap, Lower, Upper, Tail, Sizes, Start, Multiple, From, Over, Node, entry_of, entry_after, start_of}
use Rattle.cert_text.specs.Made.{certificate_of}
use Rattle.cert_text.specs.Reading.{AcceptsCert}
use Rattle.cert_text.specs.Steps.{AcceptsAll}
use Rattle.cert_text.proofs.Decided.{accepts_from}
use Rattle.cert_text.proofs.LawOnce.{accepted_once}
use Rattle.cert_text.proofs.LawWords.{IsBrief, IsVersion}
use Rattle.cert_text.proofs.LawSaid.{words_in, version-to, outcome-to, gap-to, lower-to, upper-to, tail-to, sizes-to, node-to, GapFits}
use Rattle.cert_text.proofs.LawStages.{Head, AtNothing, AtVersion, AtOutcome, AtGap, AtLower, AtUpper, AtTail, AtSizes, AtFrom, AtOver, AtStart, AtNode, progress_of, zeros, made_head, HeadFits, FrontFits, Known, fresh, latest_from, with_starts}
use Rattle.cert_text.proofs.LawSteps.{step_version, step_outcome, step_gap, step_lower, step_upper, step_tail, step_sizes, step_start, step_first, sizes_of, single, step_multiple, step_from, step_first_over, step_over, step_over_node}
use Rattle.cert_text.proofs.LawAccept.{say_text, say_long}
use Rattle.cert_text.proofs.LawWrites.{Can, Writes, can_step, small_few, numbered_written, fraction_line_written, version_written, outcome_written, word_gap, word_lower, word_upper, word_tail, word_sizes, word_start, word_node, word_multiple, word_from, word_over}
use Rattle.cert_text.proofs.LawNodes.{nodes_can}
use Rattle.cert_text.proofs.LawPoints.{points_can}

-- ---- the lines before the nodes are said

version_entry : (g : GameData) (v : ℕ) → IsVersion v → entry_of (progress_of g AtNothing) (words_in (Version v)) ≡ Ok (Version v)
unfolding entry_after
version_entry g v is = version-to v is

outcome_entry : (g : GameData) (v : ℕ) (o : Ending) → entry_of (progress_of g (AtVersion v)) (words_in (Outcome o)) ≡ Ok (Outcome o)
unfolding entry_after
outcome_entry g v o = outcome-to o

gap_entry : (g : GameData) (v : ℕ) (o : Ending) (gap : FractionData) → IsBrief gap → GapFits gap → entry_of (progress_of g (AtOutcome v o)) (words_in (Gap gap)) ≡ Ok (Gap gap)
unfolding entry_after
gap_entry g v o gap brief f = gap-to gap brief f

lower_entry : (g : GameData) (v : ℕ) (h : Head) → FrontFits g h → entry_of (progress_of g (AtGap v h.outcome h.gap)) (words_in (Lower h.lower)) ≡ Ok (Lower h.lower)
unfolding entry_after
lower_entry g v h f = lower-to h.lower f.bounds.0

upper_entry : (g : GameData) (v : ℕ) (h : Head) → FrontFits g h → entry_of (progress_of g (AtLower v h.outcome h.gap h.lower)) (words_in (Upper h.upper)) ≡ Ok (Upper h.upper)
unfolding entry_after
upper_entry g v h f = upper-to h.upper f.bounds.1

tail_entry : (g : GameData) (v : ℕ) (h : Head) → FrontFits g h → entry_of (progress_of g (AtUpper v h.outcome h.gap h.lower h.upper)) (words_in (Tail h.tail)) ≡ Ok (Tail h.tail)
unfolding entry_after
tail_entry g v h f = tail-to h.tail f.bounds.2

sizes_entry : (g : GameData) (v : ℕ) (h : Head) → FrontFits g h → entry_of (progress_of g (AtTail v h.outcome h.gap h.lower h.upper h.tail)) (words_in (Sizes h.nodes h.points)) ≡ Ok (Sizes h.nodes h.points)
unfolding entry_after
sizes_entry g v h f = sizes-to g.shape.states h.nodes h.points f.sizes

start_entry : (g : GameData) (h : Head) (node point : ℕ) → h.version ≡ 1 → AllByRecursion Small (pos node ∷ pos point ∷ []) → node < h.nodes → point < h.points
    → entry_of (progress_of g (sizes_of h.version h)) (words_in (Start node point)) ≡ Ok (Start node point)
unfolding entry_after
start_entry g h node point v small a b =
    in_sizes-start (progress_of g (sizes_of h.version h)) (words_in (Start node point)) (Start node point) v (start-to h.nodes h.points node point small a b)

multiple_entry : (g : GameData) (h : Head) → h.version ≡ 2 → IsWithin (pos 1) (pos most_from) h.multiple → entry_of (progress_of g (sizes_of h.version h)) (words_in (Multiple h.multiple)) ≡ Ok (Multiple h.multiple)
unfolding entry_after
multiple_entry g h v f = in_sizes-multiple (progress_of g (sizes_of h.version h)) (words_in (Multiple h.multiple)) (Multiple h.multiple) v (multiple-to h.multiple f)

from_entry : (g : GameData) (h : Head) (back : List PairStart) (s : PairStart) → s.0 < 10 ^ 36 → FromFits (progress_of g (AtFrom h back)) s.0 s.1 → entry_of (progress_of g (AtFrom h back)) (words_in (From s.0 s.1)) ≡ Ok (From s.0 s.1)
unfolding entry_after
from_entry g h [] s few f = from-to (progress_of g (AtFrom h [])) s.0 s.1 few f
from_entry g h (t ∷ back) s few f =
    in_from-from (progress_of g (AtFrom h (t ∷ back))) s.0 s.1 (From s.0 s.1) (from-to (progress_of g (AtFrom h (t ∷ back))) s.0 s.1 few f)

first_over_entry : (g : GameData) (h : Head) (t : PairStart) (back : List PairStart) (s : PairStart) → s.0 < 10 ^ 36 → OverFits (progress_of g (AtFrom h (t ∷ back))) s.0 s.1
    → entry_of (progress_of g (AtFrom h (t ∷ back))) (words_in (Over s.0 s.1)) ≡ Ok (Over s.0 s.1)
unfolding entry_after
first_over_entry g h t back s few f =
    in_from-over (progress_of g (AtFrom h (t ∷ back))) s.0 s.1 (Over s.0 s.1) (over-to (progress_of g (AtFrom h (t ∷ back))) s.0 s.1 few f)

over_entry : (g : GameData) (h : Head) (front : List PairStart) (t : PairStart) (back : List PairStart) (s : PairStart) → s.0 < 10 ^ 36 → OverFits (progress_of g (AtOver h front (t ∷ back))) s.0 s.1
    → entry_of (progress_of g (AtOver h front (t ∷ back))) (words_in (Over s.0 s.1)) ≡ Ok (Over s.0 s.1)
unfolding entry_after
over_entry g h front t back s few f =
    in_over-over (progress_of g (AtOver h front (t ∷ back))) s.0 s.1 (Over s.0 s.1) (over-to (progress_of g (AtOver h front (t ∷ back))) s.0 s.1 few f)

over_node_entry : (g : GameData) (h : Head) (front : List PairStart) (t : PairStart) (back : List PairStart) → IsWhole front (t ∷ back) → entry_of (progress_of g (AtOver h front (t ∷ back))) (words_in (Node 0)) ≡ Ok (Node 0)
unfolding entry_after
over_node_entry g h front t back w =
    in_over-node (progress_of g (AtOver h front (t ∷ back))) (Node 0) (first-to (starts_of h.version front (t ∷ back)) (whole-to h.version front (t ∷ back) w))

first_entry : (g : GameData) (h : Head) → entry_of (progress_of g (AtStart h)) (words_in (Node 0)) ≡ Ok (Node 0)
unfolding entry_after
first_entry g h = node-to 0 [] (omega arith) tt

-- ---- from the first node on

node_written : IsWritten (words_in (Node 0))
node_written = numbered_written (codes "node") (pos 0 ∷ []) word_node (omega arith, tt)

body_by : (g : GameData) (k : CertificateData) (h : Head) (ns : List NodeData) (ps : List PointData) → IsGame g → AllByRecursion (NodeFits g h.nodes) ns → length ns ≡ h.nodes
    → AllByRecursion (PointFits g h.points) ps → length ps ≡ h.points → made_head h ns ps ≡ k → Known g (AtNode h [] zeros) → Can g (AtNode h [] zeros) k
body_by g k h [] ps game fn cn fp cp made known = absurd (omega (arith, cn, known.head.sizes.some_node))
body_by g k h (n ∷ ns) [] game fn cn fp cp made known = absurd (omega (arith, cp, known.head.sizes.some_points, game.shape.states))
body_by g k h (n ∷ ns) (p ∷ ps) game fn cn fp cp made known =
    nodes_can g k h ns [] n zeros game known fn.0 fn.1 (omega (arith, cn))
    (λ L there. points_can g k h (n ∷ ns) ps [] p L (pos 0) game there fp.0 fp.1 (omega (arith, cp)) made)

-- from a certificate's first node on
body_can : (g : GameData) (k : CertificateData) (h : Head) → IsGame g → CertificateFits g k → h.nodes ≡ length k.nodes → h.points ≡ length k.points → made_head h k.nodes k.points ≡ k
    → Known g (AtNode h [] zeros) → Can g (AtNode h [] zeros) k
body_can g k h game f a b made known =
    body_by g k h k.nodes k.points game (subst (λ (n : ℕ). AllByRecursion (NodeFits g n) k.nodes) (sym a) f.nodes) (sym a)
    (subst (λ (n : ℕ). AllByRecursion (PointFits g n) k.points) (sym b) f.points) (sym b) made known

-- ---- the starts

-- the head up to the sizes and the multiple
abbrev head_of : CertificateData → ℕ → Head
head_of k v = record {
  outcome = k.outcome;
  gap = k.gap;
  lower = k.lower;
  upper = k.upper;
  tail = k.tail;
  nodes = length k.nodes;
  points = length k.points;
  version = v;
  from = k.start_nodes;
  over = k.start_points;
  multiple = k.multiple;
  started = fresh v;
}

front_fits : (g : GameData) (k : CertificateData) (v : ℕ) → CertificateFits g k → FrontFits g (head_of k v)
front_fits g k v f = record {
  gap = f.gap;
  bounds = f.short;
  sizes = record { some_node = f.some_node; most_nodes = f.most_nodes; some_points = f.some_points; most_points = f.most_points };
  multiple = f.starts.multiple;
}

start_small : (count n : ℕ) → count ≤ most_members → n < count → n < 10 ^ 36
start_small count n few l = omega (arith, few, l)

-- the head of starts that make up a certificate
whole_head : (k : CertificateData) (h : Head) → h ≡ head_of k 2 → (front back : List PairStart) → reverse front ≡ k.start_nodes → reverse back ≡ k.start_points
    → made_head (with_starts h front back) k.nodes k.points ≡ k
whole_head k h e front back p q =
    ap (λ (x : Head). made_head (with_starts x front back) k.nodes k.points) e
    ∙ ap (λ (xs : List PairStart). made_head (record (head_of k 2) { from = xs; over = reverse back }) k.nodes k.points) p
    ∙ ap (λ (ys : List PairStart). made_head (record (head_of k 2) { from = k.start_nodes; over = ys }) k.nodes k.points) q

-- several starts: no one start node with one start point
abbrev Several : CertificateData → Type 0
Several k = AreSeveral k.start_nodes k.start_points

back_several : (k : CertificateData) (front back : List PairStart) → reverse front ≡ k.start_nodes → reverse back ≡ k.start_points → Several k → AreSeveral front back
back_several k front back p q (inl l) = inl (omega (arith, l, ap (λ (xs : List PairStart). length xs) p, long_reverse front))
back_several k front back p q (inr l) = inr (omega (arith, l, ap (λ (xs : List PairStart). length xs) q, long_reverse back))

-- the weights from behind
coprime_back : (back starts : List PairStart) → reverse back ≡ starts → AreCoprimeStarts starts → AreCoprimeStarts back
coprime_back back starts e c = subst AreCoprimeStarts (reverse-reverse back) (coprime_reverse (reverse back) (subst AreCoprimeStarts (sym e) c))

-- behind all starts
nodes_follow : (g : GameData) (k : CertificateData) (front : List PairStart) (s : PairStart) (back : List PairStart) → IsGame g → CertificateFits g k → Several k → reverse front ≡ k.start_nodes → reverse (s ∷ back) ≡ k.start_points
    → Known g (AtOver (head_of k 2) front (s ∷ back)) → Can g (AtOver (head_of k 2) front (s ∷ back)) k
nodes_follow g k front s back game f several p q known =
    let h = head_of k 2 in
    let w : IsWhole front (s ∷ back) = (coprime_back (s ∷ back) k.start_points q f.starts.over.coprime, back_several k front (s ∷ back) p q several) in
    can_step g (AtOver h front (s ∷ back)) (Node 0) (AtNode (with_starts h front (s ∷ back)) [] zeros) k (step_over_node g h front (s ∷ back) known w) (over_node_entry g h front s back w) node_written
    (λ there. body_can g k (with_starts h front (s ∷ back)) game f refl refl (whole_head k h refl front (s ∷ back) p q) there)

-- the starts that are left, each above the one before
abbrev Rise : List PairStart → List PairStart → Type 0
Rise back [] = Unit {0}
Rise back (s ∷ rest) = IsAbove back s.0 × AreRisingPairs (s ∷ rest)

rise_on : (back : List PairStart) (s : PairStart) (rest : List PairStart) → AreRisingPairs (s ∷ rest) → Rise (s ∷ back) rest
rise_on back s [] h = tt
rise_on back s (t ∷ rest) h = (h.0, h.1)

-- one start of those that are left goes behind those before
shifted : (back : List PairStart) (s : PairStart) (rest starts : List PairStart) → reverse back ++ (s ∷ rest) ≡ starts → reverse (s ∷ back) ++ rest ≡ starts
shifted back s rest starts e = ap (λ (xs : List PairStart). xs ++ rest) (reverse-cons s back) ∙ append_assoc (reverse back) (s ∷ []) rest ∙ e

overs_can : (g : GameData) (k : CertificateData) (front : List PairStart) (s : PairStart) (back rest : List PairStart) → IsGame g → CertificateFits g k → Several k → reverse front ≡ k.start_nodes
    → reverse (s ∷ back) ++ rest ≡ k.start_points → AllByRecursion (IsStart (length k.points) (pos most_over)) rest → Rise (s ∷ back) rest → coprime (weights_of (weights front)) ≡ Ok tt
    → Known g (AtOver (head_of k 2) front (s ∷ back)) → Can g (AtOver (head_of k 2) front (s ∷ back)) k
overs_can g k front s back [] game f several p q each rise c known = nodes_follow g k front s back game f several p (sym (append-nil (reverse (s ∷ back))) ∙ q) known
overs_can g k front s back (t ∷ rest) game f several p q each rise c known =
    let h = head_of k 2 in
    let few = start_small (length k.points) t.0 f.most_points each.0.0 in
    can_step g (AtOver h front (s ∷ back)) (Over t.0 t.1) (AtOver h front (t ∷ s ∷ back)) k (step_over g h front s back t.0 t.1 known rise.0 each.0)
    (over_entry g h front s back t few (record { start = each.0; above = rise.0; from = c }))
    (numbered_written (codes "over") (pos t.0 ∷ t.1 ∷ []) word_over (few, (small_within (pos 1) (pos most_over) t.1 (omega arith) (omega arith) each.0.1, tt)))
    (λ there. overs_can g k front t (s ∷ back) rest game f several p (shifted (s ∷ back) t rest k.start_points q) each.1 (rise_on (s ∷ back) t rest rise.1) c there)

first_over_can : (g : GameData) (k : CertificateData) (s : PairStart) (back rest : List PairStart) → IsGame g → CertificateFits g k → Several k → reverse (s ∷ back) ≡ k.start_nodes → rest ≡ k.start_points
    → Known g (AtFrom (head_of k 2) (s ∷ back)) → Can g (AtFrom (head_of k 2) (s ∷ back)) k
first_over_can g k s back [] game f several p q known = absurd (omega (arith, f.starts.over.some, ap (λ (xs : List PairStart). length xs) q))
first_over_can g k s back (t ∷ rest) game f several p q known =
    let h = head_of k 2 in
    let o : AreStarts (length k.points) (pos most_over) (t ∷ rest) = subst (AreStarts (length k.points) (pos most_over)) (sym q) f.starts.over in
    let few = start_small (length k.points) t.0 f.most_points o.each.0.0 in
    let cf = coprime_back (s ∷ back) k.start_nodes p f.starts.from.coprime in
    let c = coprime-to (s ∷ back) cf in
    can_step g (AtFrom h (s ∷ back)) (Over t.0 t.1) (AtOver h (s ∷ back) (t ∷ [])) k (step_first_over g h s back t.0 t.1 known cf o.each.0)
    (first_over_entry g h s back t few (record { start = o.each.0; above = tt; from = c }))
    (numbered_written (codes "over") (pos t.0 ∷ t.1 ∷ []) word_over (few, (small_within (pos 1) (pos most_over) t.1 (omega arith) (omega arith) o.each.0.1, tt)))
    (λ there. overs_can g k (s ∷ back) t [] rest game f several p q o.each.1 (rise_on [] t rest o.rising) c there)

froms_can : (g : GameData) (k : CertificateData) (back rest : List PairStart) → IsGame g → CertificateFits g k → Several k → reverse back ++ rest ≡ k.start_nodes
    → AllByRecursion (IsStart (length k.nodes) (pos most_from)) rest → Rise back rest → (weights_sum rest +ℤ weights_sum back) ≤ℤ pos most_from
    → Known g (AtFrom (head_of k 2) back) → Can g (AtFrom (head_of k 2) back) k
froms_can g k [] [] game f several p each rise sum known = absurd (omega (arith, f.starts.from.some, ap (λ (xs : List PairStart). length xs) p))
froms_can g k (s ∷ back) [] game f several p each rise sum known = first_over_can g k s back k.start_points game f several (sym (append-nil (reverse (s ∷ back))) ∙ p) refl known
froms_can g k back (t ∷ rest) game f several p each rise sum known =
    let h = head_of k 2 in
    let few = start_small (length k.nodes) t.0 f.most_nodes each.0.0 in
    let low = sum_low (length k.nodes) (pos most_from) rest each.1 in
    let fits : FromFits (progress_of g (AtFrom h back)) t.0 t.1 = record { start = each.0; above = from_above back t.0 rise.0; sum = omega (arith, ints, sum, low) } in
    can_step g (AtFrom h back) (From t.0 t.1) (AtFrom h (t ∷ back)) k (step_from g h back t.0 t.1 known fits rise.0) (from_entry g h back t few fits)
    (numbered_written (codes "from") (pos t.0 ∷ t.1 ∷ []) word_from (few, (small_within (pos 1) (pos most_from) t.1 (omega arith) (omega arith) each.0.1, tt)))
    (λ there. froms_can g k (t ∷ back) rest game f several (shifted back t rest k.start_nodes p) each.1 (rise_on back t rest rise.1) (omega (arith, ints, sum)) there)
  where
    from_above : (xs : List PairStart) (number : ℕ) → IsAbove xs number → IsAboveFrom (latest_from xs) number
    from_above [] number h = tt
    from_above (x ∷ xs) number h = h

rise_first : (starts : List PairStart) → AreRisingPairs starts → Rise [] starts
rise_first [] h = tt
rise_first (s ∷ starts) h = (tt, h)

several_can : (g : GameData) (k : CertificateData) → IsGame g → CertificateFits g k → Several k → Can g (sizes_of 2 (head_of k 2)) k
several_can g k game f several =
    let h = head_of k 2 in
    let ff = front_fits g k 2 f in
    can_step g (sizes_of 2 h) (Multiple h.multiple) (AtFrom h []) k (step_multiple g h ff refl) (multiple_entry g h refl f.starts.multiple)
    (numbered_written (codes "multiple") (h.multiple ∷ []) word_multiple (small_within (pos 1) (pos most_from) h.multiple (omega arith) (omega arith) f.starts.multiple, tt))
    (λ known. froms_can g k [] k.start_nodes game f several refl f.starts.from.each (rise_first k.start_nodes f.starts.from.rising) (omega (arith, ints, f.starts.from_sum)) known)

-- one start node and one start point
sole_can : (g : GameData) (k : CertificateData) (s t : PairStart) → IsGame g → CertificateFits g k → k.start_nodes ≡ s ∷ [] → k.start_points ≡ t ∷ [] → Can g (sizes_of 1 (head_of k 1)) k
sole_can g k s t game f p q =
    let h = head_of k 1 in
    let from : AreStarts (length k.nodes) (pos most_from) (s ∷ []) = subst (AreStarts (length k.nodes) (pos most_from)) p f.starts.from in
    let over : AreStarts (length k.points) (pos most_over) (t ∷ []) = subst (AreStarts (length k.points) (pos most_over)) q f.starts.over in
    let x = only_one s from.each.0.1.0 from.coprime in
    let z = only_one t over.each.0.1.0 over.coprime in
    let m = f.starts.single (ap (λ (xs : List PairStart). length xs) p) (ap (λ (xs : List PairStart). length xs) q) in
    let small : AllByRecursion Small (pos s.0 ∷ pos t.0 ∷ []) = (start_small (length k.nodes) s.0 f.most_nodes from.each.0.0, (start_small (length k.points) t.0 f.most_points over.each.0.0, tt)) in
    let hf : HeadFits g (single h s.0 t.0) = record {
      gap = f.gap;
      bounds = f.short;
      sizes = record { some_node = f.some_node; most_nodes = f.most_nodes; some_points = f.some_points; most_points = f.most_points };
      starts = one_start (length k.nodes) (length k.points) s.0 t.0 from.each.0.0 over.each.0.0;
    } in
    let made : made_head (single h s.0 t.0) k.nodes k.points ≡ k =
    ap (λ (n : ℤ). made_head (record h { from = (s.0, n) ∷ []; over = (t.0, pos 1) ∷ []; multiple = pos 1 }) k.nodes k.points) (sym x)
    ∙ ap (λ (n : ℤ). made_head (record h { from = s ∷ []; over = (t.0, n) ∷ []; multiple = pos 1 }) k.nodes k.points) (sym z)
    ∙ ap (λ (n : ℤ). made_head (record h { from = s ∷ []; over = t ∷ []; multiple = n }) k.nodes k.points) (sym m)
    ∙ ap (λ (xs : List PairStart). made_head (record h { from = xs; over = t ∷ [] }) k.nodes k.points) (sym p)
    ∙ ap (λ (ys : List PairStart). made_head (record h { from = k.start_nodes; over = ys }) k.nodes k.points) (sym q) in
    can_step g (sizes_of 1 h) (Start s.0 t.0) (AtStart (single h s.0 t.0)) k (step_start g h s.0 t.0 hf refl) (start_entry g h s.0 t.0 refl small from.each.0.0 over.each.0.0)
    (numbered_written (codes "start") (pos s.0 ∷ pos t.0 ∷ []) word_start small)
    (λ known. can_step g (AtStart (single h s.0 t.0)) (Node 0) (AtNode (single h s.0 t.0) [] zeros) k (step_first g (single h s.0 t.0) known) (first_entry g (single h s.0 t.0)) node_written
    (λ there. body_can g k (single h s.0 t.0) game f refl refl made there))

-- ---- the whole

-- the lines up to the sizes
head_can : (g : GameData) (k : CertificateData) (v : ℕ) → IsVersion v → CertificateFits g k → Can g (sizes_of v (head_of k v)) k → Can g AtNothing k
head_can g k v is f rest =
    let h = head_of k v in
    let o = k.outcome in
    let hf = front_fits g k v f in
    let brief : IsBrief k.gap = (small_within (pos 0) (pos most_gap) k.gap.num (omega arith) (omega arith) f.gap.0, small_within (pos 1) (pos most_gap_under) k.gap.den (omega arith) (omega arith) f.gap.1) in
    let sizes : AllByRecursion Small (pos h.nodes ∷ pos h.points ∷ []) = (small_few h.nodes f.most_nodes, (small_few h.points f.most_points, tt)) in
    can_step g AtNothing (Version v) (AtVersion v) k (step_version g v) (version_entry g v is) (version_written v is) (λ k1.
    can_step g (AtVersion v) (Outcome o) (AtOutcome v o) k (step_outcome g v o) (outcome_entry g v o) (outcome_written o) (λ k2.
    can_step g (AtOutcome v o) (Gap h.gap) (AtGap v o h.gap) k (step_gap g v o h.gap f.gap) (gap_entry g v o h.gap brief f.gap) (fraction_line_written (codes "gap") h.gap word_gap brief) (λ k3.
    can_step g (AtGap v o h.gap) (Lower h.lower) (AtLower v o h.gap h.lower) k (step_lower g v o h.gap h.lower (k3, f.short.0)) (lower_entry g v h hf) (fraction_line_written (codes "lower") h.lower word_lower (f.short.0.0, f.short.0.2)) (λ k4.
    can_step g (AtLower v o h.gap h.lower) (Upper h.upper) (AtUpper v o h.gap h.lower h.upper) k (step_upper g v o h.gap h.lower h.upper (f.gap, f.short.0, f.short.1)) (upper_entry g v h hf) (fraction_line_written (codes "upper") h.upper word_upper (f.short.1.0, f.short.1.2)) (λ k5.
    can_step g (AtUpper v o h.gap h.lower h.upper) (Tail h.tail) (AtTail v o h.gap h.lower h.upper h.tail) k (step_tail g v o h.gap h.lower h.upper h.tail (f.gap, f.short)) (tail_entry g v h hf) (fraction_line_written (codes "tail") h.tail word_tail (f.short.2.0, f.short.2.2)) (λ k6.
    can_step g (AtTail v o h.gap h.lower h.upper h.tail) (Sizes h.nodes h.points) (sizes_of v h) k (step_sizes g v o h.gap h.lower h.upper h.tail h.nodes h.points (f.gap, f.short, hf.sizes)) (sizes_entry g v h hf)
    (numbered_written (codes "sizes") (pos h.nodes ∷ pos h.points ∷ []) word_sizes sizes) (λ k7. rest)))))))

by_starts : (g : GameData) (k : CertificateData) (from over : List PairStart) → IsGame g → CertificateFits g k → k.start_nodes ≡ from → k.start_points ≡ over → Can g AtNothing k
by_starts g k [] over game f p q = absurd (omega (arith, f.starts.from.some, ap (λ (xs : List PairStart). length xs) p))
by_starts g k (s ∷ []) [] game f p q = absurd (omega (arith, f.starts.over.some, ap (λ (xs : List PairStart). length xs) q))
by_starts g k (s ∷ []) (t ∷ []) game f p q = head_can g k 1 (inl refl) f (sole_can g k s t game f p q)
by_starts g k (s ∷ []) (t ∷ u ∷ over) game f p q =
    let m : Several k = inr (omega (arith, ap (λ (xs : List PairStart). length xs) q)) in head_can g k 2 (inr refl) f (several_can g k game f m)
by_starts g k (s ∷ r ∷ from) over game f p q =
    let m : Several k = inl (omega (arith, ap (λ (xs : List PairStart). length xs) p)) in head_can g k 2 (inr refl) f (several_can g k game f m)

pub certificate_can : (g : GameData) (k : CertificateData) → IsGame g → CertificateFits g k → Can g AtNothing k
certificate_can g k game f = by_starts g k k.start_nodes k.start_points game f refl refl

-- ---- the bytes

no_lines : lines_of [] ≡ []
unfolding lines_of
no_lines = refl

lines_accepted : (g : GameData) (es : List Entry) (k : CertificateData) (w : Writes g AtNothing k es) → AcceptsAll g (lines_text (map words_in es)) es
lines_accepted g es k w =
    let lines = map words_in es in
    let e = append-nil (lines_text lines) in
    let said = ap lines_of (sym e) ∙ lines_of-lines lines [] w.written ∙ ap (λ (ls : List Line). lines ++ ls) no_lines in
    let after = ap (λ (l : List ℕ). after_lines (length lines) l) (sym e) ∙ after_lines-lines lines [] w.written in
    (((lines, said, w.say), w.end), ap (λ (n : ℕ). after_lines n (lines_text lines)) (sym (say_long (start_of g) lines es w.say)) ∙ after)

-- the text of this certificate as it is read
pub record ReadAs (g : GameData) (bytes : List ℕ) (k : CertificateData) : Type 0 where
  pub entries : List Entry
  pub accepts : AcceptsAll g bytes entries
  pub made : certificate_of g entries ≡ k

text_reads : (g : GameData) (bytes : List ℕ) (k : CertificateData) → IsGame g → IsTextFor g k bytes → ReadAs g bytes k
text_reads g bytes k game t =
    let c = certificate_can g k game t.0 in
    let es = c.0 in
    let w = c.1 in
    let lines = map words_in es in
    let text = say_text g lines es game w.say w.end in
    let same : lines_text lines ≡ bytes = text.1 ∙ ap certificate_text w.made ∙ sym t.1 in
    record { entries = es; accepts = subst (λ (x : List ℕ). AcceptsAll g x es) same (lines_accepted g es k w); made = w.made }

pub texts_are_read : (g : GameData) (bytes : List ℕ) (k : CertificateData) → IsGame g → IsTextFor g k bytes → (entries : List Entry) × AcceptsCert g bytes entries × (certificate_of g entries ≡ k)
texts_are_read g bytes k game t = let r = text_reads g bytes k game t in (r.entries, accepts_from g bytes r.entries game r.accepts, r.made)

pub one_certificate : (g : GameData) (bytes : List ℕ) (k m : CertificateData) → IsGame g → IsTextFor g k bytes → IsTextFor g m bytes → k ≡ m
one_certificate g bytes k m game t u =
    let a = texts_are_read g bytes k game t in
    let b = texts_are_read g bytes m game u in
    sym a.2 ∙ ap (λ (es : List Entry). certificate_of g es) (accepted_once g bytes a.0 b.0 a.1 b.1) ∙ b.2
