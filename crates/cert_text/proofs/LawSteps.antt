-- From stage to stage: what a line says goes on to the next stage.
use Rattle.std.proofs.Common.{◌≡◌, ℕ, zero, suc, ◌+◌, ◌<◌, ◌≤◌, List, [], ◌∷◌, ◌++◌, reverse, length, Ok, ℤ, pos, refl, sym, ap, subst, ◌∙◌, arith, inl, inr, append_assoc, append-nil}
use Rattle.std.specs.Prelude.{flat_map, codes}
use Rattle.std.specs.List.{AllByRecursion}
use Rattle.std.proofs.lemmas.Int.{ints}
use mathlib.Core.List.{reverse-cons}
use Rattle.std.proofs.lemmas.List.Concat.{flat_map-append}
use Rattle.scaled_num.specs.Sums.{sum_of}
use Rattle.text_words.specs.Lines.{Line, line_text}
use Rattle.game_model.specs.Branches.{Branch, mix_total}
use Rattle.game_model.specs.Game.{GameData, IsGame}
use Rattle.alpha_set.specs.Nodes.{NodeData, NodeFits, no_node}
use Rattle.point_set.specs.Points.{PointData, PointFits, most_share, no_point}
use Rattle.controller.specs.Certificates.{Ending, FractionData}
use Rattle.cert_text.specs.declared.progress.Latest.TheVariants as latest
use Rattle.cert_text.specs.Text.{fraction_line, branch_line, node_text, point_text}
use Rattle.text_words.specs.Spelled.{line_of}
use Rattle.cert_text.specs.Entries.{Entry, Version, Outcome, Gap, Lower, Upper, Tail, Sizes, Start, Multiple, From, Over, Node, Vector, Mix, Next, Point, Belief, Value, Mixes, Split, End, entry_of, entry_after, in_node, limits_of, progress_after, pair_at, lacking_of, lacking_less}
use Rattle.cert_text.specs.Made.{at_last, new_point, with_entry}
use Rattle.cert_text.proofs.LawGuards.{IsNone}
use Rattle.cert_text.proofs.LawSaid.{words_in, Is, version-ok, outcome-ok, gap-ok, lower-ok, upper-ok, tail-ok, sizes-ok, node-ok, vector-ok, mix-ok, belief-ok, value-ok, mixes-ok, InNode, in_node-ok, InPoint, in_point-ok, InMixes, in_mixes-ok, BranchFits, NextFits, MixFits, ValueFits}
use Rattle.cert_text.proofs.LawLists.{at_last_is, length_more, texts_more}
use Rattle.cert_text.proofs.LawParts.{lacks_first, lacks_more, step_after, share_after, branches_more, node_fits, rows_none, rows_more, mixes_text_more, point_fits}
use Rattle.cert_text.proofs.LawStages.{Head, Stage, AtNothing, AtVersion, AtOutcome, AtGap, AtLower, AtUpper, AtTail, AtSizes, AtFrom, AtOver, AtStart, AtNode, AtVector, AtSteps, AtPoint, AtBelief, AtMixes, AtSplits, AtEnd, progress_with, zeros, progress_of, made_head, node_from, mixes_from, point_from, made_of, version_bytes, outcome_bytes, sizes_bytes, start_bytes, head_bytes, nodes_bytes, points_bytes, node_line, vector_line, point_line, belief_line, value_line, mixes_bytes, text_of, HeadFits, NodesFit, NodesDone, StepsFit, BranchesFit, PointsFit, PartFits, IsDone, Known}
use Rattle.text_words.proofs.Texts.{each_more}
use Rattle.controller.specs.Starts.{IsStart, StartsFit, most_from, most_over}
use Rattle.cert_text.specs.Rules.{AreCoprimeStarts}
use Rattle.cert_text.specs.Text.{start_line, starts_text, version_word, weighted_text}
use Rattle.cert_text.proofs.LawWords.{version_word_of}
use Rattle.cert_text.proofs.LawStarts.{from-ok, InSizes, in_sizes-ok, InFrom, in_from-ok, InOver, in_over-ok, FromFits}
use Rattle.cert_text.proofs.StartWeights.{Start as PairStart, AreSeveral, IsAbove, IsWhole, are_starts, coprime-ok, one_start, start_more, sum_reverse, whole-ok, long_reverse}
use Rattle.cert_text.proofs.LawStages.{FrontFits, FromsDone, FromsFit, HeadFits, fresh, from_bytes, front_bytes, multiple_bytes, over_bytes, with_starts}
use Rattle.std.specs.Prelude.{◌≤ℤ◌}
use Rattle.std.proofs.Common.{Bool, true, false, cond, eqb}

-- behind this entry there is that stage
pub record To (g : GameData) (s : Stage) (e : Entry) (t : Stage) : Type 0 where
  pub progress : progress_after (progress_of g s) e ≡ progress_of g t
  pub made : with_entry (limits_of g) (made_of g s) e ≡ made_of g t
  pub text : (text_of g s ++ line_text (words_in e)) ≡ text_of g t
  pub known : Known g t

-- behind this entry there is a further stage
abbrev pub Follows : GameData → Stage → Entry → Type 0
Follows g s e = (t : Stage) × To g s e t

abbrev pub Goes : GameData → Stage → Line → Entry → Type 0
Goes g s line e = (line ≡ words_in e) × Follows g s e

said : (g : GameData) (s : Stage) (line : Line) (e x : Entry) → Is line e x → Follows g s x → Goes g s line e
said g s line e x p f = subst (λ (y : Entry). (line ≡ words_in y) × Follows g s y) (sym p.0) (p.1, f)

-- ---- texts with one more line

deep2 : (a b l : List ℕ) → (a ++ b) ++ l ≡ a ++ (b ++ l)
deep2 a b l = append_assoc a b l

deep3 : (a b c l : List ℕ) → (a ++ (b ++ c)) ++ l ≡ a ++ (b ++ (c ++ l))
deep3 a b c l = append_assoc a (b ++ c) l ∙ ap (λ (x : List ℕ). a ++ x) (deep2 b c l)

deep4 : (a b c d l : List ℕ) → (a ++ (b ++ (c ++ d))) ++ l ≡ a ++ (b ++ (c ++ (d ++ l)))
deep4 a b c d l = append_assoc a (b ++ (c ++ d)) l ∙ ap (λ (x : List ℕ). a ++ x) (deep3 b c d l)

deep5 : (a b c d e l : List ℕ) → (a ++ (b ++ (c ++ (d ++ e)))) ++ l ≡ a ++ (b ++ (c ++ (d ++ (e ++ l))))
deep5 a b c d e l = append_assoc a (b ++ (c ++ (d ++ e))) l ∙ ap (λ (x : List ℕ). a ++ x) (deep4 b c d e l)

deep6 : (a b c d e f l : List ℕ) → (a ++ (b ++ (c ++ (d ++ (e ++ f))))) ++ l ≡ a ++ (b ++ (c ++ (d ++ (e ++ (f ++ l)))))
deep6 a b c d e f l = append_assoc a (b ++ (c ++ (d ++ (e ++ f)))) l ∙ ap (λ (x : List ℕ). a ++ x) (deep5 b c d e f l)

deep7 : (a b c d e f h l : List ℕ) → (a ++ (b ++ (c ++ (d ++ (e ++ (f ++ h)))))) ++ l ≡ a ++ (b ++ (c ++ (d ++ (e ++ (f ++ (h ++ l))))))
deep7 a b c d e f h l = append_assoc a (b ++ (c ++ (d ++ (e ++ (f ++ h))))) l ∙ ap (λ (x : List ℕ). a ++ x) (deep6 b c d e f h l)

deep8 : (a b c d e f h i l : List ℕ) → (a ++ (b ++ (c ++ (d ++ (e ++ (f ++ (h ++ i))))))) ++ l ≡ a ++ (b ++ (c ++ (d ++ (e ++ (f ++ (h ++ (i ++ l)))))))
deep8 a b c d e f h i l = append_assoc a (b ++ (c ++ (d ++ (e ++ (f ++ (h ++ i)))))) l ∙ ap (λ (x : List ℕ). a ++ x) (deep7 b c d e f h i l)

branches_text : (name : List ℕ) (back : List Branch) (b : Branch) → flat_map (branch_line name) (reverse back) ++ branch_line name b ≡ flat_map (branch_line name) (reverse (b ∷ back))
branches_text name back b =
    let more : flat_map (branch_line name) (reverse (b ∷ back)) ≡ flat_map (branch_line name) (reverse back) ++ branch_line name b =
    ap (flat_map (branch_line name)) (reverse-cons b back) ∙ flat_map-append (branch_line name) (reverse back) (b ∷ [])
    ∙ ap (λ (x : List ℕ). flat_map (branch_line name) (reverse back) ++ x) (append-nil (branch_line name b)) in
    sym more

-- ---- the nodes

last_node : (h : Head) (f : NodeData → NodeData) (ns : List NodeData) (n m : NodeData) → f n ≡ m → made_head h (at_last f (ns ++ n ∷ [])) [] ≡ made_head h (ns ++ m ∷ []) []
last_node h f ns n m e = ap (λ (xs : List NodeData). made_head h xs []) (at_last_is f ns n ∙ ap (λ (x : NodeData). ns ++ x ∷ []) e)

pub step_next : (g : GameData) (h : Head) (ns : List NodeData) (v m : List ℤ) (back : List Branch) (L : List ℤ) (b : Branch) → IsGame g → NodesFit g h ns → StepsFit g h v m back L
    → NextFits (progress_of g (AtSteps h ns v m back L)) b
    → To g (AtSteps h ns v m back L) (Next b) (AtSteps h ns v m (b ∷ back) (lacking_less L (pair_at (limits_of g) b) b.weight))
step_next g h ns v m back L b game before k f = record {
  progress = refl;
  made = last_node h (λ (n : NodeData). record n { next = n.next ++ b ∷ [] }) ns (node_from v m back) (node_from v m (b ∷ back)) (ap (λ (xs : List Branch). record { vector = v; mix = m; next = xs }) (sym (reverse-cons b back)));
  text = deep6 (head_bytes h) (nodes_bytes ns) (node_line (length ns)) (vector_line v) (line_of (codes "mix") m) (flat_map (branch_line (codes "next")) (reverse back)) (branch_line (codes "next") b)
      ∙ ap (λ (x : List ℕ). head_bytes h ++ (nodes_bytes ns ++ (node_line (length ns) ++ (vector_line v ++ (line_of (codes "mix") m ++ x))))) (branches_text (codes "next") back b);
  known = (
    before,
    record {
      vector = k.vector;
      mix = k.mix;
      steps = branches_more g h.nodes (pos mix_total) back b k.steps (step_after back b f.branch.later) (record { own = f.branch.own; seen = f.branch.seen; member = f.branch.member; weight = f.branch.weight });
      lacks = lacks_more g m back L b game.shape k.lacks f.branch.own f.branch.seen;
    },
  );
}

pub step_node : (g : GameData) (h : Head) (ns : List NodeData) (v m : List ℤ) (back : List Branch) (L : List ℤ) → NodesFit g h ns → StepsFit g h v m back L
    → length ns + 1 < h.nodes → AllByRecursion IsNone L
    → To g (AtSteps h ns v m back L) (Node (length ns + 1)) (AtNode h (ns ++ node_from v m back ∷ []) L)
step_node g h ns v m back L before k more none =
    let n = node_from v m back in
    let e = length_more ns n in
    record {
      progress = ap (λ (x : ℕ). progress_with g h.started h.nodes h.points (x + 1) latest.Node 0 L (pos 0)) (sym e);
      made = refl;
      text = append_assoc (head_bytes h) (nodes_bytes ns ++ node_text (length ns) n) (node_line (length ns + 1))
          ∙ ap (λ (x : List ℕ). head_bytes h ++ (x ++ node_line (length ns + 1))) (sym (texts_more node_text no_node ns n))
          ∙ ap (λ (x : ℕ). head_bytes h ++ (nodes_bytes (ns ++ n ∷ []) ++ node_line x)) (sym e);
      known = record { head = before.head; each = each_more (NodeFits g h.nodes) ns n before.each (node_fits g h v m back L k none); more = omega (arith, more, e) };
    }

pub step_point : (g : GameData) (h : Head) (ns : List NodeData) (v m : List ℤ) (back : List Branch) (L : List ℤ) → IsGame g → NodesFit g h ns → StepsFit g h v m back L
    → h.nodes ≤ length ns + 1 → AllByRecursion IsNone L
    → To g (AtSteps h ns v m back L) (Point 0) (AtPoint h (ns ++ node_from v m back ∷ []) [] L (pos 0))
step_point g h ns v m back L game before k last none =
    let n = node_from v m back in
    let e = length_more ns n in
    record {
      progress = refl;
      made = refl;
      text = append_assoc (head_bytes h) (nodes_bytes ns ++ node_text (length ns) n) (point_line 0)
          ∙ ap (λ (x : List ℕ). head_bytes h ++ (x ++ point_line 0)) (sym (texts_more node_text no_node ns n));
      known = record {
        nodes = record { head = before.head; each = each_more (NodeFits g h.nodes) ns n before.each (node_fits g h v m back L k none); all = omega (arith, last, e, before.more) };
        each = tt;
        more = omega (arith, game.shape.states, before.head.sizes.some_points);
      };
    }

steps_said : (g : GameData) (h : Head) (ns : List NodeData) (v m : List ℤ) (back : List Branch) (L : List ℤ) (line : Line) (e : Entry) → IsGame g → NodesFit g h ns → StepsFit g h v m back L
    → InNode (progress_of g (AtSteps h ns v m back L)) line e → Goes g (AtSteps h ns v m back L) line e
steps_said g h ns v m back L line e game before k (inl p) =
    said g (AtSteps h ns v m back L) line e (Next p.0) p.1 (AtSteps h ns v m (p.0 ∷ back) (lacking_less L (pair_at (limits_of g) p.0) p.0.weight), step_next g h ns v m back L p.0 game before k p.2)
steps_said g h ns v m back L line e game before k (inr (inl p)) =
    said g (AtSteps h ns v m back L) line e (Node (length ns + 1)) p.0 (AtNode h (ns ++ node_from v m back ∷ []) L, step_node g h ns v m back L before k p.1 p.2)
steps_said g h ns v m back L line e game before k (inr (inr p)) =
    said g (AtSteps h ns v m back L) line e (Point 0) p.0 (AtPoint h (ns ++ node_from v m back ∷ []) [] L (pos 0), step_point g h ns v m back L game before k p.1 p.2)

in_steps : (g : GameData) (h : Head) (ns : List NodeData) (v m : List ℤ) (back : List Branch) (L : List ℤ) (line : Line) (e : Entry)
    → entry_of (progress_of g (AtSteps h ns v m back L)) line ≡ Ok e → in_node (progress_of g (AtSteps h ns v m back L)) line ≡ Ok e
unfolding entry_after
in_steps g h ns v m [] L line e p = p
in_steps g h ns v m (b ∷ back) L line e p = p

-- ---- the points

last_point : (h : Head) (ns : List NodeData) (f : PointData → PointData) (ps : List PointData) (n m : PointData) → f n ≡ m → made_head h ns (at_last f (ps ++ n ∷ [])) ≡ made_head h ns (ps ++ m ∷ [])
last_point h ns f ps n m e = ap (λ (xs : List PointData). made_head h ns xs) (at_last_is f ps n ∙ ap (λ (x : PointData). ps ++ x ∷ []) e)

pub step_mix : (g : GameData) (h : Head) (ns : List NodeData) (ps : List PointData) (b : List ℤ) (v : ℤ) (s : ℕ) (w L more : List ℤ) → PointsFit g h ns ps → PartFits g b v s w
    → MixFits g.shape.informed_actions more → s < g.shape.states → To g (AtMixes h ns ps b v s w L) (Mixes s more) (AtMixes h ns ps b v (suc s) (w ++ more) L)
step_mix g h ns ps b v s w L more before k f l =
    let e : s + 1 ≡ suc s = omega arith in
    record {
      progress = ap (λ (x : ℕ). progress_with g h.started h.nodes h.points (length ps + 1) latest.Mixes x L (sum_of b)) e;
      made = last_point h ns (λ (p : PointData). record p { mixes = record p.mixes { weights = p.mixes.weights ++ more } }) ps (point_from g b v w []) (point_from g b v (w ++ more) []) refl;
      text = deep7 (head_bytes h) (nodes_bytes ns) (points_bytes ps) (point_line (length ps)) (belief_line b) (value_line v) (mixes_bytes g w s) (line_of (codes "mix") (pos s ∷ more))
          ∙ ap (λ (x : List ℕ). head_bytes h ++ (nodes_bytes ns ++ (points_bytes ps ++ (point_line (length ps) ++ (belief_line b ++ (value_line v ++ x)))))) (sym (mixes_text_more g s w more k.rows.long f.long));
      known = (before, record { belief = k.belief; value = k.value; rows = rows_more g s w more k.rows l f });
    }

pub step_split : (g : GameData) (h : Head) (ns : List NodeData) (ps : List PointData) (b : List ℤ) (v : ℤ) (w : List ℤ) (back : List Branch) (s : ℕ) (L : List ℤ) (d : Branch)
    → PointsFit g h ns ps → PartFits g b v g.shape.states w → BranchesFit g h.points most_share back → s ≡ g.shape.states
    → BranchFits most_share h.points (progress_of g (AtSplits h ns ps b v w back s L)) d → To g (AtSplits h ns ps b v w back s L) (Split d) (AtSplits h ns ps b v w (d ∷ back) s L)
step_split g h ns ps b v w back s L d before k shares full f =
    record {
      progress = refl;
      made = last_point h ns (λ (p : PointData). record p { splits = p.splits ++ d ∷ [] }) ps (point_from g b v w back) (point_from g b v w (d ∷ back)) (ap (λ (xs : List Branch). record { belief = b; value = v; mixes = mixes_from g w; splits = xs }) (sym (reverse-cons d back)));
      text = deep8 (head_bytes h) (nodes_bytes ns) (points_bytes ps) (point_line (length ps)) (belief_line b) (value_line v) (mixes_bytes g w g.shape.states) (flat_map (branch_line (codes "split")) (reverse back)) (branch_line (codes "split") d)
          ∙ ap (λ (x : List ℕ). head_bytes h ++ (nodes_bytes ns ++ (points_bytes ps ++ (point_line (length ps) ++ (belief_line b ++ (value_line v ++ (mixes_bytes g w g.shape.states ++ x))))))) (branches_text (codes "split") back d);
      known = (before, k, branches_more g h.points most_share back d shares (share_after back d f.later) (record { own = f.own; seen = f.seen; member = f.member; weight = f.weight }), full);
    }

pub step_further : (g : GameData) (h : Head) (ns : List NodeData) (ps : List PointData) (b : List ℤ) (v : ℤ) (w : List ℤ) (back : List Branch) (s : ℕ) (L : List ℤ)
    → PointsFit g h ns ps → PartFits g b v g.shape.states w → BranchesFit g h.points most_share back → length ps + 1 < h.points
    → To g (AtSplits h ns ps b v w back s L) (Point (length ps + 1)) (AtPoint h ns (ps ++ point_from g b v w back ∷ []) L (sum_of b))
step_further g h ns ps b v w back s L before k shares more =
    let p = point_from g b v w back in
    let e = length_more ps p in
    record {
      progress = ap (λ (x : ℕ). progress_with g h.started h.nodes h.points (x + 1) latest.Point 0 L (sum_of b)) (sym e);
      made = refl;
      text = deep2 (head_bytes h) (nodes_bytes ns ++ (points_bytes ps ++ point_text (length ps) p)) (point_line (length ps + 1))
          ∙ ap (λ (x : List ℕ). head_bytes h ++ x) (append_assoc (nodes_bytes ns) (points_bytes ps ++ point_text (length ps) p) (point_line (length ps + 1)))
          ∙ ap (λ (x : List ℕ). head_bytes h ++ (nodes_bytes ns ++ (x ++ point_line (length ps + 1)))) (sym (texts_more point_text no_point ps p))
          ∙ ap (λ (x : ℕ). head_bytes h ++ (nodes_bytes ns ++ (points_bytes (ps ++ p ∷ []) ++ point_line x))) (sym e);
      known = record { nodes = before.nodes; each = each_more (PointFits g h.points) ps p before.each (point_fits g h b v w back k shares); more = omega (arith, more, e) };
    }

certificate_fits : (g : GameData) (h : Head) (ns : List NodeData) (ps : List PointData) → NodesDone g h ns → AllByRecursion (PointFits g h.points) ps → length ps ≡ h.points → IsDone g h ns ps
certificate_fits g h ns ps k each all =
    let head = k.head in
    record {
      fits = record {
        some_node = omega (arith, head.sizes.some_node, k.all);
        most_nodes = omega (arith, head.sizes.most_nodes, k.all);
        some_points = omega (arith, head.sizes.some_points, all);
        most_points = omega (arith, head.sizes.most_points, all);
        nodes = subst (λ (x : ℕ). AllByRecursion (NodeFits g x) ns) (sym k.all) k.each;
        points = subst (λ (x : ℕ). AllByRecursion (PointFits g x) ps) (sym all) each;
        starts = subst (λ (n : ℕ). StartsFit n (length ps) h.from h.over h.multiple) (sym k.all) (subst (λ (n : ℕ). StartsFit h.nodes n h.from h.over h.multiple) (sym all) head.starts);
        gap = head.gap;
        short = head.bounds;
      };
      nodes = k.all;
      points = all;
    }

pub step_end : (g : GameData) (h : Head) (ns : List NodeData) (ps : List PointData) (b : List ℤ) (v : ℤ) (w : List ℤ) (back : List Branch) (s : ℕ) (L : List ℤ)
    → PointsFit g h ns ps → PartFits g b v g.shape.states w → BranchesFit g h.points most_share back → h.points ≤ length ps + 1
    → To g (AtSplits h ns ps b v w back s L) End (AtEnd h ns (ps ++ point_from g b v w back ∷ []) s L (sum_of b))
step_end g h ns ps b v w back s L before k shares last =
    let p = point_from g b v w back in
    let e = length_more ps p in
    record {
      progress = ap (λ (x : ℕ). progress_with g h.started h.nodes h.points x latest.End s L (sum_of b)) (sym e);
      made = refl;
      text = deep2 (head_bytes h) (nodes_bytes ns ++ (points_bytes ps ++ point_text (length ps) p)) (line_of (codes "end") [])
          ∙ ap (λ (x : List ℕ). head_bytes h ++ x) (append_assoc (nodes_bytes ns) (points_bytes ps ++ point_text (length ps) p) (line_of (codes "end") []))
          ∙ ap (λ (x : List ℕ). head_bytes h ++ (nodes_bytes ns ++ (x ++ line_of (codes "end") []))) (sym (texts_more point_text no_point ps p));
      known = certificate_fits g h ns (ps ++ p ∷ []) before.nodes (each_more (PointFits g h.points) ps p before.each (point_fits g h b v w back k shares)) (omega (arith, last, before.more, e));
    }

shares_said : (g : GameData) (h : Head) (ns : List NodeData) (ps : List PointData) (b : List ℤ) (v : ℤ) (w : List ℤ) (back : List Branch) (s : ℕ) (L : List ℤ) (line : Line) (e : Entry)
    → PointsFit g h ns ps → PartFits g b v g.shape.states w → BranchesFit g h.points most_share back → s ≡ g.shape.states
    → InPoint (progress_of g (AtSplits h ns ps b v w back s L)) line e → Goes g (AtSplits h ns ps b v w back s L) line e
shares_said g h ns ps b v w back s L line e before k shares full (inl p) =
    said g (AtSplits h ns ps b v w back s L) line e (Split p.0) p.1 (AtSplits h ns ps b v w (p.0 ∷ back) s L, step_split g h ns ps b v w back s L p.0 before k shares full p.2)
shares_said g h ns ps b v w back s L line e before k shares full (inr (inl p)) =
    said g (AtSplits h ns ps b v w back s L) line e (Point (length ps + 1)) p.0 (AtPoint h ns (ps ++ point_from g b v w back ∷ []) L (sum_of b), step_further g h ns ps b v w back s L before k shares p.1)
shares_said g h ns ps b v w back s L line e before k shares full (inr (inr p)) =
    said g (AtSplits h ns ps b v w back s L) line e End p.0 (AtEnd h ns (ps ++ point_from g b v w back ∷ []) s L (sum_of b), step_end g h ns ps b v w back s L before k shares p.1)

in_shares : (g : GameData) (h : Head) (ns : List NodeData) (ps : List PointData) (b : List ℤ) (v : ℤ) (w : List ℤ) (back : List Branch) (s : ℕ) (L : List ℤ) (line : Line) (e : Entry) → s ≡ g.shape.states
    → entry_of (progress_of g (AtSplits h ns ps b v w back s L)) line ≡ Ok e → InPoint (progress_of g (AtSplits h ns ps b v w back s L)) line e
unfolding entry_after
in_shares g h ns ps b v w [] s L line e full p = elim (in_mixes-ok (progress_of g (AtSplits h ns ps b v w [] s L)) line e p) [
  | inl q ↦ absurd (omega (arith, q.3, full))
  | inr q ↦ q.0
]
in_shares g h ns ps b v w (d ∷ back) s L line e full p = in_point-ok (progress_of g (AtSplits h ns ps b v w (d ∷ back) s L)) line e p

-- the mixes of all states, and no share yet
no_share : (g : GameData) (members : ℕ) → BranchesFit g members most_share []
no_share g members = record { falls = tt; each = tt }

mixes_end : (g : GameData) (h : Head) (ns : List NodeData) (ps : List PointData) (b : List ℤ) (v : ℤ) (w : List ℤ) (s : ℕ) (L : List ℤ) → suc s ≡ g.shape.states
    → text_of g (AtMixes h ns ps b v (suc s) w L) ≡ text_of g (AtSplits h ns ps b v w [] (suc s) L)
mixes_end g h ns ps b v w s L full =
    ap (λ (x : List ℕ). head_bytes h ++ (nodes_bytes ns ++ (points_bytes ps ++ (point_line (length ps) ++ (belief_line b ++ (value_line v ++ x))))))
    (ap (mixes_bytes g w) full ∙ sym (append-nil (mixes_bytes g w g.shape.states)))

past_mixes : (g : GameData) (h : Head) (ns : List NodeData) (ps : List PointData) (b : List ℤ) (v : ℤ) (w : List ℤ) (s : ℕ) (L : List ℤ) (line : Line) (e : Entry) → suc s ≡ g.shape.states
    → Goes g (AtSplits h ns ps b v w [] (suc s) L) line e → Goes g (AtMixes h ns ps b v (suc s) w L) line e
past_mixes g h ns ps b v w s L line e full q = (
  q.0,
  (
    q.1.0,
    record {
      progress = q.1.1.progress;
      made = q.1.1.made;
      text = ap (λ (x : List ℕ). x ++ line_text (words_in e)) (mixes_end g h ns ps b v w s L full) ∙ q.1.1.text;
      known = q.1.1.known;
    },
  ),
)

mixes_by : (g : GameData) (h : Head) (ns : List NodeData) (ps : List PointData) (b : List ℤ) (v : ℤ) (w : List ℤ) (s : ℕ) (L : List ℤ) (line : Line) (e : Entry)
    → PointsFit g h ns ps → PartFits g b v (suc s) w → InMixes (progress_of g (AtMixes h ns ps b v (suc s) w L)) line e → Goes g (AtMixes h ns ps b v (suc s) w L) line e
mixes_by g h ns ps b v w s L line e before k (inl p) =
    said g (AtMixes h ns ps b v (suc s) w L) line e (Mixes (suc s) p.0) p.1 (AtMixes h ns ps b v (suc (suc s)) (w ++ p.0) L, step_mix g h ns ps b v (suc s) w L p.0 before k p.2 p.3)
mixes_by g h ns ps b v w s L line e before k (inr p) =
    let full : suc s ≡ g.shape.states = omega (arith, p.1, k.rows.few) in
    past_mixes g h ns ps b v w s L line e full
    (shares_said g h ns ps b v w [] (suc s) L line e before (subst (λ (x : ℕ). PartFits g b v x w) full k) (no_share g h.points) full p.0)

-- ---- the lines before the nodes, and the first lines of a node and of a point

pub step_version : (g : GameData) (v : ℕ) → To g AtNothing (Version v) (AtVersion v)
step_version g v = record { progress = refl; made = refl; text = refl; known = tt }

pub step_outcome : (g : GameData) (v : ℕ) (o : Ending) → To g (AtVersion v) (Outcome o) (AtOutcome v o)
step_outcome g v o = record { progress = refl; made = refl; text = refl; known = tt }

pub step_gap : (g : GameData) (v : ℕ) (o : Ending) (gap : FractionData) → Known g (AtGap v o gap) → To g (AtOutcome v o) (Gap gap) (AtGap v o gap)
step_gap g v o gap k = record { progress = refl; made = refl; text = deep2 (version_bytes (version_word_of v)) (outcome_bytes o) (fraction_line (codes "gap") gap); known = k }

pub step_lower : (g : GameData) (v : ℕ) (o : Ending) (gap lower : FractionData) → Known g (AtLower v o gap lower) → To g (AtGap v o gap) (Lower lower) (AtLower v o gap lower)
step_lower g v o gap lower k =
    record { progress = refl; made = refl; text = deep3 (version_bytes (version_word_of v)) (outcome_bytes o) (fraction_line (codes "gap") gap) (fraction_line (codes "lower") lower); known = k }

pub step_upper : (g : GameData) (v : ℕ) (o : Ending) (gap lower upper : FractionData) → Known g (AtUpper v o gap lower upper) → To g (AtLower v o gap lower) (Upper upper) (AtUpper v o gap lower upper)
step_upper g v o gap lower upper k = record {
  progress = refl;
  made = refl;
  text = deep4 (version_bytes (version_word_of v)) (outcome_bytes o) (fraction_line (codes "gap") gap) (fraction_line (codes "lower") lower) (fraction_line (codes "upper") upper);
  known = k;
}

pub step_tail : (g : GameData) (v : ℕ) (o : Ending) (gap lower upper tail : FractionData) → Known g (AtTail v o gap lower upper tail) → To g (AtUpper v o gap lower upper) (Tail tail) (AtTail v o gap lower upper tail)
step_tail g v o gap lower upper tail k = record {
  progress = refl;
  made = refl;
  text = deep5 (version_bytes (version_word_of v)) (outcome_bytes o) (fraction_line (codes "gap") gap) (fraction_line (codes "lower") lower) (fraction_line (codes "upper") upper) (fraction_line (codes "tail") tail);
  known = k;
}

pub step_sizes : (g : GameData) (v : ℕ) (o : Ending) (gap lower upper tail : FractionData) (nodes points : ℕ) → Known g (AtSizes v o gap lower upper tail nodes points)
    → To g (AtTail v o gap lower upper tail) (Sizes nodes points) (AtSizes v o gap lower upper tail nodes points)
step_sizes g v o gap lower upper tail nodes points k = record {
  progress = refl;
  made = refl;
  text = deep6 (version_bytes (version_word_of v)) (outcome_bytes o) (fraction_line (codes "gap") gap) (fraction_line (codes "lower") lower) (fraction_line (codes "upper") upper) (fraction_line (codes "tail") tail) (sizes_bytes nodes points);
  known = k;
}

-- ---- the starts

abbrev pub sizes_of : ℕ → Head → Stage
sizes_of v h = AtSizes v h.outcome h.gap h.lower h.upper h.tail h.nodes h.points

-- a line behind the `sizes` line
sizes_more : (g : GameData) (v : ℕ) (h : Head) (word l : List ℕ) → version_word_of v ≡ word → text_of g (sizes_of v h) ++ l ≡ front_bytes word h l
sizes_more g v h word l e =
    deep7 (version_bytes (version_word_of v)) (outcome_bytes h.outcome) (fraction_line (codes "gap") h.gap) (fraction_line (codes "lower") h.lower) (fraction_line (codes "upper") h.upper) (fraction_line (codes "tail") h.tail) (sizes_bytes h.nodes h.points) l
    ∙ ap (λ (w : List ℕ). front_bytes w h l) e

-- a line behind further lines
front_more : (word : List ℕ) (h : Head) (a l : List ℕ) → front_bytes word h a ++ l ≡ front_bytes word h (a ++ l)
front_more word h a l =
    deep8 (version_bytes word) (outcome_bytes h.outcome) (fraction_line (codes "gap") h.gap) (fraction_line (codes "lower") h.lower) (fraction_line (codes "upper") h.upper) (fraction_line (codes "tail") h.tail) (sizes_bytes h.nodes h.points) a l

-- the head of a certificate of one start node and one start point
abbrev pub single : Head → ℕ → ℕ → Head
single h node point = record h { from = (node, pos 1) ∷ []; over = (point, pos 1) ∷ []; multiple = pos 1; started = fresh h.version }

pub step_start : (g : GameData) (h : Head) (node point : ℕ) → HeadFits g (single h node point) → eqb h.version 1 ≡ true → To g (sizes_of h.version h) (Start node point) (AtStart (single h node point))
step_start g h node point k e = record {
  progress = refl;
  made = refl;
  text = sizes_more g h.version h (codes "1") (start_bytes node point) (ap (λ (b : Bool). cond b (codes "1") (codes "2")) e);
  known = k;
}

pub step_first : (g : GameData) (h : Head) → HeadFits g h → To g (AtStart h) (Node 0) (AtNode h [] zeros)
step_first g h k = record { progress = refl; made = refl; text = refl; known = record { head = k; each = tt; more = omega (arith, k.sizes.some_node) } }

-- no start is known yet
no_from : (h : Head) → FromsFit h []
no_from h = record { so_far = record { falls = tt; each = tt }; sum = omega (arith, ints) }

pub step_multiple : (g : GameData) (h : Head) → FrontFits g h → eqb h.version 1 ≡ false → To g (sizes_of h.version h) (Multiple h.multiple) (AtFrom h [])
step_multiple g h k e = record {
  progress = refl;
  made = refl;
  text =
      sizes_more g h.version h (codes "2") (multiple_bytes h.multiple) (ap (λ (b : Bool). cond b (codes "1") (codes "2")) e)
      ∙ ap (λ (x : List ℕ). front_bytes (codes "2") h x) (sym (append-nil (multiple_bytes h.multiple)));
  known = (k, no_from h);
}

starts_push : (name : List ℕ) (back : List PairStart) (s : PairStart) → flat_map (start_line name) (reverse back) ++ start_line name s ≡ flat_map (start_line name) (reverse (s ∷ back))
starts_push name back s =
    let more : flat_map (start_line name) (reverse (s ∷ back)) ≡ flat_map (start_line name) (reverse back) ++ start_line name s =
    ap (flat_map (start_line name)) (reverse-cons s back) ∙ flat_map-append (start_line name) (reverse back) (s ∷ [])
    ∙ ap (λ (x : List ℕ). flat_map (start_line name) (reverse back) ++ x) (append-nil (start_line name s)) in
    sym more

pub step_from : (g : GameData) (h : Head) (back : List PairStart) (node : ℕ) (weight : ℤ) → Known g (AtFrom h back) → FromFits (progress_of g (AtFrom h back)) node weight → IsAbove back node
    → To g (AtFrom h back) (From node weight) (AtFrom h ((node, weight) ∷ back))
step_from g h back node weight k f above = record {
  progress = refl;
  made = ap (λ (xs : List PairStart). made_head (record h { from = xs; over = []; started = h.started }) [] []) (sym (reverse-cons (node, weight) back));
  text =
      front_more (codes "2") h (multiple_bytes h.multiple ++ from_bytes back) (start_line (codes "from") (node, weight))
      ∙ ap (λ (x : List ℕ). front_bytes (codes "2") h x)
      (append_assoc (multiple_bytes h.multiple) (from_bytes back) (start_line (codes "from") (node, weight))
      ∙ ap (λ (x : List ℕ). multiple_bytes h.multiple ++ x) (starts_push (codes "from") back (node, weight)));
  known = (k.0, record { so_far = start_more h.nodes (pos most_from) back (node, weight) k.1.so_far above f.start; sum = f.sum });
}

-- all start nodes
pub froms_done : (h : Head) (s : PairStart) (back : List PairStart) → FromsFit h (s ∷ back) → AreCoprimeStarts (s ∷ back) → FromsDone h (s ∷ back)
froms_done h s back k c = record { all = k; some = omega arith; coprime = c }

pub step_first_over : (g : GameData) (h : Head) (s : PairStart) (back : List PairStart) (point : ℕ) (weight : ℤ) → Known g (AtFrom h (s ∷ back)) → AreCoprimeStarts (s ∷ back)
    → IsStart h.points (pos most_over) (point, weight) → To g (AtFrom h (s ∷ back)) (Over point weight) (AtOver h (s ∷ back) ((point, weight) ∷ []))
step_first_over g h s back point weight k c is = record {
  progress = refl;
  made = refl;
  text =
      front_more (codes "2") h (multiple_bytes h.multiple ++ from_bytes (s ∷ back)) (start_line (codes "over") (point, weight))
      ∙ ap (λ (x : List ℕ). front_bytes (codes "2") h x)
      (append_assoc (multiple_bytes h.multiple) (from_bytes (s ∷ back)) (start_line (codes "over") (point, weight))
      ∙ ap (λ (x : List ℕ). multiple_bytes h.multiple ++ (from_bytes (s ∷ back) ++ x)) (sym (append-nil (start_line (codes "over") (point, weight)))));
  known = (k.0, froms_done h s back k.1 c, record { so_far = record { falls = (tt, tt); each = (is, tt) }; some = omega arith });
}

pub step_over : (g : GameData) (h : Head) (front : List PairStart) (s : PairStart) (back : List PairStart) (point : ℕ) (weight : ℤ) → Known g (AtOver h front (s ∷ back)) → s.0 < point
    → IsStart h.points (pos most_over) (point, weight) → To g (AtOver h front (s ∷ back)) (Over point weight) (AtOver h front ((point, weight) ∷ s ∷ back))
step_over g h front s back point weight k above is = record {
  progress = refl;
  made = ap (λ (xs : List PairStart). made_head (record h { from = reverse front; over = xs; started = h.started }) [] []) (sym (reverse-cons (point, weight) (s ∷ back)));
  text =
      front_more (codes "2") h (multiple_bytes h.multiple ++ (from_bytes front ++ over_bytes (s ∷ back))) (start_line (codes "over") (point, weight))
      ∙ ap (λ (x : List ℕ). front_bytes (codes "2") h x)
      (deep3 (multiple_bytes h.multiple) (from_bytes front) (over_bytes (s ∷ back)) (start_line (codes "over") (point, weight))
      ∙ ap (λ (x : List ℕ). multiple_bytes h.multiple ++ (from_bytes front ++ x)) (starts_push (codes "over") (s ∷ back) (point, weight)));
  known = (k.0, k.1, record { so_far = start_more h.points (pos most_over) (s ∷ back) (point, weight) k.2.so_far above is; some = omega arith });
}

-- the text of several start nodes or several start points is of version 2
two_words : (from over : List PairStart) (multiple : ℤ) → AreSeveral from over → (version_word from over ≡ codes "2") × (starts_text from over multiple ≡ weighted_text from over multiple)
two_words [] over multiple m = (refl, refl)
two_words (s ∷ []) [] multiple m = (refl, refl)
two_words (s ∷ []) (t ∷ []) multiple (inl l) = absurd (omega (arith, l))
two_words (s ∷ []) (t ∷ []) multiple (inr l) = absurd (omega (arith, l))
two_words (s ∷ []) (t ∷ u ∷ over) multiple m = (refl, refl)
two_words (s ∷ r ∷ from) over multiple m = (refl, refl)

turned : (front back : List PairStart) → AreSeveral front back → AreSeveral (reverse front) (reverse back)
turned front back (inl l) = inl (omega (arith, l, long_reverse front))
turned front back (inr l) = inr (omega (arith, l, long_reverse back))

-- all starts
pub starts_fit : (g : GameData) (h : Head) (front back : List PairStart) → Known g (AtOver h front back) → IsWhole front back → HeadFits g (with_starts h front back)
starts_fit g h front back k w = record {
  gap = k.0.gap;
  bounds = k.0.bounds;
  sizes = k.0.sizes;
  starts = record {
    from = are_starts h.nodes (pos most_from) front k.1.all.so_far k.1.some k.1.coprime;
    from_sum = subst (λ (z : ℤ). z ≤ℤ pos most_from) (sym (sum_reverse front)) k.1.all.sum;
    over = are_starts h.points (pos most_over) back k.2.so_far k.2.some w.0;
    multiple = k.0.multiple;
    single = λ a b. absurd (not_single (turned front back w.1) a b);
  };
}
  where
    not_single : AreSeveral (reverse front) (reverse back) → length (reverse front) ≡ 1 → length (reverse back) ≡ 1 → ⊥
    not_single (inl l) a b = omega (arith, l, a)
    not_single (inr l) a b = omega (arith, l, b)

pub step_over_node : (g : GameData) (h : Head) (front back : List PairStart) → Known g (AtOver h front back) → IsWhole front back → To g (AtOver h front back) (Node 0) (AtNode (with_starts h front back) [] zeros)
step_over_node g h front back k w =
    let two = two_words (reverse front) (reverse back) h.multiple (turned front back w.1) in
    let fits = starts_fit g h front back k w in
    record {
      progress = refl;
      made = refl;
      text =
          ap (λ (x : List ℕ). front_bytes (codes "2") h x ++ node_line 0) (sym two.1)
          ∙ ap (λ (x : List ℕ). front_bytes x h (starts_text (reverse front) (reverse back) h.multiple) ++ node_line 0) (sym two.0);
      known = record { head = fits; each = tt; more = omega (arith, fits.sizes.some_node) };
    }

-- what the lines of starts say
sizes_said : (g : GameData) (v : ℕ) (o : Ending) (gap lower upper tail : FractionData) (nodes points : ℕ) (line : Line) (e : Entry) → Known g (AtSizes v o gap lower upper tail nodes points)
    → InSizes (progress_of g (AtSizes v o gap lower upper tail nodes points)) line e → Goes g (AtSizes v o gap lower upper tail nodes points) line e
sizes_said g v o gap lower upper tail nodes points line e k (inl p) =
    let h : Head = record { outcome = o; gap = gap; lower = lower; upper = upper; tail = tail; nodes = nodes; points = points; version = v; from = []; over = []; multiple = pos 1; started = fresh v } in
    said g (sizes_of v h) line e (Start p.0 p.1) p.2
    (AtStart (single h p.0 p.1), step_start g h p.0 p.1 (record { gap = k.0; bounds = k.1; sizes = k.2; starts = one_start nodes points p.0 p.1 p.3.0 p.3.1 }) p.4)
sizes_said g v o gap lower upper tail nodes points line e k (inr p) =
    let h : Head = record { outcome = o; gap = gap; lower = lower; upper = upper; tail = tail; nodes = nodes; points = points; version = v; from = []; over = []; multiple = p.0; started = fresh v } in
    said g (sizes_of v h) line e (Multiple p.0) p.1
    (AtFrom h [], step_multiple g h (record { gap = k.0; bounds = k.1; sizes = k.2; multiple = p.2 }) p.3)

from_said : (g : GameData) (h : Head) (back : List PairStart) (node : ℕ) (weight : ℤ) (line : Line) (e : Entry) → Known g (AtFrom h back) → Is line e (From node weight)
    → FromFits (progress_of g (AtFrom h back)) node weight → IsAbove back node → Goes g (AtFrom h back) line e
from_said g h back node weight line e k is f above =
    said g (AtFrom h back) line e (From node weight) is (AtFrom h ((node, weight) ∷ back), step_from g h back node weight k f above)

froms_said : (g : GameData) (h : Head) (s : PairStart) (back : List PairStart) (line : Line) (e : Entry) → Known g (AtFrom h (s ∷ back)) → InFrom (progress_of g (AtFrom h (s ∷ back))) line e → Goes g (AtFrom h (s ∷ back)) line e
froms_said g h s back line e k (inl p) = from_said g h (s ∷ back) p.0 p.1 line e k p.2 p.3 p.3.above
froms_said g h s back line e k (inr p) =
    said g (AtFrom h (s ∷ back)) line e (Over p.0 p.1) p.2
    (AtOver h (s ∷ back) ((p.0, p.1) ∷ []), step_first_over g h s back p.0 p.1 k (coprime-ok (s ∷ back) tt p.3.from) p.3.start)

overs_said : (g : GameData) (h : Head) (front : List PairStart) (s : PairStart) (back : List PairStart) (line : Line) (e : Entry) → Known g (AtOver h front (s ∷ back)) → InOver (progress_of g (AtOver h front (s ∷ back))) line e
    → Goes g (AtOver h front (s ∷ back)) line e
overs_said g h front s back line e k (inl p) =
    said g (AtOver h front (s ∷ back)) line e (Over p.0 p.1) p.2 (AtOver h front ((p.0, p.1) ∷ s ∷ back), step_over g h front s back p.0 p.1 k p.3.above p.3.start)
overs_said g h front s back line e k (inr p) =
    said g (AtOver h front (s ∷ back)) line e (Node 0) p.0
    (AtNode (with_starts h front (s ∷ back)) [] zeros, step_over_node g h front (s ∷ back) k (whole-ok h.version front (s ∷ back) tt p.1))

pub step_vector : (g : GameData) (h : Head) (ns : List NodeData) (v L : List ℤ) → Known g (AtVector h ns v L) → To g (AtNode h ns L) (Vector v) (AtVector h ns v L)
step_vector g h ns v L k = record {
  progress = refl;
  made = last_node h (λ (n : NodeData). record n { vector = v }) ns no_node (record no_node { vector = v }) refl;
  text = deep3 (head_bytes h) (nodes_bytes ns) (node_line (length ns)) (vector_line v);
  known = k;
}

pub step_weights : (g : GameData) (h : Head) (ns : List NodeData) (v m L : List ℤ) → IsGame g → Known g (AtVector h ns v L) → MixFits g.shape.own_actions m
    → To g (AtVector h ns v L) (Mix m) (AtSteps h ns v m [] (lacking_of g.shape.observations m))
step_weights g h ns v m L game k f = record {
  progress = refl;
  made = last_node h (λ (n : NodeData). record n { mix = m }) ns (record no_node { vector = v }) (node_from v m []) refl;
  text =
      deep4 (head_bytes h) (nodes_bytes ns) (node_line (length ns)) (vector_line v) (line_of (codes "mix") m)
      ∙ ap (λ (x : List ℕ). head_bytes h ++ (nodes_bytes ns ++ (node_line (length ns) ++ (vector_line v ++ x)))) (sym (append-nil (line_of (codes "mix") m)));
  known = (k.0, record { vector = k.1; mix = f; steps = record { falls = tt; each = tt }; lacks = lacks_first g m game.shape f });
}

pub step_belief : (g : GameData) (h : Head) (ns : List NodeData) (ps : List PointData) (b L : List ℤ) (sum : ℤ) → Known g (AtBelief h ns ps b L) → To g (AtPoint h ns ps L sum) (Belief b) (AtBelief h ns ps b L)
step_belief g h ns ps b L sum k = record {
  progress = refl;
  made = last_point h ns (λ (x : PointData). record x { belief = b }) ps (new_point (limits_of g)) (record (new_point (limits_of g)) { belief = b }) refl;
  text = deep4 (head_bytes h) (nodes_bytes ns) (points_bytes ps) (point_line (length ps)) (belief_line b);
  known = k;
}

pub step_value : (g : GameData) (h : Head) (ns : List NodeData) (ps : List PointData) (b : List ℤ) (v : ℤ) (L : List ℤ) → Known g (AtBelief h ns ps b L) → ValueFits (limits_of g) (sum_of b) v
    → To g (AtBelief h ns ps b L) (Value v) (AtMixes h ns ps b v 0 [] L)
step_value g h ns ps b v L k f = record {
  progress = refl;
  made = last_point h ns (λ (x : PointData). record x { value = v }) ps (record (new_point (limits_of g)) { belief = b }) (point_from g b v [] []) refl;
  text =
      deep5 (head_bytes h) (nodes_bytes ns) (points_bytes ps) (point_line (length ps)) (belief_line b) (value_line v)
      ∙ ap (λ (x : List ℕ). head_bytes h ++ (nodes_bytes ns ++ (points_bytes ps ++ (point_line (length ps) ++ (belief_line b ++ x))))) (sym (append-nil (value_line v)));
  known = (k.0, record { belief = k.1; value = f; rows = rows_none g });
}

-- ---- every stage

pub step : (g : GameData) (s : Stage) (line : Line) (e : Entry) → IsGame g → Known g s → entry_of (progress_of g s) line ≡ Ok e → Goes g s line e
unfolding entry_after
step g AtNothing line e game k h =
    let p = version-ok line e h in said g AtNothing line e (Version p.0) p.1 (AtVersion p.0, step_version g p.0)
step g (AtVersion v) line e game k h =
    let p = outcome-ok line e h in said g (AtVersion v) line e (Outcome p.0) p.1 (AtOutcome v p.0, step_outcome g v p.0)
step g (AtOutcome v o) line e game k h =
    let p = gap-ok line e h in said g (AtOutcome v o) line e (Gap p.0) p.1 (AtGap v o p.0, step_gap g v o p.0 p.2)
step g (AtGap v o gap) line e game k h =
    let p = lower-ok line e h in said g (AtGap v o gap) line e (Lower p.0) p.1 (AtLower v o gap p.0, step_lower g v o gap p.0 (k, p.2))
step g (AtLower v o gap lower) line e game k h =
    let p = upper-ok line e h in said g (AtLower v o gap lower) line e (Upper p.0) p.1 (AtUpper v o gap lower p.0, step_upper g v o gap lower p.0 (k.0, k.1, p.2))
step g (AtUpper v o gap lower upper) line e game k h =
    let p = tail-ok line e h in said g (AtUpper v o gap lower upper) line e (Tail p.0) p.1 (AtTail v o gap lower upper p.0, step_tail g v o gap lower upper p.0 (k.0, (k.1, k.2, p.2)))
step g (AtTail v o gap lower upper tail) line e game k h =
    let p = sizes-ok g.shape.states line e h in
    said g (AtTail v o gap lower upper tail) line e (Sizes p.0 p.1) p.2 (AtSizes v o gap lower upper tail p.0 p.1, step_sizes g v o gap lower upper tail p.0 p.1 (k.0, k.1, p.3))
step g (AtSizes v o gap lower upper tail nodes points) line e game k h =
    sizes_said g v o gap lower upper tail nodes points line e k (in_sizes-ok (progress_of g (AtSizes v o gap lower upper tail nodes points)) line e h)
step g (AtFrom h []) line e game k p =
    let q = from-ok (progress_of g (AtFrom h [])) line e p in from_said g h [] q.0 q.1 line e k q.2 q.3 tt
step g (AtFrom h (s ∷ back)) line e game k p = froms_said g h s back line e k (in_from-ok (progress_of g (AtFrom h (s ∷ back))) line e p)
step g (AtOver h front []) line e game k p = absurd (omega (arith, k.2.some))
step g (AtOver h front (s ∷ back)) line e game k p = overs_said g h front s back line e k (in_over-ok (progress_of g (AtOver h front (s ∷ back))) line e p)
step g (AtStart h) line e game k p =
    let q = node-ok 0 [] line e p in
    said g (AtStart h) line e (Node 0) q.0 (AtNode h [] zeros, step_first g h k)
step g (AtNode h ns L) line e game k p =
    let q = vector-ok (limits_of g) line e p in
    said g (AtNode h ns L) line e (Vector q.0) q.1 (AtVector h ns q.0 L, step_vector g h ns q.0 L (k, q.2))
step g (AtVector h ns v L) line e game k p =
    let q = mix-ok (limits_of g) line e p in
    said g (AtVector h ns v L) line e (Mix q.0) q.1 (AtSteps h ns v q.0 [] (lacking_of g.shape.observations q.0), step_weights g h ns v q.0 L game k q.2)
step g (AtSteps h ns v m back L) line e game k p =
    steps_said g h ns v m back L line e game k.0 k.1 (in_node-ok (progress_of g (AtSteps h ns v m back L)) line e (in_steps g h ns v m back L line e p))
step g (AtPoint h ns ps L sum) line e game k p =
    let q = belief-ok (limits_of g) line e p in
    said g (AtPoint h ns ps L sum) line e (Belief q.0) q.1 (AtBelief h ns ps q.0 L, step_belief g h ns ps q.0 L sum (k, q.2))
step g (AtBelief h ns ps b L) line e game k p =
    let q = value-ok (limits_of g) (sum_of b) line e p in
    said g (AtBelief h ns ps b L) line e (Value q.0) q.1 (AtMixes h ns ps b q.0 0 [] L, step_value g h ns ps b q.0 L k q.2)
step g (AtMixes h ns ps b v zero w L) line e game k p =
    let q = mixes-ok (limits_of g) 0 line e p in
    said g (AtMixes h ns ps b v 0 w L) line e (Mixes 0 q.0) q.1 (AtMixes h ns ps b v 1 (w ++ q.0) L, step_mix g h ns ps b v 0 w L q.0 k.0 k.1 q.2 (omega (arith, game.shape.states)))
step g (AtMixes h ns ps b v (suc s) w L) line e game k p =
    mixes_by g h ns ps b v w s L line e k.0 k.1 (in_mixes-ok (progress_of g (AtMixes h ns ps b v (suc s) w L)) line e p)
step g (AtSplits h ns ps b v w back s L) line e game k p =
    shares_said g h ns ps b v w back s L line e k.0 k.1 k.2 k.3 (in_shares g h ns ps b v w back s L line e k.3 p)
step g (AtEnd h ns ps s L sum) line e game k p = absurd cc
