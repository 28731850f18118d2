-- The lines of the points of a certificate that fits are said.
use Rattle.std.proofs.Common.{◌≡◌, ℕ, zero, suc, ◌+◌, ◌*◌, ◌^◌, ◌<◌, ◌≤◌, List, [], ◌∷◌, ◌++◌, length, take, drop, get_or, Ok, ℤ, pos, refl, sym, ap, subst, ◌∙◌, arith, append_assoc, append-nil}
use Rattle.game_model.specs.Limits.{most_belief}
use Rattle.std.specs.Prelude.{codes}
use Rattle.std.specs.List.{AllByRecursion}
use Rattle.std.proofs.lemmas.List.{get_or-take, length-take-le, length-drop, take-append-drop}
use Rattle.scaled_num.specs.Sums.{below, sum_of, total}
use Rattle.scaled_num.proofs.Sums.{total-below, total-places}
use Rattle.text_words.specs.Lines.{Line}
use Rattle.game_model.specs.Branches.{Branch, IsBranch, mix_total}
use Rattle.game_model.specs.Game.{GameData, IsGame, IsWithin, numbers}
use Rattle.alpha_set.specs.Nodes.{NodeData}
use Rattle.belief.specs.Mixes.{AreMixes, mix_at}
use Rattle.point_set.specs.Points.{PointData, PointFits, most_share}
use Rattle.controller.specs.Certificates.{CertificateData}
use Rattle.text_words.proofs.Numerals.{Small}
use Rattle.cert_text.specs.Entries.{Entry, Point, Belief, Value, Mixes, Split, End, entry_of, entry_after, in_point, limits_of}
use Rattle.cert_text.proofs.LawGuards.{IsLater}
use Rattle.cert_text.proofs.LawSaid.{words_in, branch_numbers, belief-to, value-to, mixes-to, in_mixes-mix, in_mixes-past, in_point-split, in_point-point, in_point-end, BranchFits, BeliefFits, MixFits, ValueFits}
use Rattle.cert_text.proofs.LawLists.{HeadBefore, length_more}
use Rattle.cert_text.proofs.LawParts.{row_new}
use Rattle.cert_text.proofs.LawStages.{Head, AtPoint, AtBelief, AtMixes, AtSplits, AtEnd, progress_of, latest_share, made_head, mixes_from, point_from, Known, PointsFit, PartFits, BranchesFit}
use Rattle.cert_text.proofs.LawSteps.{step_belief, step_value, step_mix, step_split, step_further, step_end}
use Rattle.cert_text.proofs.LawWrites.{Can, can_step, small_few, small_each, small_value, small_branch, numbered_written, word_point, word_belief, word_value, word_mix, word_split, word_end}
use Rattle.cert_text.proofs.LawNodes.{onto, onto_reverse, GoesOn, goes_further, goes_first}

-- ---- the mixes

abbrev RowSums : GameData → List ℤ → Type 0
RowSums g w = (i : ℕ) → i < g.shape.states → total (λ c. mix_at (mixes_from g w) i c) (below g.shape.informed_actions) ≡ pos mix_total

each_take : (P : ℤ → Type 0) (n : ℕ) (xs : List ℤ) → AllByRecursion P xs → AllByRecursion P (take n xs)
each_take P zero xs h = tt
each_take P (suc n) [] h = tt
each_take P (suc n) (x ∷ xs) h = (h.0, each_take P n xs h.1)

each_drop : (P : ℤ → Type 0) (n : ℕ) (xs : List ℤ) → AllByRecursion P xs → AllByRecursion P (drop n xs)
each_drop P zero xs h = h
each_drop P (suc n) [] h = tt
each_drop P (suc n) (x ∷ xs) h = each_drop P n xs h.1

nothing_more : (w rest : List ℤ) → length rest ≡ 0 → w ++ rest ≡ w
nothing_more w [] e = append-nil w
nothing_more w (x ∷ rest) e = absurd (omega arith)

row_is : (g : GameData) (s : ℕ) (w rest : List ℤ) → length w ≡ s * g.shape.informed_actions → g.shape.informed_actions ≤ length rest
    → sum_of (take g.shape.informed_actions rest) ≡ total (λ c. mix_at (mixes_from g (w ++ rest)) s c) (below g.shape.informed_actions)
row_is g s w rest long enough =
    let n = g.shape.informed_actions in
    let more = take n rest in
    sym (total-places (λ (x : ℤ). x) (pos 0) more)
    ∙ ap (λ (x : ℕ). total (λ c. get_or more c (pos 0)) (below x)) (length-take-le n rest enough)
    ∙ total-below n (λ c. get_or more c (pos 0)) (λ c. get_or (w ++ rest) (s * n + c) (pos 0)) (λ c l. get_or-take n rest c (pos 0) l ∙ sym (row_new w rest s n c long))

mixes_entry : (g : GameData) (h : Head) (ns : List NodeData) (ps : List PointData) (b : List ℤ) (v : ℤ) (s : ℕ) (w L more : List ℤ) → AllByRecursion Small (pos s ∷ more) → MixFits g.shape.informed_actions more → s < g.shape.states
    → entry_of (progress_of g (AtMixes h ns ps b v s w L)) (words_in (Mixes s more)) ≡ Ok (Mixes s more)
unfolding entry_after
mixes_entry g h ns ps b v zero w L more small f l = mixes-to (limits_of g) 0 more small f
mixes_entry g h ns ps b v (suc s) w L more small f l = in_mixes-mix (progress_of g (AtMixes h ns ps b v (suc s) w L)) more small f l

abbrev AfterMixes : GameData → CertificateData → Head → List NodeData → List PointData → List ℤ → ℤ → List ℤ → ℕ → List ℤ → Type 0
AfterMixes g k h ns ps b v L s w = PartFits g b v s w → Can g (AtMixes h ns ps b v s w L) k

mixes_can : (g : GameData) (k : CertificateData) (h : Head) (ns : List NodeData) (ps : List PointData) (b : List ℤ) (v : ℤ) (L : List ℤ) (r s : ℕ) (w rest : List ℤ) → IsGame g → PointsFit g h ns ps → PartFits g b v s w
    → s + r ≡ g.shape.states → length rest ≡ r * g.shape.informed_actions → AllByRecursion (IsWithin (pos 0) (pos mix_total)) rest → RowSums g (w ++ rest)
    → AfterMixes g k h ns ps b v L g.shape.states (w ++ rest) → Can g (AtMixes h ns ps b v s w L) k
mixes_can g k h ns ps b v L zero s w rest game before part count long each sums next =
    let e : g.shape.states ≡ s = omega (arith, count) in
    let none : length rest ≡ 0 = omega (arith, long) in
    subst (λ (t : List ℤ). AfterMixes g k h ns ps b v L s t) (nothing_more w rest none) (subst (λ (x : ℕ). AfterMixes g k h ns ps b v L x (w ++ rest)) e next) part
mixes_can g k h ns ps b v L (suc r) s w rest game before part count long each sums next =
    let n = g.shape.informed_actions in
    let more = take n rest in
    let tail = drop n rest in
    let split : suc r * n ≡ n + r * n = omega arith in
    let enough : n ≤ length rest = omega (arith, long, split) in
    let l : s < g.shape.states = omega (arith, count) in
    let f : MixFits n more = record { long = length-take-le n rest enough; each = each_take (IsWithin (pos 0) (pos mix_total)) n rest each; sums = row_is g s w rest part.rows.long enough ∙ sums s l } in
    let small : AllByRecursion Small (pos s ∷ more) = (omega (arith, l, game.shape.states), small_each (pos 0) (pos mix_total) more (omega arith) (omega arith) f.each) in
    let e : (w ++ more) ++ tail ≡ w ++ rest = append_assoc w more tail ∙ ap (λ (x : List ℤ). w ++ x) (take-append-drop n rest) in
    can_step g (AtMixes h ns ps b v s w L) (Mixes s more) (AtMixes h ns ps b v (suc s) (w ++ more) L) k
    (step_mix g h ns ps b v s w L more before part f l) (mixes_entry g h ns ps b v s w L more small f l) (numbered_written (codes "mix") (pos s ∷ more) word_mix small)
    (λ known. mixes_can g k h ns ps b v L r (suc s) (w ++ more) tail game before known.1 (omega (arith, count)) (omega (arith, length-drop n rest, long, split))
    (each_drop (IsWithin (pos 0) (pos mix_total)) n rest each) (subst (RowSums g) (sym e) sums) (subst (AfterMixes g k h ns ps b v L g.shape.states) (sym e) next))

-- behind the mixes of all states come the shares
shares_next : (g : GameData) (k : CertificateData) (h : Head) (ns : List NodeData) (ps : List PointData) (b : List ℤ) (v : ℤ) (w L : List ℤ) (s : ℕ) → 1 ≤ s
    → Can g (AtSplits h ns ps b v w [] s L) k → Can g (AtMixes h ns ps b v s w L) k
shares_next g k h ns ps b v w L zero some c = absurd (omega arith)
shares_next g k h ns ps b v w L (suc s) some c = (c.0, record { say = c.1.say; written = c.1.written; end = c.1.end; made = c.1.made })

-- ---- the shares

in_shares : (g : GameData) (h : Head) (ns : List NodeData) (ps : List PointData) (b : List ℤ) (v : ℤ) (w : List ℤ) (back : List Branch) (L : List ℤ) (line : Line) (e : Entry)
    → in_point (progress_of g (AtSplits h ns ps b v w back g.shape.states L)) line ≡ Ok e → entry_of (progress_of g (AtSplits h ns ps b v w back g.shape.states L)) line ≡ Ok e
unfolding entry_after
in_shares g h ns ps b v w [] L line e p = in_mixes-past (progress_of g (AtSplits h ns ps b v w [] g.shape.states L)) line e (omega arith) p
in_shares g h ns ps b v w (d ∷ back) L line e p = p

share_later : (back : List Branch) (b : Branch) → HeadBefore back b → IsLater (latest_share back) b.own b.seen b.member
share_later [] b h = tt
share_later (d ∷ back) b h = h

abbrev IsShare : GameData → Head → Branch → Type 0
IsShare g h b = IsBranch (numbers g) h.points most_share b

abbrev AfterShares : GameData → CertificateData → Head → List NodeData → List PointData → List ℤ → ℤ → List ℤ → List ℤ → List Branch → Type 0
AfterShares g k h ns ps b v w L back = BranchesFit g h.points most_share back → Can g (AtSplits h ns ps b v w back g.shape.states L) k

shares_can : (g : GameData) (k : CertificateData) (h : Head) (ns : List NodeData) (ps : List PointData) (b : List ℤ) (v : ℤ) (w L : List ℤ) (rest back : List Branch) → IsGame g → PointsFit g h ns ps → PartFits g b v g.shape.states w
    → BranchesFit g h.points most_share back → GoesOn back rest → AllByRecursion (IsShare g h) rest → AfterShares g k h ns ps b v w L (onto rest back) → Can g (AtSplits h ns ps b v w back g.shape.states L) k
shares_can g k h ns ps b v w L [] back game before part shares on f next = next shares
shares_can g k h ns ps b v w L (d ∷ rest) back game before part shares on f next =
    let s = AtSplits h ns ps b v w back g.shape.states L in
    let small = small_branch g h.points most_share d game before.nodes.head.sizes.most_points (omega arith) f.0 in
    let fits : BranchFits most_share h.points (progress_of g s) d = record { own = f.0.own; seen = f.0.seen; member = f.0.member; weight = f.0.weight; later = share_later back d on.0 } in
    can_step g s (Split d) (AtSplits h ns ps b v w (d ∷ back) g.shape.states L) k
    (step_split g h ns ps b v w back g.shape.states L d before part shares refl fits)
    (in_shares g h ns ps b v w back L (words_in (Split d)) (Split d) (in_point-split (progress_of g s) d small fits))
    (numbered_written (codes "split") (branch_numbers d) word_split small)
    (λ known. shares_can g k h ns ps b v w L rest (d ∷ back) game before part known.2 (goes_further back d rest on) f.1 next)

-- ---- a point

belief_entry : (g : GameData) (h : Head) (ns : List NodeData) (ps : List PointData) (b L : List ℤ) (sum : ℤ) → AllByRecursion Small b → BeliefFits g.shape.states b
    → entry_of (progress_of g (AtPoint h ns ps L sum)) (words_in (Belief b)) ≡ Ok (Belief b)
unfolding entry_after
belief_entry g h ns ps b L sum small f = belief-to (limits_of g) b small f

value_entry : (g : GameData) (h : Head) (ns : List NodeData) (ps : List PointData) (b : List ℤ) (v : ℤ) (L : List ℤ) → Small v → ValueFits (limits_of g) (sum_of b) v
    → entry_of (progress_of g (AtBelief h ns ps b L)) (words_in (Value v)) ≡ Ok (Value v)
unfolding entry_after
value_entry g h ns ps b v L small f = value-to (limits_of g) (sum_of b) v small f

their_mixes : (g : GameData) (p : PointData) (members : ℕ) → PointFits g members p → p.mixes ≡ mixes_from g p.mixes.weights
their_mixes g p members f = λ i. record { states = f.states i; actions = f.actions i; weights = p.mixes.weights }

point_again : (g : GameData) (p : PointData) (members : ℕ) → PointFits g members p → point_from g p.belief p.value p.mixes.weights (onto p.splits []) ≡ p
point_again g p members f =
    let m = sym (their_mixes g p members f) in
    let s = onto_reverse p.splits [] in
    λ i. record { belief = p.belief; value = p.value; mixes = m i; splits = s i }

abbrev ThenShares : GameData → CertificateData → Head → List NodeData → List PointData → PointData → List ℤ → Type 0
ThenShares g k h ns ps p L =
    PartFits g p.belief p.value g.shape.states p.mixes.weights → AfterShares g k h ns ps p.belief p.value p.mixes.weights L (onto p.splits [])

point_can : (g : GameData) (k : CertificateData) (h : Head) (ns : List NodeData) (ps : List PointData) (p : PointData) (L : List ℤ) (sum : ℤ) → IsGame g → PointsFit g h ns ps → PointFits g h.points p
    → ThenShares g k h ns ps p L → Can g (AtPoint h ns ps L sum) k
point_can g k h ns ps p L sum game before f next =
    let b = p.belief in
    let v = p.value in
    let w = p.mixes.weights in
    let bf : BeliefFits g.shape.states b = record { long = f.belief.long; each = f.belief.each; sums = f.belief.sums; coprime = f.coprime } in
    let bs = small_each (pos 0) (pos most_belief) b (omega arith) (omega arith) f.belief.each in
    let vs = small_value g b v game f.belief.sums f.value in
    let mixes : AreMixes (mixes_from g w) = subst AreMixes (their_mixes g p h.points f) f.mixes in
    can_step g (AtPoint h ns ps L sum) (Belief b) (AtBelief h ns ps b L) k (step_belief g h ns ps b L sum (before, bf)) (belief_entry g h ns ps b L sum bs bf) (numbered_written (codes "belief") b word_belief bs)
    (λ kb. can_step g (AtBelief h ns ps b L) (Value v) (AtMixes h ns ps b v 0 [] L) k (step_value g h ns ps b v L kb f.value) (value_entry g h ns ps b v L vs f.value) (numbered_written (codes "value") (v ∷ []) word_value (vs, tt))
    (λ km. mixes_can g k h ns ps b v L g.shape.states 0 [] w game before km.1 (omega arith) mixes.long mixes.each mixes.sums
    (λ part. shares_next g k h ns ps b v w L g.shape.states game.shape.states.0
    (shares_can g k h ns ps b v w L p.splits [] game before part (record { falls = tt; each = tt }) (goes_first p.splits f.splits.rising) f.splits.each (next part)))))

-- ---- all points

abbrev AfterPoint : GameData → CertificateData → Head → List NodeData → List PointData → List ℤ → ℤ → PointData → Type 0
AfterPoint g k h ns ps L sum p = Known g (AtPoint h ns (ps ++ p ∷ []) L sum) → Can g (AtPoint h ns (ps ++ p ∷ []) L sum) k

to_further : (g : GameData) (k : CertificateData) (h : Head) (ns : List NodeData) (ps : List PointData) (p : PointData) (L : List ℤ) → PointsFit g h ns ps → PointFits g h.points p → PartFits g p.belief p.value g.shape.states p.mixes.weights
    → BranchesFit g h.points most_share (onto p.splits []) → length ps + 1 < h.points → AfterPoint g k h ns ps L (sum_of p.belief) p
    → Can g (AtSplits h ns ps p.belief p.value p.mixes.weights (onto p.splits []) g.shape.states L) k
to_further g k h ns ps p L before f part shares more next =
    let b = p.belief in
    let v = p.value in
    let w = p.mixes.weights in
    let back = onto p.splits [] in
    let s = AtSplits h ns ps b v w back g.shape.states L in
    let small : Small (pos (length ps + 1)) = small_few (length ps + 1) (omega (arith, more, before.nodes.head.sizes.most_points)) in
    can_step g s (Point (length ps + 1)) (AtPoint h ns (ps ++ point_from g b v w back ∷ []) L (sum_of b)) k
    (step_further g h ns ps b v w back g.shape.states L before part shares more)
    (in_shares g h ns ps b v w back L (words_in (Point (length ps + 1))) (Point (length ps + 1)) (in_point-point (progress_of g s) small more))
    (numbered_written (codes "point") (pos (length ps + 1) ∷ []) word_point (small, tt))
    (subst (AfterPoint g k h ns ps L (sum_of b)) (sym (point_again g p h.points f)) next)

to_end : (g : GameData) (k : CertificateData) (h : Head) (ns : List NodeData) (ps : List PointData) (p : PointData) (L : List ℤ) → PointsFit g h ns ps → PointFits g h.points p → PartFits g p.belief p.value g.shape.states p.mixes.weights
    → BranchesFit g h.points most_share (onto p.splits []) → h.points ≤ length ps + 1 → made_head h ns (ps ++ p ∷ []) ≡ k
    → Can g (AtSplits h ns ps p.belief p.value p.mixes.weights (onto p.splits []) g.shape.states L) k
to_end g k h ns ps p L before f part shares last made =
    let b = p.belief in
    let v = p.value in
    let w = p.mixes.weights in
    let back = onto p.splits [] in
    let s = AtSplits h ns ps b v w back g.shape.states L in
    can_step g s End (AtEnd h ns (ps ++ point_from g b v w back ∷ []) g.shape.states L (sum_of b)) k
    (step_end g h ns ps b v w back g.shape.states L before part shares last)
    (in_shares g h ns ps b v w back L (words_in End) End (in_point-end (progress_of g s) last))
    (numbered_written (codes "end") [] word_end tt)
    (λ known. ([], record { say = tt; written = tt; end = refl; made = ap (λ (x : PointData). made_head h ns (ps ++ x ∷ [])) (point_again g p h.points f) ∙ made }))

pub points_can : (g : GameData) (k : CertificateData) (h : Head) (ns : List NodeData) (rest ps : List PointData) (p : PointData) (L : List ℤ) (sum : ℤ) → IsGame g → PointsFit g h ns ps → PointFits g h.points p → AllByRecursion (PointFits g h.points) rest
    → length ps + 1 + length rest ≡ h.points → made_head h ns (ps ++ p ∷ rest) ≡ k → Can g (AtPoint h ns ps L sum) k
points_can g k h ns [] ps p L sum game before f fs count made =
    point_can g k h ns ps p L sum game before f (λ part shares. to_end g k h ns ps p L before f part shares (omega (arith, count)) made)
points_can g k h ns (d ∷ rest) ps p L sum game before f fs count made =
    point_can g k h ns ps p L sum game before f (λ part shares. to_further g k h ns ps p L before f part shares (omega (arith, count))
    (λ known. points_can g k h ns rest (ps ++ p ∷ []) d L (sum_of p.belief) game known fs.0 fs.1 (omega (arith, count, length_more ps p))
    (ap (λ (xs : List PointData). made_head h ns xs) (append_assoc ps (p ∷ []) (d ∷ rest)) ∙ made)))
