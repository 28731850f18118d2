-- What the numbers of a line of each form give: what the line says, or the least kind whose rule they break.
use Rattle.std.proofs.Common.{◌≡◌, ℕ, ◌+◌, ◌^◌, ◌<◌, ◌≤◌, List, [], ◌∷◌, drop, take, Result, Ok, Err, ℤ, pos, refl, sym, ap, subst, arith, inl, inr}
use Rattle.game_model.specs.Limits.{most_belief}
use Rattle.std.specs.Prelude.{◌≤ℤ◌, ◌<ℤ◌, ◌*ℤ◌, neg_ℤ, unsigned_abs, slice_index_or}
use Rattle.std.proofs.lemmas.Int.{ints}
use Rattle.text_words.specs.Lines.{Line}
use Rattle.text_words.specs.Forms.{◌>>=◌, number_at, limited, below_limit, each_within}
use Rattle.text_words.proofs.Limits.{pos_abs}
use Rattle.text_words.proofs.Chains.{Tests, limited-tests, below_limit-tests, each_within-tests}
use Rattle.game_model.specs.Branches.{Branch, mix_total}
use Rattle.game_model.specs.Game.{GameData, IsGame, span}
use Rattle.point_set.specs.Points.{most_share}
use Rattle.controller.specs.Certificates.{FractionData, most_gap, most_gap_under}
use Rattle.cert_text.specs.declared.fault.CertKind.{CertKind}
use Rattle.cert_text.specs.declared.fault.CertKind.TheVariants as kinds
use Rattle.cert_text.specs.Fault.{number_of_kind}
use Rattle.cert_text.specs.Entries.{Entry, Gap, Lower, Upper, Tail, Sizes, Start, Multiple, From, Over, Node, Vector, Mix, Next, Point, Belief, Value, Mixes, Split, End, limits_of, pair_at}
use Rattle.cert_text.specs.Forms.{at_least, is_due, member_below, few, later_branch, above_from, above_over, within_sum, coprime, whole_starts, sums_to_mix, belief_total, none_lacks, fits_lack}
use Rattle.cert_text.specs.Due.{Form, GapLine, LowerLine, UpperLine, TailLine, SizesLine, StartLine, MultipleLine, FromLine, OverLine, FirstNodeLine, NodeLine, VectorLine, MixLine, NextLine, FirstPointLine, PointLine, BeliefLine, ValueLine, StateLine, SplitLine, EndLine, nodes_in, points_in, version_in, from_in, over_in, next_in, total_in, branch_in, entry_in}
use Rattle.cert_text.specs.Rules.{AreStartsWhole, IsBranchWithin, Rule}
use Rattle.cert_text.proofs.RuleTests.{above_from-tests, above_over-tests, at_least-tests, is_due-tests, member_below-tests, few-tests, sums_to_mix-tests, belief_total-tests, none_lacks-tests, fits_lack-tests, later-tests}
use Rattle.controller.specs.Starts.{most_from, most_over, weights_sum}
use Rattle.cert_text.proofs.StartWeights.{weights, weights_of, starts_of, within_sum-tests, coprime-tests, whole-tests}
use Rattle.cert_text.proofs.Seen.{latest_in, lacking_in, Kept, reached_from, reached_to, earlier_from, earlier_to, room_from, room_to}

-- a kind that the numbers of a line have
abbrev pub IsRuled : CertKind → Type 0
IsRuled kinds.Version = ⊥
IsRuled kinds.Shape = ⊥
IsRuled kinds.Number = ⊥
IsRuled _ = Unit {0}

-- the rule of this kind is broken, and those of all lesser kinds are kept
abbrev pub Fails : GameData → List Entry → Form → List ℤ → CertKind → Type 0
Fails g before form ns kind =
    IsRuled kind × (Rule g before form kind ns → ⊥) × ((lesser : CertKind) → number_of_kind lesser < number_of_kind kind → Rule g before form lesser ns)

abbrev pub Checked : GameData → List Entry → Form → Line → List ℤ → Result Entry CertKind → Type 0
Checked g before form words ns (Ok e) = (e ≡ entry_in form words ns) × ((kind : CertKind) → Rule g before form kind ns)
Checked g before form words ns (Err kind) = Fails g before form ns kind

-- ---- kinds without a rule

none_version : (g : GameData) (before : List Entry) (form : Form) (ns : List ℤ) → Rule g before form kinds.Version ns
none_version g before GapLine ns = tt
none_version g before _ ns = tt

none_shape : (g : GameData) (before : List Entry) (form : Form) (ns : List ℤ) → Rule g before form kinds.Shape ns
none_shape g before GapLine ns = tt
none_shape g before _ ns = tt

none_number : (g : GameData) (before : List Entry) (form : Form) (ns : List ℤ) → Rule g before form kinds.Number ns
none_number g before GapLine ns = tt
none_number g before _ ns = tt

none_trailing : (g : GameData) (before : List Entry) (form : Form) (ns : List ℤ) → Rule g before form kinds.Trailing ns
none_trailing g before GapLine ns = tt
none_trailing g before _ ns = tt

none_missing : (g : GameData) (before : List Entry) (form : Form) (ns : List ℤ) → Rule g before form kinds.Missing ns
none_missing g before GapLine ns = tt
none_missing g before _ ns = tt

-- ---- one kind after another

below : (g : GameData) (before : List Entry) (form : Form) (ns : List ℤ) (n : ℕ)
    → (4 < n → Rule g before form kinds.Range ns) → (5 < n → Rule g before form kinds.Order ns) → (6 < n → Rule g before form kinds.Index ns) → (7 < n → Rule g before form kinds.Total ns)
    → (9 < n → Rule g before form kinds.Full ns) → (kind : CertKind) → number_of_kind kind < n → Rule g before form kind ns
below g before form ns n range order index total full kinds.Version l = none_version g before form ns
below g before form ns n range order index total full kinds.Shape l = none_shape g before form ns
below g before form ns n range order index total full kinds.Number l = none_number g before form ns
below g before form ns n range order index total full kinds.Range l = range l
below g before form ns n range order index total full kinds.Order l = order l
below g before form ns n range order index total full kinds.Index l = index l
below g before form ns n range order index total full kinds.Total l = total l
below g before form ns n range order index total full kinds.Trailing l = none_trailing g before form ns
below g before form ns n range order index total full kinds.Full l = full l
below g before form ns n range order index total full kinds.Missing l = none_missing g before form ns

past : (m n : ℕ) → n ≤ m → m < n → ⊥
past m n le l = omega (arith, le, l)

fails_range : (g : GameData) (before : List Entry) (form : Form) (ns : List ℤ) → (Rule g before form kinds.Range ns → ⊥) → Fails g before form ns kinds.Range
fails_range g before form ns n =
    (tt, n, below g before form ns 4 (λ l. absurd (past 4 4 (omega arith) l)) (λ l. absurd (past 5 4 (omega arith) l)) (λ l. absurd (past 6 4 (omega arith) l)) (λ l. absurd (past 7 4 (omega arith) l)) (λ l. absurd (past 9 4 (omega arith) l)))

fails_order : (g : GameData) (before : List Entry) (form : Form) (ns : List ℤ) → (Rule g before form kinds.Order ns → ⊥) → Rule g before form kinds.Range ns → Fails g before form ns kinds.Order
fails_order g before form ns n range =
    (tt, n, below g before form ns 5 (λ l. range) (λ l. absurd (past 5 5 (omega arith) l)) (λ l. absurd (past 6 5 (omega arith) l)) (λ l. absurd (past 7 5 (omega arith) l)) (λ l. absurd (past 9 5 (omega arith) l)))

fails_index : (g : GameData) (before : List Entry) (form : Form) (ns : List ℤ) → (Rule g before form kinds.Index ns → ⊥) → Rule g before form kinds.Range ns → Rule g before form kinds.Order ns
    → Fails g before form ns kinds.Index
fails_index g before form ns n range order =
    (tt, n, below g before form ns 6 (λ l. range) (λ l. order) (λ l. absurd (past 6 6 (omega arith) l)) (λ l. absurd (past 7 6 (omega arith) l)) (λ l. absurd (past 9 6 (omega arith) l)))

fails_total : (g : GameData) (before : List Entry) (form : Form) (ns : List ℤ) → (Rule g before form kinds.Total ns → ⊥) → Rule g before form kinds.Range ns → Rule g before form kinds.Order ns
    → Rule g before form kinds.Index ns → Fails g before form ns kinds.Total
fails_total g before form ns n range order index =
    (tt, n, below g before form ns 7 (λ l. range) (λ l. order) (λ l. index) (λ l. absurd (past 7 7 (omega arith) l)) (λ l. absurd (past 9 7 (omega arith) l)))

fails_full : (g : GameData) (before : List Entry) (form : Form) (ns : List ℤ) → (Rule g before form kinds.Full ns → ⊥) → Rule g before form kinds.Range ns → Rule g before form kinds.Order ns
    → Rule g before form kinds.Index ns → Rule g before form kinds.Total ns → Fails g before form ns kinds.Full
fails_full g before form ns n range order index total =
    (tt, n, below g before form ns 9 (λ l. range) (λ l. order) (λ l. index) (λ l. total) (λ l. absurd (past 9 9 (omega arith) l)))

all_kept : (g : GameData) (before : List Entry) (form : Form) (ns : List ℤ) → Rule g before form kinds.Range ns → Rule g before form kinds.Order ns → Rule g before form kinds.Index ns
    → Rule g before form kinds.Total ns → Rule g before form kinds.Full ns → (kind : CertKind) → Rule g before form kind ns
all_kept g before form ns range order index total full kind =
    below g before form ns (number_of_kind kind + 1) (λ l. range) (λ l. order) (λ l. index) (λ l. total) (λ l. full) kind (omega arith)

chain : {A : Type 0} {m : Result A CertKind} {kind : CertKind} {value : A} {P : Type 0} (g : GameData) (before : List Entry) (form : Form) (words : Line) (ns : List ℤ) (f : A → Result Entry CertKind)
    → Tests m kind value P → (P → Checked g before form words ns (f value)) → ((P → ⊥) → Fails g before form ns kind) → Checked g before form words ns (m >>= f)
chain {A} g before form words ns f (inl t) ok fail = subst (λ (r : Result A CertKind). Checked g before form words ns (r >>= f)) (sym t.0) (ok t.1)
chain {A} g before form words ns f (inr t) ok fail = subst (λ (r : Result A CertKind). Checked g before form words ns (r >>= f)) (sym t.0) (fail t.1)

-- the same within a further step
chain_in : {A B : Type 0} {m : Result A CertKind} {kind : CertKind} {value : A} {P : Type 0} (g : GameData) (before : List Entry) (form : Form) (words : Line) (ns : List ℤ) (f : A → Result B CertKind) (h : B → Result Entry CertKind)
    → Tests m kind value P → (P → Checked g before form words ns (f value >>= h)) → ((P → ⊥) → Fails g before form ns kind) → Checked g before form words ns ((m >>= f) >>= h)
chain_in {A} g before form words ns f h (inl t) ok fail = subst (λ (r : Result A CertKind). Checked g before form words ns ((r >>= f) >>= h)) (sym t.0) (ok t.1)
chain_in {A} g before form words ns f h (inr t) ok fail = subst (λ (r : Result A CertKind). Checked g before form words ns ((r >>= f) >>= h)) (sym t.0) (fail t.1)

-- ---- the lines before the nodes

abbrev both : FractionData → List ℤ
both f = f.num ∷ f.den ∷ []

pub gap_checked : (g : GameData) (before : List Entry) (words : Line) (f : FractionData)
    → Checked g before GapLine words (both f) (limited kinds.Range (pos 0) (pos most_gap) f.num >>= (λ num. limited kinds.Range (pos 1) (pos most_gap_under) f.den >>= (λ den. Ok (Gap (record { num = num; den = den })))))
gap_checked g before words f =
    let ns = both f in
    chain g before GapLine words ns _ (limited-tests kinds.Range (pos 0) (pos most_gap) f.num)
    (λ num. chain g before GapLine words ns _ (limited-tests kinds.Range (pos 1) (pos most_gap_under) f.den)
    (λ den. (refl, all_kept g before GapLine ns (num, den) tt tt tt tt))
    (λ n. fails_range g before GapLine ns (λ r. n r.1)))
    (λ n. fails_range g before GapLine ns (λ r. n r.0))

pub lower_checked : (g : GameData) (before : List Entry) (words : Line) (f : FractionData)
    → Checked g before LowerLine words (both f) (at_least (pos 1) f.den >>= (λ den. Ok (Lower (record { num = f.num; den = den }))))
lower_checked g before words f =
    chain g before LowerLine words (both f) _ (at_least-tests (pos 1) f.den) (λ den. (refl, all_kept g before LowerLine (both f) den tt tt tt tt)) (λ n. fails_range g before LowerLine (both f) n)

pub upper_checked : (g : GameData) (before : List Entry) (words : Line) (f : FractionData)
    → Checked g before UpperLine words (both f) (at_least (pos 1) f.den >>= (λ den. Ok (Upper (record { num = f.num; den = den }))))
upper_checked g before words f =
    chain g before UpperLine words (both f) _ (at_least-tests (pos 1) f.den) (λ den. (refl, all_kept g before UpperLine (both f) den tt tt tt tt)) (λ n. fails_range g before UpperLine (both f) n)

pub tail_checked : (g : GameData) (before : List Entry) (words : Line) (f : FractionData)
    → Checked g before TailLine words (both f) (at_least (pos 1) f.den >>= (λ den. Ok (Tail (record { num = f.num; den = den }))))
tail_checked g before words f =
    chain g before TailLine words (both f) _ (at_least-tests (pos 1) f.den) (λ den. (refl, all_kept g before TailLine (both f) den tt tt tt tt)) (λ n. fails_range g before TailLine (both f) n)

pub sizes_checked : (g : GameData) (before : List Entry) (words : Line) (ns : List ℤ)
    → Checked g before SizesLine words ns
    (at_least (pos 1) (number_at ns 0) >>= (λ n. at_least (pos g.shape.states) (number_at ns 1) >>= (λ p. few n >>= (λ nodes. few p >>= (λ points. Ok (Sizes nodes points))))))
sizes_checked g before words ns =
    chain g before SizesLine words ns _ (at_least-tests (pos 1) (number_at ns 0))
    (λ n. chain g before SizesLine words ns _ (at_least-tests (pos g.shape.states) (number_at ns 1))
    (λ p. chain g before SizesLine words ns _ (few-tests (number_at ns 0))
    (λ a. chain g before SizesLine words ns _ (few-tests (number_at ns 1))
    (λ b. (refl, all_kept g before SizesLine ns (n, p) tt tt tt (a, b)))
    (λ no. fails_full g before SizesLine ns (λ r. no r.1) (n, p) tt tt tt))
    (λ no. fails_full g before SizesLine ns (λ r. no r.0) (n, p) tt tt tt))
    (λ no. fails_range g before SizesLine ns (λ r. no r.1)))
    (λ no. fails_range g before SizesLine ns (λ r. no r.0))

pub start_checked : (g : GameData) (before : List Entry) (words : Line) (ns : List ℤ)
    → Checked g before StartLine words ns
    (at_least (pos 0) (number_at ns 0) >>= (λ i. at_least (pos 0) (number_at ns 1) >>= (λ j. member_below (nodes_in before) i >>= (λ node. member_below (points_in before) j >>= (λ point. Ok (Start node point))))))
start_checked g before words ns =
    chain g before StartLine words ns _ (at_least-tests (pos 0) (number_at ns 0))
    (λ i. chain g before StartLine words ns _ (at_least-tests (pos 0) (number_at ns 1))
    (λ j. chain g before StartLine words ns _ (member_below-tests (nodes_in before) (number_at ns 0))
    (λ a. chain g before StartLine words ns _ (member_below-tests (points_in before) (number_at ns 1))
    (λ b. (refl, all_kept g before StartLine ns (i, j) tt (a, b) tt tt))
    (λ no. fails_index g before StartLine ns (λ r. no r.1) (i, j) tt))
    (λ no. fails_index g before StartLine ns (λ r. no r.0) (i, j) tt))
    (λ no. fails_range g before StartLine ns (λ r. no r.1)))
    (λ no. fails_range g before StartLine ns (λ r. no r.0))

pub multiple_checked : (g : GameData) (before : List Entry) (words : Line) (ns : List ℤ)
    → Checked g before MultipleLine words ns (limited kinds.Range (pos 1) (pos most_from) (number_at ns 0) >>= (λ multiple. Ok (Multiple multiple)))
multiple_checked g before words ns =
    chain g before MultipleLine words ns _ (limited-tests kinds.Range (pos 1) (pos most_from) (number_at ns 0))
    (λ m. (refl, all_kept g before MultipleLine ns m tt tt tt tt)) (λ no. fails_range g before MultipleLine ns no)

pub from_checked : (g : GameData) (before : List Entry) (words : Line) (ns : List ℤ)
    → Checked g before FromLine words ns
    (at_least (pos 0) (number_at ns 0) >>= (λ number. limited kinds.Range (pos 1) (pos most_from) (number_at ns 1) >>= (λ weight. above_from (latest_in before) number >>= (λ a.
    member_below (nodes_in before) number >>= (λ node. within_sum (weights_sum (from_in before)) weight >>= (λ s. Ok (From node weight)))))))
from_checked g before words ns =
    chain g before FromLine words ns _ (at_least-tests (pos 0) (number_at ns 0))
    (λ n. chain g before FromLine words ns _ (limited-tests kinds.Range (pos 1) (pos most_from) (number_at ns 1))
    (λ x. chain g before FromLine words ns _ (above_from-tests before (number_at ns 0))
    (λ a. chain g before FromLine words ns _ (member_below-tests (nodes_in before) (number_at ns 0))
    (λ i. chain g before FromLine words ns _ (within_sum-tests (weights_sum (from_in before)) (number_at ns 1))
    (λ s. (refl, all_kept g before FromLine ns (n, x) a i s tt))
    (λ no. fails_total g before FromLine ns no (n, x) a i))
    (λ no. fails_index g before FromLine ns no (n, x) a))
    (λ no. fails_order g before FromLine ns no (n, x)))
    (λ no. fails_range g before FromLine ns (λ r. no r.1)))
    (λ no. fails_range g before FromLine ns (λ r. no r.0))

pub over_checked : (g : GameData) (before : List Entry) (words : Line) (ns : List ℤ)
    → Checked g before OverLine words ns
    (at_least (pos 0) (number_at ns 0) >>= (λ number. limited kinds.Range (pos 1) (pos most_over) (number_at ns 1) >>= (λ weight. above_over (latest_in before) number >>= (λ a.
    member_below (points_in before) number >>= (λ point. coprime (weights_of (weights (from_in before))) >>= (λ s. Ok (Over point weight)))))))
over_checked g before words ns =
    chain g before OverLine words ns _ (at_least-tests (pos 0) (number_at ns 0))
    (λ n. chain g before OverLine words ns _ (limited-tests kinds.Range (pos 1) (pos most_over) (number_at ns 1))
    (λ x. chain g before OverLine words ns _ (above_over-tests before (number_at ns 0))
    (λ a. chain g before OverLine words ns _ (member_below-tests (points_in before) (number_at ns 0))
    (λ i. chain g before OverLine words ns _ (coprime-tests (from_in before))
    (λ s. (refl, all_kept g before OverLine ns (n, x) a i s tt))
    (λ no. fails_total g before OverLine ns no (n, x) a i))
    (λ no. fails_index g before OverLine ns no (n, x) a))
    (λ no. fails_order g before OverLine ns no (n, x)))
    (λ no. fails_range g before OverLine ns (λ r. no r.1)))
    (λ no. fails_range g before OverLine ns (λ r. no r.0))

-- ---- the lines of a node

abs_is : (x : ℤ) (n : ℕ) → x ≡ pos n → n ≡ unsigned_abs x
abs_is x n e = sym (ap unsigned_abs e)

pub first_node_checked : (g : GameData) (before : List Entry) (words : Line) (ns : List ℤ) → AreStartsWhole before
    → Checked g before FirstNodeLine words ns (is_due 0 (number_at ns 0) >>= (λ a. none_lacks [] >>= (λ b. Ok (Node 0))))
first_node_checked g before words ns whole =
    chain g before FirstNodeLine words ns _ (is_due-tests 0 (number_at ns 0))
    (λ e. chain g before FirstNodeLine words ns _ (none_lacks-tests [])
    (λ none. (ap (λ (k : ℕ). Node k) (abs_is (number_at ns 0) 0 e), all_kept g before FirstNodeLine ns tt e tt whole tt))
    (λ no. absurd (no tt)))
    (λ no. fails_order g before FirstNodeLine ns no tt)

pub over_node_checked : (g : GameData) (point : ℕ) (weight : ℤ) (b : List Entry) (words : Line) (ns : List ℤ)
    → (let before : List Entry = Over point weight ∷ b in
    Checked g before FirstNodeLine words ns (is_due 0 (number_at ns 0) >>= (λ a. whole_starts (starts_of (version_in before) (from_in before) (over_in before)) >>= (λ s. Ok (Node 0)))))
over_node_checked g point weight b words ns =
    let before : List Entry = Over point weight ∷ b in
    chain g before FirstNodeLine words ns _ (is_due-tests 0 (number_at ns 0))
    (λ e. chain g before FirstNodeLine words ns _ (whole-tests (version_in before) (from_in before) (over_in before))
    (λ whole. (ap (λ (k : ℕ). Node k) (abs_is (number_at ns 0) 0 e), all_kept g before FirstNodeLine ns tt e tt whole tt))
    (λ no. fails_total g before FirstNodeLine ns no tt e tt))
    (λ no. fails_order g before FirstNodeLine ns no tt)

pub node_checked : (g : GameData) (before : List Entry) (words : Line) (ns : List ℤ) → IsGame g → Kept g before
    → Checked g before NodeLine words ns (is_due (next_in before) (number_at ns 0) >>= (λ a. none_lacks (lacking_in g before) >>= (λ b. Ok (Node (next_in before)))))
node_checked g before words ns game k =
    chain g before NodeLine words ns _ (is_due-tests (next_in before) (number_at ns 0))
    (λ e. chain g before NodeLine words ns _ (none_lacks-tests (lacking_in g before))
    (λ none. (ap (λ (i : ℕ). Node i) (abs_is (number_at ns 0) (next_in before) e), all_kept g before NodeLine ns tt e tt (reached_from g before k none) tt))
    (λ no. fails_total g before NodeLine ns (λ r. no (reached_to g before game k r)) tt e tt))
    (λ no. fails_order g before NodeLine ns no tt)

pub vector_checked : (g : GameData) (before : List Entry) (words : Line) (ns : List ℤ)
    → Checked g before VectorLine words ns (each_within kinds.Range (neg_ℤ (pos (span g))) (pos (span g)) ns >>= (λ u. Ok (Vector ns)))
vector_checked g before words ns =
    chain g before VectorLine words ns _ (each_within-tests kinds.Range (neg_ℤ (pos (span g))) (pos (span g)) ns) (λ h. (refl, all_kept g before VectorLine ns h tt tt tt tt)) (λ n. fails_range g before VectorLine ns n)

pub mix_checked : (g : GameData) (before : List Entry) (words : Line) (ns : List ℤ)
    → Checked g before MixLine words ns (each_within kinds.Range (pos 0) (pos mix_total) ns >>= (λ u. sums_to_mix ns >>= (λ v. Ok (Mix ns))))
mix_checked g before words ns =
    chain g before MixLine words ns _ (each_within-tests kinds.Range (pos 0) (pos mix_total) ns)
    (λ h. chain g before MixLine words ns _ (sums_to_mix-tests ns)
    (λ s. (refl, all_kept g before MixLine ns h tt tt s tt))
    (λ n. fails_total g before MixLine ns n h tt tt))
    (λ n. fails_range g before MixLine ns n)

abs_below : (x : ℤ) (n : ℕ) → (pos 0 ≤ℤ x) × (x <ℤ pos n) → unsigned_abs x < n
abs_below x n p = let e = pos_abs x p.0 in let l = p.1 in omega (arith, ints, e, l)

abbrev pub branch_steps : GameData → List Entry → ℤ → ℕ → List ℤ → Result Branch CertKind
branch_steps g before most members ns =
    below_limit kinds.Range g.shape.own_actions (number_at ns 0) >>= (λ own. below_limit kinds.Range g.shape.observations (number_at ns 1) >>= (λ seen. at_least (pos 0) (number_at ns 2) >>= (λ k.
    limited kinds.Range (pos 1) most (number_at ns 3) >>= (λ weight. later_branch (latest_in before) own seen k >>= (λ u. member_below members k >>= (λ member. Ok (record { own = own; seen = seen; member = member; weight = weight })))))))

-- what is asked of a branch of a `next` line, and of a `split` line
abbrev pub next_steps : GameData → List Entry → Branch → Result Entry CertKind
next_steps g before b =
    none_lacks (take (pair_at (limits_of g) b) (lacking_in g before))
    >>= (λ u. fits_lack (slice_index_or (lacking_in g before) (pair_at (limits_of g) b) (pos 0)) b.weight >>= (λ v. Ok (Next b)))

abbrev pub split_steps : Branch → Result Entry CertKind
split_steps b = Ok (Split b)

pub next_checked : (g : GameData) (before : List Entry) (words : Line) (ns : List ℤ) → IsGame g → Kept g before
    → Checked g before NextLine words ns (branch_steps g before (pos mix_total) (nodes_in before) ns
    >>= next_steps g before)
next_checked g before words ns game k =
    let b = branch_in ns in
    let h : Branch → Result Entry CertKind = next_steps g before in
    chain_in g before NextLine words ns _ h (below_limit-tests kinds.Range g.shape.own_actions (number_at ns 0))
    (λ own. chain_in g before NextLine words ns _ h (below_limit-tests kinds.Range g.shape.observations (number_at ns 1))
    (λ seen. chain_in g before NextLine words ns _ h (at_least-tests (pos 0) (number_at ns 2))
    (λ low. chain_in g before NextLine words ns _ h (limited-tests kinds.Range (pos 1) (pos mix_total) (number_at ns 3))
    (λ weight.
    (let range : IsBranchWithin g (pos mix_total) ns = record { own = own; seen = seen; member = low; weight = weight } in
    chain_in g before NextLine words ns _ h (later-tests before b.own b.seen (number_at ns 2) b.weight low)
    (λ later. chain_in g before NextLine words ns _ h (member_below-tests (nodes_in before) (number_at ns 2))
    (λ member.
    (let o = abs_below (number_at ns 0) g.shape.own_actions own in
    let s = abs_below (number_at ns 1) g.shape.observations seen in
    chain g before NextLine words ns _ (none_lacks-tests (take (pair_at (limits_of g) b) (lacking_in g before)))
    (λ none. chain g before NextLine words ns _ (fits_lack-tests (slice_index_or (lacking_in g before) (pair_at (limits_of g) b) (pos 0)) b.weight)
    (λ room. (refl, all_kept g before NextLine ns range later member (record { earlier = earlier_from g before b k o none; room = room_from g before b k o s room }) tt))
    (λ no. fails_total g before NextLine ns (λ r. no (room_to g before b k o s r.room)) range later member))
    (λ no. fails_total g before NextLine ns (λ r. no (earlier_to g before b game k o s r.earlier)) range later member)))
    (λ no. fails_index g before NextLine ns no range later))
    (λ no. fails_order g before NextLine ns no range)))
    (λ no. fails_range g before NextLine ns (λ r. no r.weight)))
    (λ no. fails_range g before NextLine ns (λ r. no r.member)))
    (λ no. fails_range g before NextLine ns (λ r. no r.seen)))
    (λ no. fails_range g before NextLine ns (λ r. no r.own))

-- ---- the lines of a point

pub first_point_checked : (g : GameData) (before : List Entry) (words : Line) (ns : List ℤ) → IsGame g → Kept g before
    → Checked g before FirstPointLine words ns (is_due 0 (number_at ns 0) >>= (λ a. none_lacks (lacking_in g before) >>= (λ b. Ok (Point 0))))
first_point_checked g before words ns game k =
    chain g before FirstPointLine words ns _ (is_due-tests 0 (number_at ns 0))
    (λ e. chain g before FirstPointLine words ns _ (none_lacks-tests (lacking_in g before))
    (λ none. (ap (λ (i : ℕ). Point i) (abs_is (number_at ns 0) 0 e), all_kept g before FirstPointLine ns tt e tt (reached_from g before k none) tt))
    (λ no. fails_total g before FirstPointLine ns (λ r. no (reached_to g before game k r)) tt e tt))
    (λ no. fails_order g before FirstPointLine ns no tt)

pub point_checked : (g : GameData) (before : List Entry) (words : Line) (ns : List ℤ)
    → Checked g before PointLine words ns (is_due (next_in before) (number_at ns 0) >>= (λ a. none_lacks [] >>= (λ b. Ok (Point (next_in before)))))
point_checked g before words ns =
    chain g before PointLine words ns _ (is_due-tests (next_in before) (number_at ns 0))
    (λ e. chain g before PointLine words ns _ (none_lacks-tests [])
    (λ none. (ap (λ (k : ℕ). Point k) (abs_is (number_at ns 0) (next_in before) e), all_kept g before PointLine ns tt e tt tt tt))
    (λ no. absurd (no tt)))
    (λ no. fails_order g before PointLine ns no tt)

pub belief_checked : (g : GameData) (before : List Entry) (words : Line) (ns : List ℤ)
    → Checked g before BeliefLine words ns (each_within kinds.Range (pos 0) (pos most_belief) ns >>= (λ u. belief_total ns >>= (λ v. Ok (Belief ns))))
belief_checked g before words ns =
    chain g before BeliefLine words ns _ (each_within-tests kinds.Range (pos 0) (pos most_belief) ns)
    (λ h. chain g before BeliefLine words ns _ (belief_total-tests ns)
    (λ s. (refl, all_kept g before BeliefLine ns h tt tt s tt))
    (λ n. fails_total g before BeliefLine ns n h tt tt))
    (λ n. fails_range g before BeliefLine ns n)

pub value_checked : (g : GameData) (before : List Entry) (words : Line) (ns : List ℤ)
    → Checked g before ValueLine words ns (limited kinds.Range (neg_ℤ (pos (span g) *ℤ total_in before)) (pos (span g) *ℤ total_in before) (number_at ns 0) >>= (λ value. Ok (Value value)))
value_checked g before words ns =
    chain g before ValueLine words ns _ (limited-tests kinds.Range (neg_ℤ (pos (span g) *ℤ total_in before)) (pos (span g) *ℤ total_in before) (number_at ns 0))
    (λ h. (refl, all_kept g before ValueLine ns h tt tt tt tt)) (λ n. fails_range g before ValueLine ns n)

pub state_checked : (g : GameData) (before : List Entry) (words : Line) (ns : List ℤ) (state : ℕ) → (Rule g before StateLine kinds.Order ns → number_at ns 0 ≡ pos state) → (number_at ns 0 ≡ pos state → Rule g before StateLine kinds.Order ns)
    → Checked g before StateLine words ns
    (each_within kinds.Range (pos 0) (pos mix_total) (drop 1 ns) >>= (λ u. is_due state (number_at ns 0) >>= (λ v. sums_to_mix (drop 1 ns) >>= (λ w. Ok (Mixes state (drop 1 ns))))))
state_checked g before words ns state from to =
    chain g before StateLine words ns _ (each_within-tests kinds.Range (pos 0) (pos mix_total) (drop 1 ns))
    (λ h. chain g before StateLine words ns _ (is_due-tests state (number_at ns 0))
    (λ e. chain g before StateLine words ns _ (sums_to_mix-tests (drop 1 ns))
    (λ s. (ap (λ (i : ℕ). Mixes i (drop 1 ns)) (abs_is (number_at ns 0) state e), all_kept g before StateLine ns h (to e) tt s tt))
    (λ n. fails_total g before StateLine ns n h (to e) tt))
    (λ n. fails_order g before StateLine ns (λ r. n (from r)) h))
    (λ n. fails_range g before StateLine ns n)

pub split_checked : (g : GameData) (before : List Entry) (words : Line) (ns : List ℤ)
    → Checked g before SplitLine words ns (branch_steps g before most_share (points_in before) ns >>= split_steps)
split_checked g before words ns =
    let b = branch_in ns in
    let h : Branch → Result Entry CertKind = split_steps in
    chain_in g before SplitLine words ns _ h (below_limit-tests kinds.Range g.shape.own_actions (number_at ns 0))
    (λ own. chain_in g before SplitLine words ns _ h (below_limit-tests kinds.Range g.shape.observations (number_at ns 1))
    (λ seen. chain_in g before SplitLine words ns _ h (at_least-tests (pos 0) (number_at ns 2))
    (λ low. chain_in g before SplitLine words ns _ h (limited-tests kinds.Range (pos 1) most_share (number_at ns 3))
    (λ weight.
    (let range : IsBranchWithin g most_share ns = record { own = own; seen = seen; member = low; weight = weight } in
    chain_in g before SplitLine words ns _ h (later-tests before b.own b.seen (number_at ns 2) b.weight low)
    (λ later. chain_in g before SplitLine words ns _ h (member_below-tests (points_in before) (number_at ns 2))
    (λ member. (refl, all_kept g before SplitLine ns range later member tt tt))
    (λ no. fails_index g before SplitLine ns no range later))
    (λ no. fails_order g before SplitLine ns no range)))
    (λ no. fails_range g before SplitLine ns (λ r. no r.weight)))
    (λ no. fails_range g before SplitLine ns (λ r. no r.member)))
    (λ no. fails_range g before SplitLine ns (λ r. no r.seen)))
    (λ no. fails_range g before SplitLine ns (λ r. no r.own))

pub end_checked : (g : GameData) (before : List Entry) (words : Line) (ns : List ℤ) → Checked g before EndLine words ns (Ok End)
end_checked g before words ns = (refl, all_kept g before EndLine ns tt tt tt tt tt)
