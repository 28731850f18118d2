-- What a line says, and the words of a line that says it.
use Rattle.std.proofs.Common.{◌≡◌, ℕ, ◌+◌, ◌^◌, ◌<◌, ◌≤◌, Bool, true, false, cond, List, [], ◌∷◌, length, take, drop, Result, Ok, ℤ, pos, refl, ap, subst, ◌∙◌, arith, inl, inr, ◌⊎◌}
use Rattle.game_model.specs.Limits.{most_belief, most_members}
use Rattle.std.specs.Prelude.{◌≤ℤ◌, ◌*ℤ◌, neg_ℤ, codes, nat_lt, slice_index_or}
use Rattle.std.specs.List.{AllByRecursion}
use Rattle.std.proofs.lemmas.Int.{ints}
use Rattle.std.proofs.lemmas.Bool.{ltb-true, ltb-false}
use Rattle.std.proofs.lemmas.Bool.Decides.{nat_tests}
use Rattle.scaled_num.specs.Sums.{sum_of}
use Rattle.text_words.specs.Lines.{Line}
use Rattle.text_words.specs.Forms.{number_at, begins, limited, below_limit, each_within}
use Rattle.text_words.proofs.Limits.{bind_ok, limited-ok, limited-to, below_limit-ok, below_limit-to, each_within-ok, each_within-to}
use Rattle.text_words.proofs.Numerals.{Small, numbered, numbers_after-ok, numbers_after-to, no_number, one_is, two_are, four_are}
use Rattle.game_model.specs.Branches.{Branch, mix_total}
use Rattle.game_model.specs.Game.{IsWithin, AreCoprime}
use Rattle.point_set.specs.Points.{most_share}
use Rattle.controller.specs.Certificates.{Ending, FractionData, IsShort, most_gap, most_gap_under}
use Rattle.cert_text.specs.declared.fault.CertKind.{CertKind}
use Rattle.cert_text.specs.declared.fault.CertKind.TheVariants as kinds
use Rattle.cert_text.specs.declared.progress.Limits.{Limits}
use Rattle.cert_text.specs.declared.progress.Progress.{Progress}
use Rattle.cert_text.specs.Text.{outcome_word}
use Rattle.cert_text.specs.Forms.{version_line, numbers_after, word_after, outcome_of, fraction_of, at_least, is_due, member_below, few, later_branch, sums_to_mix, belief_total, none_lacks, fits_lack}
use Rattle.cert_text.specs.Entries.{Entry, Version, Outcome, Gap, Lower, Upper, Tail, Sizes, Start, Multiple, From, Over, Node, Vector, Mix, Next, Point, Belief, Value, Mixes, Split, End, version_said, outcome_said, gap_said, bound_said, lower_said, upper_said, tail_said, sizes_said, node_said, vector_said, mix_said, branch_said, pair_at, next_said, point_said, belief_said, value_within, value_said, mixes_said, split_said, end_said, in_node, in_point, in_mixes}
use Rattle.cert_text.proofs.LawGuards.{IsLater, IsNone, at_least-ok, at_least-to, is_due-ok, is_due-to, member_below-ok, member_below-to, few-ok, few-to, later_branch-ok, later_branch-to, sums_to_mix-ok, sums_to_mix-to, belief_total-ok, belief_total-to, none_lacks-ok, none_lacks-to, fits_lack-ok, fits_lack-to}
use Rattle.cert_text.proofs.LawWords.{IsVersion, version_word_of, word_after-ok, word_after-to, version_line-ok, version_line-to, outcome_of-ok, outcome_of-to, fraction_word, IsBrief, fraction_of-ok, fraction_of-to}

abbrev pub fraction_words : List ℕ → FractionData → Line
fraction_words name f = name ∷ fraction_word f ∷ []

abbrev pub branch_numbers : Branch → List ℤ
branch_numbers b = pos b.own ∷ pos b.seen ∷ pos b.member ∷ b.weight ∷ []

-- the words of the line that says an entry
abbrev pub words_in : Entry → Line
words_in (Version number) = codes "certificate" ∷ version_word_of number ∷ []
words_in (Outcome ending) = codes "outcome" ∷ outcome_word ending ∷ []
words_in (Gap f) = fraction_words (codes "gap") f
words_in (Lower f) = fraction_words (codes "lower") f
words_in (Upper f) = fraction_words (codes "upper") f
words_in (Tail f) = fraction_words (codes "tail") f
words_in (Sizes nodes points) = numbered (codes "sizes") (pos nodes ∷ pos points ∷ [])
words_in (Start node point) = numbered (codes "start") (pos node ∷ pos point ∷ [])
words_in (Multiple multiple) = numbered (codes "multiple") (multiple ∷ [])
words_in (From node weight) = numbered (codes "from") (pos node ∷ weight ∷ [])
words_in (Over point weight) = numbered (codes "over") (pos point ∷ weight ∷ [])
words_in (Node number) = numbered (codes "node") (pos number ∷ [])
words_in (Vector entries) = numbered (codes "vector") entries
words_in (Mix weights) = numbered (codes "mix") weights
words_in (Next b) = numbered (codes "next") (branch_numbers b)
words_in (Point number) = numbered (codes "point") (pos number ∷ [])
words_in (Belief parts) = numbered (codes "belief") parts
words_in (Value value) = numbered (codes "value") (value ∷ [])
words_in (Mixes state weights) = numbered (codes "mix") (pos state ∷ weights)
words_in (Split b) = numbered (codes "split") (branch_numbers b)
words_in End = numbered (codes "end") []

abbrev pub done : Entry → Result Entry CertKind
done e = Ok e

pub said_is : (x e : Entry) → done x ≡ done e → e ≡ x
said_is x e h = cc

-- the line says this entry, in its words
abbrev pub Is : Line → Entry → Entry → Type 0
Is line e x = (e ≡ x) × (line ≡ words_in x)

-- ---- the lines before the nodes

pub version-ok : (line : Line) (e : Entry) → version_said line ≡ Ok e → (number : ℕ) × Is line e (Version number) × IsVersion number
unfolding version_said
version-ok line e h =
    let p = bind_ok (version_line line) _ e h in
    let v = version_line-ok line p.0 p.1 in
    (p.0, (said_is (Version p.0) e p.2, v.1), v.0)

pub version-to : (number : ℕ) → IsVersion number → version_said (words_in (Version number)) ≡ Ok (Version number)
unfolding version_said
version-to number is = rw (version_line-to number is) refl

pub outcome-ok : (line : Line) (e : Entry) → outcome_said line ≡ Ok e → (ending : Ending) × Is line e (Outcome ending)
unfolding outcome_said
outcome-ok line e h =
    let w = bind_ok (word_after (codes "outcome") line) _ e h in
    let o = bind_ok (outcome_of w.0) _ e w.2 in
    (o.0, (said_is (Outcome o.0) e o.2, word_after-ok (codes "outcome") line w.0 w.1 ∙ ap (λ (x : List ℕ). codes "outcome" ∷ x ∷ []) (outcome_of-ok w.0 o.0 o.1)))

pub outcome-to : (ending : Ending) → outcome_said (words_in (Outcome ending)) ≡ Ok (Outcome ending)
unfolding outcome_said
outcome-to ending = rw (word_after-to (codes "outcome") (outcome_word ending), outcome_of-to ending) refl

abbrev pub GapFits : FractionData → Type 0
GapFits f = IsWithin (pos 0) (pos most_gap) f.num × IsWithin (pos 1) (pos most_gap_under) f.den

fraction_again : (name : List ℕ) (line : Line) (word : List ℕ) (f : FractionData) (num den : ℤ) → line ≡ name ∷ word ∷ [] → word ≡ fraction_word f → f.num ≡ num → f.den ≡ den
    → line ≡ fraction_words name (record { num = num; den = den })
fraction_again name line word f num den p q n d =
    let same : f ≡ record { num = num; den = den } = (λ i. record { num = n i; den = d i }) in
    p ∙ ap (λ (w : List ℕ). name ∷ w ∷ []) (q ∙ ap fraction_word same)

pub gap-ok : (line : Line) (e : Entry) → gap_said line ≡ Ok e → (f : FractionData) × Is line e (Gap f) × GapFits f
unfolding gap_said
gap-ok line e h =
    let w = bind_ok (word_after (codes "gap") line) _ e h in
    let f = bind_ok (fraction_of w.0) _ e w.2 in
    let n = bind_ok (limited kinds.Range (pos 0) (pos most_gap) f.0.num) _ e f.2 in
    let d = bind_ok (limited kinds.Range (pos 1) (pos most_gap_under) f.0.den) _ e n.2 in
    let n' = limited-ok kinds.Range (pos 0) (pos most_gap) f.0.num n.0 n.1 in
    let d' = limited-ok kinds.Range (pos 1) (pos most_gap_under) f.0.den d.0 d.1 in
    let g : FractionData = record { num = n.0; den = d.0 } in
    (g, (said_is (Gap g) e d.2, fraction_again (codes "gap") line w.0 f.0 n.0 d.0 (word_after-ok (codes "gap") line w.0 w.1) (fraction_of-ok w.0 f.0 f.1).0 n'.1 d'.1), (n'.0, d'.0))

pub gap-to : (f : FractionData) → IsBrief f → GapFits f → gap_said (words_in (Gap f)) ≡ Ok (Gap f)
unfolding gap_said
gap-to f brief fits =
    rw (word_after-to (codes "gap") (fraction_word f)) (rw (fraction_of-to f brief)
    (rw (limited-to kinds.Range (pos 0) (pos most_gap) f.num fits.0, limited-to kinds.Range (pos 1) (pos most_gap_under) f.den fits.1) refl))

abbrev whole : FractionData → Result FractionData CertKind
whole x = Ok x

fraction_is : (x y : FractionData) → whole x ≡ whole y → x ≡ y
fraction_is x y e = cc

bound-ok : (name : List ℕ) (line : Line) (g : FractionData) → bound_said name line ≡ Ok g → (line ≡ fraction_words name g) × IsShort g
unfolding bound_said
bound-ok name line g h =
    let w = bind_ok (word_after name line) _ g h in
    let f = bind_ok (fraction_of w.0) _ g w.2 in
    let d = bind_ok (at_least (pos 1) f.0.den) _ g f.2 in
    let d' = at_least-ok (pos 1) f.0.den d.0 d.1 in
    let q = fraction_of-ok w.0 f.0 f.1 in
    let k : FractionData = record { num = f.0.num; den = d.0 } in
    let line_is = fraction_again name line w.0 f.0 f.0.num d.0 (word_after-ok name line w.0 w.1) q.0 refl d'.1 in
    let same : k ≡ g = fraction_is k g d.2 in
    subst (λ (x : FractionData). (line ≡ fraction_words name x) × IsShort x) same (line_is, (q.1.0, d'.0, subst Small d'.1 q.1.1))

bound-to : (name : List ℕ) (f : FractionData) → IsShort f → bound_said name (fraction_words name f) ≡ Ok f
unfolding bound_said
bound-to name f short =
    rw (word_after-to name (fraction_word f)) (rw (fraction_of-to f (short.0, short.2)) (rw (at_least-to (pos 1) f.den short.1) refl))

pub lower-ok : (line : Line) (e : Entry) → lower_said line ≡ Ok e → (f : FractionData) × Is line e (Lower f) × IsShort f
unfolding lower_said
lower-ok line e h =
    let f = bind_ok (bound_said (codes "lower") line) _ e h in
    let p = bound-ok (codes "lower") line f.0 f.1 in
    (f.0, (said_is (Lower f.0) e f.2, p.0), p.1)

pub lower-to : (f : FractionData) → IsShort f → lower_said (words_in (Lower f)) ≡ Ok (Lower f)
unfolding lower_said
lower-to f short = rw (bound-to (codes "lower") f short) refl

pub upper-ok : (line : Line) (e : Entry) → upper_said line ≡ Ok e → (f : FractionData) × Is line e (Upper f) × IsShort f
unfolding upper_said
upper-ok line e h =
    let f = bind_ok (bound_said (codes "upper") line) _ e h in
    let p = bound-ok (codes "upper") line f.0 f.1 in
    (f.0, (said_is (Upper f.0) e f.2, p.0), p.1)

pub upper-to : (f : FractionData) → IsShort f → upper_said (words_in (Upper f)) ≡ Ok (Upper f)
unfolding upper_said
upper-to f short = rw (bound-to (codes "upper") f short) refl

pub tail-ok : (line : Line) (e : Entry) → tail_said line ≡ Ok e → (f : FractionData) × Is line e (Tail f) × IsShort f
unfolding tail_said
tail-ok line e h =
    let f = bind_ok (bound_said (codes "tail") line) _ e h in
    let p = bound-ok (codes "tail") line f.0 f.1 in
    (f.0, (said_is (Tail f.0) e f.2, p.0), p.1)

pub tail-to : (f : FractionData) → IsShort f → tail_said (words_in (Tail f)) ≡ Ok (Tail f)
unfolding tail_said
tail-to f short = rw (bound-to (codes "tail") f short) refl

pub record SizesFit (states nodes points : ℕ) : Type 0 where
  pub some_node : 1 ≤ nodes
  pub most_nodes : nodes ≤ most_members
  pub some_points : states ≤ points
  pub most_points : points ≤ most_members

pub sizes-ok : (states : ℕ) (line : Line) (e : Entry) → sizes_said states line ≡ Ok e → (nodes : ℕ) × (points : ℕ) × Is line e (Sizes nodes points) × SizesFit states nodes points
unfolding sizes_said
sizes-ok states line e h =
    let ns = bind_ok (numbers_after (codes "sizes") 2 line) _ e h in
    let n = bind_ok (at_least (pos 1) (number_at ns.0 0)) _ e ns.2 in
    let p = bind_ok (at_least (pos states) (number_at ns.0 1)) _ e n.2 in
    let nodes = bind_ok (few n.0) _ e p.2 in
    let points = bind_ok (few p.0) _ e nodes.2 in
    let w = numbers_after-ok kinds.Shape kinds.Number (codes "sizes") 2 line ns.0 ns.1 in
    let n' = at_least-ok (pos 1) (number_at ns.0 0) n.0 n.1 in
    let p' = at_least-ok (pos states) (number_at ns.0 1) p.0 p.1 in
    let a = few-ok n.0 nodes.0 (omega (arith, ints, n'.0)) nodes.1 in
    let b = few-ok p.0 points.0 (omega (arith, ints, p'.0)) points.1 in
    let all = two_are ns.0 (pos nodes.0) (pos points.0) w.1 (n'.1 ∙ a.1) (p'.1 ∙ b.1) in (
      nodes.0,
      points.0,
      (said_is (Sizes nodes.0 points.0) e points.2, w.0 ∙ ap (λ (xs : List ℤ). numbered (codes "sizes") xs) all),
      record {
        some_node = omega (arith, ints, n'.0, a.1);
        most_nodes = a.0;
        some_points = omega (arith, ints, p'.0, b.1);
        most_points = b.0;
      },
    )

pub sizes-to : (states nodes points : ℕ) → SizesFit states nodes points → sizes_said states (words_in (Sizes nodes points)) ≡ Ok (Sizes nodes points)
unfolding sizes_said
sizes-to states nodes points f =
    let small : AllByRecursion Small (pos nodes ∷ pos points ∷ []) = (omega (arith, f.most_nodes), (omega (arith, f.most_points), tt)) in
    rw (numbers_after-to kinds.Shape kinds.Number (codes "sizes") 2 (pos nodes ∷ pos points ∷ []) refl small)
    (rw (at_least-to (pos 1) (pos nodes) (omega (arith, ints, f.some_node)), at_least-to (pos states) (pos points) (omega (arith, ints, f.some_points)))
    (rw (few-to nodes f.most_nodes, few-to points f.most_points) refl))

-- ---- the lines of a node

pub node-ok : (number : ℕ) (lacking : List ℤ) (line : Line) (e : Entry) → node_said number lacking line ≡ Ok e → Is line e (Node number) × AllByRecursion IsNone lacking
unfolding node_said
node-ok number lacking line e h =
    let ns = bind_ok (numbers_after (codes "node") 1 line) _ e h in
    let d = bind_ok (is_due number (number_at ns.0 0)) _ e ns.2 in
    let l = bind_ok (none_lacks lacking) _ e d.2 in
    let w = numbers_after-ok kinds.Shape kinds.Number (codes "node") 1 line ns.0 ns.1 in
    let all = one_is ns.0 (pos number) w.1 (is_due-ok number (number_at ns.0 0) d.0 d.1) in
    ((said_is (Node number) e l.2, w.0 ∙ ap (λ (xs : List ℤ). numbered (codes "node") xs) all), none_lacks-ok lacking l.0 l.1)

pub node-to : (number : ℕ) (lacking : List ℤ) → Small (pos number) → AllByRecursion IsNone lacking → node_said number lacking (words_in (Node number)) ≡ Ok (Node number)
unfolding node_said
node-to number lacking small none =
    rw (numbers_after-to kinds.Shape kinds.Number (codes "node") 1 (pos number ∷ []) refl (small, tt)) (rw (is_due-to number, none_lacks-to lacking none) refl)

pub record VectorFits (limits : Limits) (ns : List ℤ) : Type 0 where
  pub long : length ns ≡ limits.states
  pub each : AllByRecursion (IsWithin (neg_ℤ limits.span) limits.span) ns

pub vector-ok : (limits : Limits) (line : Line) (e : Entry) → vector_said limits line ≡ Ok e → (ns : List ℤ) × Is line e (Vector ns) × VectorFits limits ns
unfolding vector_said
vector-ok limits line e h =
    let ns = bind_ok (numbers_after (codes "vector") limits.states line) _ e h in
    let a = bind_ok (each_within kinds.Range (neg_ℤ limits.span) limits.span ns.0) _ e ns.2 in
    let w = numbers_after-ok kinds.Shape kinds.Number (codes "vector") limits.states line ns.0 ns.1 in
    (ns.0, (said_is (Vector ns.0) e a.2, w.0), record { long = w.1; each = each_within-ok kinds.Range (neg_ℤ limits.span) limits.span ns.0 a.0 a.1 })

pub vector-to : (limits : Limits) (ns : List ℤ) → AllByRecursion Small ns → VectorFits limits ns → vector_said limits (words_in (Vector ns)) ≡ Ok (Vector ns)
unfolding vector_said
vector-to limits ns small f =
    rw (numbers_after-to kinds.Shape kinds.Number (codes "vector") limits.states ns f.long small) (rw (each_within-to kinds.Range (neg_ℤ limits.span) limits.span ns f.each) refl)

pub record MixFits (actions : ℕ) (ns : List ℤ) : Type 0 where
  pub long : length ns ≡ actions
  pub each : AllByRecursion (IsWithin (pos 0) (pos mix_total)) ns
  pub sums : sum_of ns ≡ pos mix_total

pub mix-ok : (limits : Limits) (line : Line) (e : Entry) → mix_said limits line ≡ Ok e → (ns : List ℤ) × Is line e (Mix ns) × MixFits limits.own_actions ns
unfolding mix_said
mix-ok limits line e h =
    let ns = bind_ok (numbers_after (codes "mix") limits.own_actions line) _ e h in
    let a = bind_ok (each_within kinds.Range (pos 0) (pos mix_total) ns.0) _ e ns.2 in
    let s = bind_ok (sums_to_mix ns.0) _ e a.2 in
    let w = numbers_after-ok kinds.Shape kinds.Number (codes "mix") limits.own_actions line ns.0 ns.1 in
    (ns.0, (said_is (Mix ns.0) e s.2, w.0), record { long = w.1; each = each_within-ok kinds.Range (pos 0) (pos mix_total) ns.0 a.0 a.1; sums = sums_to_mix-ok ns.0 s.0 s.1 })

pub mix-to : (limits : Limits) (ns : List ℤ) → AllByRecursion Small ns → MixFits limits.own_actions ns → mix_said limits (words_in (Mix ns)) ≡ Ok (Mix ns)
unfolding mix_said
mix-to limits ns small f =
    rw (numbers_after-to kinds.Shape kinds.Number (codes "mix") limits.own_actions ns f.long small) (rw (each_within-to kinds.Range (pos 0) (pos mix_total) ns f.each, sums_to_mix-to ns f.sums) refl)

pub record BranchFits (most : ℤ) (members : ℕ) (progress : Progress) (b : Branch) : Type 0 where
  pub own : b.own < progress.limits.own_actions
  pub seen : b.seen < progress.limits.observations
  pub member : b.member < members
  pub weight : IsWithin (pos 1) most b.weight
  pub later : IsLater progress.latest b.own b.seen b.member

abbrev one : Branch → Result Branch CertKind
one x = Ok x

branch_is : (x y : Branch) → one x ≡ one y → x ≡ y
branch_is x y e = cc

branch-ok : (name : List ℕ) (most : ℤ) (members : ℕ) (progress : Progress) (line : Line) (b : Branch) → branch_said name most members progress line ≡ Ok b
    → (line ≡ numbered name (branch_numbers b)) × BranchFits most members progress b
unfolding branch_said
branch-ok name most members progress line b h =
    let ns = bind_ok (numbers_after name 4 line) _ b h in
    let own = bind_ok (below_limit kinds.Range progress.limits.own_actions (number_at ns.0 0)) _ b ns.2 in
    let seen = bind_ok (below_limit kinds.Range progress.limits.observations (number_at ns.0 1)) _ b own.2 in
    let k = bind_ok (at_least (pos 0) (number_at ns.0 2)) _ b seen.2 in
    let weight = bind_ok (limited kinds.Range (pos 1) most (number_at ns.0 3)) _ b k.2 in
    let later = bind_ok (later_branch progress.latest own.0 seen.0 k.0) _ b weight.2 in
    let member = bind_ok (member_below members k.0) _ b later.2 in
    let w = numbers_after-ok kinds.Shape kinds.Number name 4 line ns.0 ns.1 in
    let own' = below_limit-ok kinds.Range progress.limits.own_actions (number_at ns.0 0) own.0 own.1 in
    let seen' = below_limit-ok kinds.Range progress.limits.observations (number_at ns.0 1) seen.0 seen.1 in
    let k' = at_least-ok (pos 0) (number_at ns.0 2) k.0 k.1 in
    let weight' = limited-ok kinds.Range (pos 1) most (number_at ns.0 3) weight.0 weight.1 in
    let member' = member_below-ok members k.0 member.0 k'.0 member.1 in
    let all = four_are ns.0 (pos own.0) (pos seen.0) (pos member.0) weight.0 w.1 own'.1 seen'.1 (k'.1 ∙ member'.1) weight'.1 in
    let d : Branch = record { own = own.0; seen = seen.0; member = member.0; weight = weight.0 } in
    let fits : BranchFits most members progress d = record {
      own = own'.0;
      seen = seen'.0;
      member = member'.0;
      weight = weight'.0;
      later = later_branch-ok progress.latest own.0 seen.0 member.0 later.0 (subst (λ (x : ℤ). later_branch progress.latest own.0 seen.0 x ≡ Ok later.0) member'.1 later.1);
    } in
    subst (λ (x : Branch). (line ≡ numbered name (branch_numbers x)) × BranchFits most members progress x) (branch_is d b member.2) (w.0 ∙ ap (λ (xs : List ℤ). numbered name xs) all, fits)

branch-to : (name : List ℕ) (most : ℤ) (members : ℕ) (progress : Progress) (b : Branch) → AllByRecursion Small (branch_numbers b) → BranchFits most members progress b
    → branch_said name most members progress (numbered name (branch_numbers b)) ≡ Ok b
unfolding branch_said
branch-to name most members progress b small f =
    rw (numbers_after-to kinds.Shape kinds.Number name 4 (branch_numbers b) refl small)
    (rw (below_limit-to kinds.Range progress.limits.own_actions b.own f.own, below_limit-to kinds.Range progress.limits.observations b.seen f.seen, at_least-to (pos 0) (pos b.member) (omega (arith, ints)), limited-to kinds.Range (pos 1) most b.weight f.weight)
    (rw (later_branch-to progress.latest b.own b.seen b.member f.later, member_below-to members b.member f.member) refl))

pub record NextFits (progress : Progress) (b : Branch) : Type 0 where
  pub branch : BranchFits (pos mix_total) progress.nodes progress b
  pub earlier : AllByRecursion IsNone (take (pair_at progress.limits b) progress.lacking)
  pub room : b.weight ≤ℤ slice_index_or progress.lacking (pair_at progress.limits b) (pos 0)

pub next-ok : (progress : Progress) (line : Line) (e : Entry) → next_said progress line ≡ Ok e → (b : Branch) × Is line e (Next b) × NextFits progress b
unfolding next_said
next-ok progress line e h =
    let b = bind_ok (branch_said (codes "next") (pos mix_total) progress.nodes progress line) _ e h in
    let n = bind_ok (none_lacks (take (pair_at progress.limits b.0) progress.lacking)) _ e b.2 in
    let r = bind_ok (fits_lack (slice_index_or progress.lacking (pair_at progress.limits b.0) (pos 0)) b.0.weight) _ e n.2 in
    let p = branch-ok (codes "next") (pos mix_total) progress.nodes progress line b.0 b.1 in (
      b.0,
      (said_is (Next b.0) e r.2, p.0),
      record {
        branch = p.1;
        earlier = none_lacks-ok (take (pair_at progress.limits b.0) progress.lacking) n.0 n.1;
        room = fits_lack-ok (slice_index_or progress.lacking (pair_at progress.limits b.0) (pos 0)) b.0.weight r.0 r.1;
      },
    )

pub next-to : (progress : Progress) (b : Branch) → AllByRecursion Small (branch_numbers b) → NextFits progress b → next_said progress (words_in (Next b)) ≡ Ok (Next b)
unfolding next_said
next-to progress b small f =
    rw (branch-to (codes "next") (pos mix_total) progress.nodes progress b small f.branch)
    (rw (none_lacks-to (take (pair_at progress.limits b) progress.lacking) f.earlier)
    (rw (fits_lack-to (slice_index_or progress.lacking (pair_at progress.limits b) (pos 0)) b.weight f.room) refl))

-- ---- the lines of a point

pub point-ok : (number : ℕ) (lacking : List ℤ) (line : Line) (e : Entry) → point_said number lacking line ≡ Ok e → Is line e (Point number) × AllByRecursion IsNone lacking
unfolding point_said
point-ok number lacking line e h =
    let ns = bind_ok (numbers_after (codes "point") 1 line) _ e h in
    let d = bind_ok (is_due number (number_at ns.0 0)) _ e ns.2 in
    let l = bind_ok (none_lacks lacking) _ e d.2 in
    let w = numbers_after-ok kinds.Shape kinds.Number (codes "point") 1 line ns.0 ns.1 in
    let all = one_is ns.0 (pos number) w.1 (is_due-ok number (number_at ns.0 0) d.0 d.1) in
    ((said_is (Point number) e l.2, w.0 ∙ ap (λ (xs : List ℤ). numbered (codes "point") xs) all), none_lacks-ok lacking l.0 l.1)

pub point-to : (number : ℕ) (lacking : List ℤ) → Small (pos number) → AllByRecursion IsNone lacking → point_said number lacking (words_in (Point number)) ≡ Ok (Point number)
unfolding point_said
point-to number lacking small none =
    rw (numbers_after-to kinds.Shape kinds.Number (codes "point") 1 (pos number ∷ []) refl (small, tt)) (rw (is_due-to number, none_lacks-to lacking none) refl)

pub record BeliefFits (states : ℕ) (ns : List ℤ) : Type 0 where
  pub long : length ns ≡ states
  pub each : AllByRecursion (IsWithin (pos 0) (pos most_belief)) ns
  pub sums : IsWithin (pos 1) (pos most_belief) (sum_of ns)
  pub coprime : AreCoprime ns

pub belief-ok : (limits : Limits) (line : Line) (e : Entry) → belief_said limits line ≡ Ok e → (ns : List ℤ) × Is line e (Belief ns) × BeliefFits limits.states ns
unfolding belief_said
belief-ok limits line e h =
    let ns = bind_ok (numbers_after (codes "belief") limits.states line) _ e h in
    let a = bind_ok (each_within kinds.Range (pos 0) (pos most_belief) ns.0) _ e ns.2 in
    let s = bind_ok (belief_total ns.0) _ e a.2 in
    let w = numbers_after-ok kinds.Shape kinds.Number (codes "belief") limits.states line ns.0 ns.1 in
    let t = belief_total-ok ns.0 s.0 s.1 in
    (ns.0, (said_is (Belief ns.0) e s.2, w.0), record { long = w.1; each = each_within-ok kinds.Range (pos 0) (pos most_belief) ns.0 a.0 a.1; sums = t.0; coprime = t.1 })

pub belief-to : (limits : Limits) (ns : List ℤ) → AllByRecursion Small ns → BeliefFits limits.states ns → belief_said limits (words_in (Belief ns)) ≡ Ok (Belief ns)
unfolding belief_said
belief-to limits ns small f =
    rw (numbers_after-to kinds.Shape kinds.Number (codes "belief") limits.states ns f.long small) (rw (each_within-to kinds.Range (pos 0) (pos most_belief) ns f.each, belief_total-to ns f.sums f.coprime) refl)

abbrev pub ValueFits : Limits → ℤ → ℤ → Type 0
ValueFits limits total value = IsWithin (neg_ℤ (limits.span *ℤ total)) (limits.span *ℤ total) value

pub value-ok : (limits : Limits) (total : ℤ) (line : Line) (e : Entry) → value_said limits total line ≡ Ok e → (value : ℤ) × Is line e (Value value) × ValueFits limits total value
unfolding value_said value_within
value-ok limits total line e h =
    let ns = bind_ok (numbers_after (codes "value") 1 line) _ e h in
    let v = bind_ok (limited kinds.Range (neg_ℤ (limits.span *ℤ total)) (limits.span *ℤ total) (number_at ns.0 0)) _ e ns.2 in
    let w = numbers_after-ok kinds.Shape kinds.Number (codes "value") 1 line ns.0 ns.1 in
    let v' = limited-ok kinds.Range (neg_ℤ (limits.span *ℤ total)) (limits.span *ℤ total) (number_at ns.0 0) v.0 v.1 in
    let all = one_is ns.0 v.0 w.1 v'.1 in
    (v.0, (said_is (Value v.0) e v.2, w.0 ∙ ap (λ (xs : List ℤ). numbered (codes "value") xs) all), v'.0)

pub value-to : (limits : Limits) (total value : ℤ) → Small value → ValueFits limits total value → value_said limits total (words_in (Value value)) ≡ Ok (Value value)
unfolding value_said value_within
value-to limits total value small f =
    rw (numbers_after-to kinds.Shape kinds.Number (codes "value") 1 (value ∷ []) refl (small, tt)) (rw (limited-to kinds.Range (neg_ℤ (limits.span *ℤ total)) (limits.span *ℤ total) value f) refl)

state_first : (ns : List ℤ) (count : ℕ) (x : ℤ) → length ns ≡ count + 1 → number_at ns 0 ≡ x → (ns ≡ x ∷ drop 1 ns) × (length (drop 1 ns) ≡ count)
state_first [] count x e p = absurd (omega arith)
state_first (n ∷ ns) count x e p = (ap (λ (y : ℤ). y ∷ ns) p, omega arith)

pub mixes-ok : (limits : Limits) (state : ℕ) (line : Line) (e : Entry) → mixes_said limits state line ≡ Ok e → (ns : List ℤ) × Is line e (Mixes state ns) × MixFits limits.informed_actions ns
unfolding mixes_said
mixes-ok limits state line e h =
    let ns = bind_ok (numbers_after (codes "mix") (limits.informed_actions + 1) line) _ e h in
    let a = bind_ok (each_within kinds.Range (pos 0) (pos mix_total) (drop 1 ns.0)) _ e ns.2 in
    let d = bind_ok (is_due state (number_at ns.0 0)) _ e a.2 in
    let s = bind_ok (sums_to_mix (drop 1 ns.0)) _ e d.2 in
    let w = numbers_after-ok kinds.Shape kinds.Number (codes "mix") (limits.informed_actions + 1) line ns.0 ns.1 in
    let f = state_first ns.0 limits.informed_actions (pos state) w.1 (is_due-ok state (number_at ns.0 0) d.0 d.1) in (
      drop 1 ns.0,
      (said_is (Mixes state (drop 1 ns.0)) e s.2, w.0 ∙ ap (λ (xs : List ℤ). numbered (codes "mix") xs) f.0),
      record { long = f.1; each = each_within-ok kinds.Range (pos 0) (pos mix_total) (drop 1 ns.0) a.0 a.1; sums = sums_to_mix-ok (drop 1 ns.0) s.0 s.1 },
    )

pub mixes-to : (limits : Limits) (state : ℕ) (ns : List ℤ) → AllByRecursion Small (pos state ∷ ns) → MixFits limits.informed_actions ns → mixes_said limits state (words_in (Mixes state ns)) ≡ Ok (Mixes state ns)
unfolding mixes_said
mixes-to limits state ns small f =
    rw (numbers_after-to kinds.Shape kinds.Number (codes "mix") (limits.informed_actions + 1) (pos state ∷ ns) (omega (arith, f.long)) small)
    (rw (each_within-to kinds.Range (pos 0) (pos mix_total) ns f.each) (rw (is_due-to state, sums_to_mix-to ns f.sums) refl))

pub split-ok : (progress : Progress) (line : Line) (e : Entry) → split_said progress line ≡ Ok e → (b : Branch) × Is line e (Split b) × BranchFits most_share progress.points progress b
unfolding split_said
split-ok progress line e h =
    let b = bind_ok (branch_said (codes "split") most_share progress.points progress line) _ e h in
    let p = branch-ok (codes "split") most_share progress.points progress line b.0 b.1 in
    (b.0, (said_is (Split b.0) e b.2, p.0), p.1)

pub split-to : (progress : Progress) (b : Branch) → AllByRecursion Small (branch_numbers b) → BranchFits most_share progress.points progress b → split_said progress (words_in (Split b)) ≡ Ok (Split b)
unfolding split_said
split-to progress b small f = rw (branch-to (codes "split") most_share progress.points progress b small f) refl

pub end-ok : (line : Line) (e : Entry) → end_said line ≡ Ok e → Is line e End
unfolding end_said
end-ok line e h =
    let ns = bind_ok (numbers_after (codes "end") 0 line) _ e h in
    let w = numbers_after-ok kinds.Shape kinds.Number (codes "end") 0 line ns.0 ns.1 in
    (said_is End e ns.2, w.0 ∙ ap (λ (xs : List ℤ). numbered (codes "end") xs) (no_number ns.0 w.1))

pub end-to : end_said (words_in End) ≡ Ok End
unfolding end_said
end-to = rw (numbers_after-to kinds.Shape kinds.Number (codes "end") 0 [] refl tt) refl

-- ---- behind a node's steps, and behind a point's shares

-- a further step, the next node, or the first point
abbrev pub InNode : Progress → Line → Entry → Type 0
InNode progress line e =
    ((b : Branch) × Is line e (Next b) × NextFits progress b)
    ⊎ ((Is line e (Node progress.begun) × (progress.begun < progress.nodes) × AllByRecursion IsNone progress.lacking)
    ⊎ (Is line e (Point 0) × (progress.nodes ≤ progress.begun) × AllByRecursion IsNone progress.lacking))

node_by : (progress : Progress) (line : Line) (e : Entry) (next more : Bool) → nat_lt progress.begun progress.nodes ≡ more
    → cond next (next_said progress line) (cond more (node_said progress.begun progress.lacking line) (point_said 0 progress.lacking line)) ≡ Ok e → InNode progress line e
node_by progress line e true more m h = inl (next-ok progress line e h)
node_by progress line e false true m h = let p = node-ok progress.begun progress.lacking line e h in inr (inl (p.0, ltb-true progress.begun progress.nodes m, p.1))
node_by progress line e false false m h = let p = point-ok 0 progress.lacking line e h in inr (inr (p.0, ltb-false progress.begun progress.nodes m, p.1))

pub in_node-ok : (progress : Progress) (line : Line) (e : Entry) → in_node progress line ≡ Ok e → InNode progress line e
unfolding in_node
in_node-ok progress line e h = node_by progress line e (begins (codes "next") line) (nat_lt progress.begun progress.nodes) refl h

lt_true : (a b : ℕ) → a < b → nat_lt a b ≡ true
lt_true a b h = grind (arith, nat_tests)

lt_false : (a b : ℕ) → b ≤ a → nat_lt a b ≡ false
lt_false a b h = grind (arith, nat_tests)

pub in_node-next : (progress : Progress) (b : Branch) → AllByRecursion Small (branch_numbers b) → NextFits progress b → in_node progress (words_in (Next b)) ≡ Ok (Next b)
unfolding in_node
in_node-next progress b small f = next-to progress b small f

pub in_node-node : (progress : Progress) → Small (pos progress.begun) → progress.begun < progress.nodes → AllByRecursion IsNone progress.lacking → in_node progress (words_in (Node progress.begun)) ≡ Ok (Node progress.begun)
unfolding in_node
in_node-node progress small l none = rw (lt_true progress.begun progress.nodes l) (node-to progress.begun progress.lacking small none)

pub in_node-point : (progress : Progress) → progress.nodes ≤ progress.begun → AllByRecursion IsNone progress.lacking → in_node progress (words_in (Point 0)) ≡ Ok (Point 0)
unfolding in_node
in_node-point progress l none = rw (lt_false progress.begun progress.nodes l) (point-to 0 progress.lacking (omega arith) none)

-- a further share, the next point, or the end
abbrev pub InPoint : Progress → Line → Entry → Type 0
InPoint progress line e =
    ((b : Branch) × Is line e (Split b) × BranchFits most_share progress.points progress b)
    ⊎ ((Is line e (Point progress.begun) × (progress.begun < progress.points)) ⊎ (Is line e End × (progress.points ≤ progress.begun)))

point_by : (progress : Progress) (line : Line) (e : Entry) (split more : Bool) → nat_lt progress.begun progress.points ≡ more
    → cond split (split_said progress line) (cond more (point_said progress.begun [] line) (end_said line)) ≡ Ok e → InPoint progress line e
point_by progress line e true more m h = inl (split-ok progress line e h)
point_by progress line e false true m h = let p = point-ok progress.begun [] line e h in inr (inl (p.0, ltb-true progress.begun progress.points m))
point_by progress line e false false m h = inr (inr (end-ok line e h, ltb-false progress.begun progress.points m))

pub in_point-ok : (progress : Progress) (line : Line) (e : Entry) → in_point progress line ≡ Ok e → InPoint progress line e
unfolding in_point
in_point-ok progress line e h = point_by progress line e (begins (codes "split") line) (nat_lt progress.begun progress.points) refl h

pub in_point-split : (progress : Progress) (b : Branch) → AllByRecursion Small (branch_numbers b) → BranchFits most_share progress.points progress b → in_point progress (words_in (Split b)) ≡ Ok (Split b)
unfolding in_point
in_point-split progress b small f = split-to progress b small f

pub in_point-point : (progress : Progress) → Small (pos progress.begun) → progress.begun < progress.points → in_point progress (words_in (Point progress.begun)) ≡ Ok (Point progress.begun)
unfolding in_point
in_point-point progress small l = rw (lt_true progress.begun progress.points l) (point-to progress.begun [] small tt)

pub in_point-end : (progress : Progress) → progress.points ≤ progress.begun → in_point progress (words_in End) ≡ Ok End
unfolding in_point
in_point-end progress l = rw (lt_false progress.begun progress.points l) end-to

-- the mix of a further state, or what may follow the last one
abbrev pub InMixes : Progress → Line → Entry → Type 0
InMixes progress line e =
    ((ns : List ℤ) × Is line e (Mixes progress.state ns) × MixFits progress.limits.informed_actions ns × (progress.state < progress.limits.states))
    ⊎ (InPoint progress line e × (progress.limits.states ≤ progress.state))

mixes_by : (progress : Progress) (line : Line) (e : Entry) (more : Bool) → nat_lt progress.state progress.limits.states ≡ more
    → cond more (mixes_said progress.limits progress.state line) (in_point progress line) ≡ Ok e → InMixes progress line e
mixes_by progress line e true m h = let p = mixes-ok progress.limits progress.state line e h in inl (p.0, p.1, p.2, ltb-true progress.state progress.limits.states m)
mixes_by progress line e false m h = inr (in_point-ok progress line e h, ltb-false progress.state progress.limits.states m)

pub in_mixes-ok : (progress : Progress) (line : Line) (e : Entry) → in_mixes progress line ≡ Ok e → InMixes progress line e
unfolding in_mixes
in_mixes-ok progress line e h = mixes_by progress line e (nat_lt progress.state progress.limits.states) refl h

pub in_mixes-mix : (progress : Progress) (ns : List ℤ) → AllByRecursion Small (pos progress.state ∷ ns) → MixFits progress.limits.informed_actions ns → progress.state < progress.limits.states → in_mixes progress (words_in (Mixes progress.state ns)) ≡ Ok (Mixes progress.state ns)
unfolding in_mixes
in_mixes-mix progress ns small f l = rw (lt_true progress.state progress.limits.states l) (mixes-to progress.limits progress.state ns small f)

pub in_mixes-past : (progress : Progress) (line : Line) (e : Entry) → progress.limits.states ≤ progress.state → in_point progress line ≡ Ok e → in_mixes progress line ≡ Ok e
unfolding in_mixes
in_mixes-past progress line e l h = rw (lt_false progress.state progress.limits.states l) h
