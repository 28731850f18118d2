-- What the reader finds at each line is what the rules say of it.
use Rattle.std.proofs.Common.{◌≡◌, ◌≢◌, ℕ, ◌+◌, ◌<◌, Bool, true, false, cond, List, [], ◌∷◌, Result, Ok, Err, ℤ, pos, refl, sym, ap, subst, ◌∙◌, arith, inl, inr}
use Rattle.std.specs.Prelude.{codes, nat_lt, ◌==◌}
use Rattle.text_words.specs.Lines.{Line, Word}
use Rattle.text_words.specs.Forms.{◌>>=◌, begins, numbers_after, number_at}
use Rattle.text_words.proofs.Chains.{bind_assoc, bind_same, begins_is, begins_so, true_false}
use Rattle.game_model.specs.Game.{GameData, IsGame}
use Rattle.game_model.specs.Branches.{mix_total}
use Rattle.point_set.specs.Points.{most_share}
use Rattle.controller.specs.Certificates.{FractionData}
use Rattle.cert_text.specs.declared.fault.CertKind.{CertKind}
use Rattle.cert_text.specs.declared.fault.CertKind.TheVariants as kinds
use Rattle.cert_text.specs.Fault.{number_of_kind}
use Rattle.cert_text.specs.Forms.{version_line, are_words, word_after, fraction_of, at_least}
use Rattle.cert_text.specs.Entries.{Entry, Version, Outcome, Gap, Lower, Upper, Tail, Sizes, Start, Multiple, From, Over, Node, Vector, Mix, Next, Point, Belief, Value, Mixes, Split, End, entry_of, entry_after, version_said, outcome_said, gap_said, bound_said, lower_said, upper_said, tail_said, sizes_said, start_said, multiple_said, from_said, over_said, first_said, in_sizes, in_from, in_over, node_said, vector_said, mix_said, branch_said, next_said, point_said, belief_said, value_within, value_said, mixes_said, split_said, end_said, in_node, in_point, in_mixes, limits_of}
use Rattle.cert_text.specs.Due.{Form, VersionLine, OutcomeLine, GapLine, LowerLine, UpperLine, TailLine, SizesLine, StartLine, MultipleLine, FromLine, OverLine, FirstNodeLine, NodeLine, VectorLine, MixLine, NextLine, FirstPointLine, PointLine, BeliefLine, ValueLine, StateLine, SplitLine, EndLine, nodes_in, points_in, version_in, next_in, total_in, version_of, due, after_node, after_point, IsOneOf, name_of}
use Rattle.cert_text.specs.Rules.{AreStartsWhole, Rule, IsDueLine, Applies, IsLeast}
use Rattle.cert_text.specs.Reading.{AreEnded}
use Rattle.cert_text.proofs.LawWords.{IsVersion, version_word_of, version_line-ok, version_line-one, version_line-two}
use Rattle.cert_text.proofs.OneForm.{Differ, from_over, over_node, node_apart, point_apart}
use Rattle.cert_text.proofs.Seen.{lacking_in, progress_in, Kept}
use Rattle.cert_text.proofs.Verdicts.{branch_steps, next_steps, split_steps, gap_checked, lower_checked, upper_checked, tail_checked, sizes_checked, start_checked, multiple_checked, from_checked, over_checked, first_node_checked, over_node_checked, node_checked, vector_checked, mix_checked, next_checked, first_point_checked, point_checked, belief_checked, value_checked, state_checked, split_checked, end_checked}
use Rattle.cert_text.proofs.Judged.{JudgedAs, judged_numbers, judged_fraction, judged_outcome, Judged, judged, spared}

-- ---- each form

gap_judged : (g : GameData) (before : List Entry) (line : Line) → JudgedAs g before line GapLine (gap_said line)
unfolding gap_said
gap_judged g before line = judged_fraction g before line GapLine _ (λ w ns h. h, λ w ns h. h, λ w. tt, refl) (λ words f. gap_checked g before words f)

abbrev with_den : FractionData → ℤ → Result FractionData CertKind
with_den f den = Ok (record { num = f.num; den = den })

abbrev positive : FractionData → Result FractionData CertKind
positive f = at_least (pos 1) f.den >>= with_den f

abbrev of_word : Word → Result FractionData CertKind
of_word word = fraction_of word >>= positive

abbrev then_den : (FractionData → Result Entry CertKind) → FractionData → Result Entry CertKind
then_den h f = at_least (pos 1) f.den >>= (λ den. h (record { num = f.num; den = den }))

bound_flat : (name : Word) (line : Line) (h : FractionData → Result Entry CertKind) → (bound_said name line >>= h) ≡ (word_after name line >>= (λ word. fraction_of word >>= then_den h))
unfolding bound_said
bound_flat name line h =
    bind_assoc (word_after name line) of_word h
    ∙ bind_same (word_after name line) (λ word. of_word word >>= h) (λ word. fraction_of word >>= then_den h) (λ word.
    bind_assoc (fraction_of word) positive h
    ∙ bind_same (fraction_of word) (λ f. positive f >>= h) (then_den h) (λ f. bind_assoc (at_least (pos 1) f.den) (with_den f) h))

abbrev lower_entry : FractionData → Result Entry CertKind
lower_entry f = Ok (Lower f)

abbrev upper_entry : FractionData → Result Entry CertKind
upper_entry f = Ok (Upper f)

abbrev tail_entry : FractionData → Result Entry CertKind
tail_entry f = Ok (Tail f)

lower_judged : (g : GameData) (before : List Entry) (line : Line) → JudgedAs g before line LowerLine (lower_said line)
unfolding lower_said
lower_judged g before line =
    subst (JudgedAs g before line LowerLine) (sym (bound_flat (codes "lower") line lower_entry))
    (judged_fraction g before line LowerLine (then_den lower_entry) (λ w ns h. h, λ w ns h. h, λ w. tt, refl) (λ words f. lower_checked g before words f))

upper_judged : (g : GameData) (before : List Entry) (line : Line) → JudgedAs g before line UpperLine (upper_said line)
unfolding upper_said
upper_judged g before line =
    subst (JudgedAs g before line UpperLine) (sym (bound_flat (codes "upper") line upper_entry))
    (judged_fraction g before line UpperLine (then_den upper_entry) (λ w ns h. h, λ w ns h. h, λ w. tt, refl) (λ words f. upper_checked g before words f))

tail_judged : (g : GameData) (before : List Entry) (line : Line) → JudgedAs g before line TailLine (tail_said line)
unfolding tail_said
tail_judged g before line =
    subst (JudgedAs g before line TailLine) (sym (bound_flat (codes "tail") line tail_entry))
    (judged_fraction g before line TailLine (then_den tail_entry) (λ w ns h. h, λ w ns h. h, λ w. tt, refl) (λ words f. tail_checked g before words f))

sizes_judged : (g : GameData) (before : List Entry) (line : Line) → JudgedAs g before line SizesLine (sizes_said g.shape.states line)
unfolding sizes_said
sizes_judged g before line = judged_numbers g before line SizesLine _ (λ w ns h. h, λ w ns h. h, λ w. tt) (λ words ns. sizes_checked g before words ns)

start_judged : (g : GameData) (before : List Entry) (line : Line) → JudgedAs g before line StartLine (start_said (nodes_in before) (points_in before) line)
unfolding start_said
start_judged g before line = judged_numbers g before line StartLine _ (λ w ns h. h, λ w ns h. h, λ w. tt) (λ words ns. start_checked g before words ns)

multiple_judged : (g : GameData) (before : List Entry) (line : Line) → JudgedAs g before line MultipleLine (multiple_said line)
unfolding multiple_said
multiple_judged g before line = judged_numbers g before line MultipleLine _ (λ w ns h. h, λ w ns h. h, λ w. tt) (λ words ns. multiple_checked g before words ns)

from_judged : (g : GameData) (before : List Entry) (line : Line) → JudgedAs g before line FromLine (from_said (progress_in g before) line)
unfolding from_said
from_judged g before line = judged_numbers g before line FromLine _ (λ w ns h. h, λ w ns h. h, λ w. tt) (λ words ns. from_checked g before words ns)

over_judged : (g : GameData) (before : List Entry) (line : Line) → JudgedAs g before line OverLine (over_said (progress_in g before) line)
unfolding over_said
over_judged g before line = judged_numbers g before line OverLine _ (λ w ns h. h, λ w ns h. h, λ w. tt) (λ words ns. over_checked g before words ns)

first_node_judged : (g : GameData) (before : List Entry) (line : Line) → AreStartsWhole before → JudgedAs g before line FirstNodeLine (node_said 0 [] line)
unfolding node_said
first_node_judged g before line whole = judged_numbers g before line FirstNodeLine _ (λ w ns h. h, λ w ns h. h, λ w. tt) (λ words ns. first_node_checked g before words ns whole)

over_node_judged : (g : GameData) (point : ℕ) (weight : ℤ) (b : List Entry) (line : Line)
    → JudgedAs g (Over point weight ∷ b) line FirstNodeLine (first_said (progress_in g (Over point weight ∷ b)).starts line)
unfolding first_said
over_node_judged g point weight b line =
    judged_numbers g (Over point weight ∷ b) line FirstNodeLine _ (λ w ns h. h, λ w ns h. h, λ w. tt) (λ words ns. over_node_checked g point weight b words ns)

node_judged : (g : GameData) (before : List Entry) (line : Line) → IsGame g → Kept g before → JudgedAs g before line NodeLine (node_said (next_in before) (lacking_in g before) line)
unfolding node_said
node_judged g before line game k = judged_numbers g before line NodeLine _ (λ w ns h. h, λ w ns h. h, λ w. tt) (λ words ns. node_checked g before words ns game k)

vector_judged : (g : GameData) (before : List Entry) (line : Line) → JudgedAs g before line VectorLine (vector_said (limits_of g) line)
unfolding vector_said
vector_judged g before line = judged_numbers g before line VectorLine _ (λ w ns h. h, λ w ns h. h, λ w. tt) (λ words ns. vector_checked g before words ns)

mix_judged : (g : GameData) (before : List Entry) (line : Line) → JudgedAs g before line MixLine (mix_said (limits_of g) line)
unfolding mix_said
mix_judged g before line = judged_numbers g before line MixLine _ (λ w ns h. h, λ w ns h. h, λ w. tt) (λ words ns. mix_checked g before words ns)

next_judged : (g : GameData) (before : List Entry) (line : Line) → IsGame g → Kept g before → JudgedAs g before line NextLine (next_said (progress_in g before) line)
unfolding next_said branch_said
next_judged g before line game k =
    subst (JudgedAs g before line NextLine) (sym (bind_assoc (numbers_after kinds.Shape kinds.Number (codes "next") 4 line) (branch_steps g before (pos mix_total) (nodes_in before)) (next_steps g before)))
    (judged_numbers g before line NextLine (λ ns. branch_steps g before (pos mix_total) (nodes_in before) ns >>= next_steps g before) (λ w ns h. h, λ w ns h. h, λ w. tt) (λ words ns. next_checked g before words ns game k))

first_point_judged : (g : GameData) (before : List Entry) (line : Line) → IsGame g → Kept g before → JudgedAs g before line FirstPointLine (point_said 0 (lacking_in g before) line)
unfolding point_said
first_point_judged g before line game k = judged_numbers g before line FirstPointLine _ (λ w ns h. h, λ w ns h. h, λ w. tt) (λ words ns. first_point_checked g before words ns game k)

point_judged : (g : GameData) (before : List Entry) (line : Line) → JudgedAs g before line PointLine (point_said (next_in before) [] line)
unfolding point_said
point_judged g before line = judged_numbers g before line PointLine _ (λ w ns h. h, λ w ns h. h, λ w. tt) (λ words ns. point_checked g before words ns)

belief_judged : (g : GameData) (before : List Entry) (line : Line) → JudgedAs g before line BeliefLine (belief_said (limits_of g) line)
unfolding belief_said
belief_judged g before line = judged_numbers g before line BeliefLine _ (λ w ns h. h, λ w ns h. h, λ w. tt) (λ words ns. belief_checked g before words ns)

value_judged : (g : GameData) (before : List Entry) (line : Line) → JudgedAs g before line ValueLine (value_said (limits_of g) (total_in before) line)
unfolding value_said value_within
value_judged g before line = judged_numbers g before line ValueLine _ (λ w ns h. h, λ w ns h. h, λ w. tt) (λ words ns. value_checked g before words ns)

state_judged : (g : GameData) (before : List Entry) (line : Line) (state : ℕ) → ((ns : List ℤ) → Rule g before StateLine kinds.Order ns → number_at ns 0 ≡ pos state) → ((ns : List ℤ) → number_at ns 0 ≡ pos state → Rule g before StateLine kinds.Order ns)
    → JudgedAs g before line StateLine (mixes_said (limits_of g) state line)
unfolding mixes_said
state_judged g before line state from to = judged_numbers g before line StateLine _ (λ w ns h. h, λ w ns h. h, λ w. tt) (λ words ns. state_checked g before words ns state (from ns) (to ns))

split_judged : (g : GameData) (before : List Entry) (line : Line) → JudgedAs g before line SplitLine (split_said (progress_in g before) line)
unfolding split_said branch_said
split_judged g before line =
    subst (JudgedAs g before line SplitLine) (sym (bind_assoc (numbers_after kinds.Shape kinds.Number (codes "split") 4 line) (branch_steps g before most_share (points_in before)) split_steps))
    (judged_numbers g before line SplitLine (λ ns. branch_steps g before most_share (points_in before) ns >>= split_steps) (λ w ns h. h, λ w ns h. h, λ w. tt) (λ words ns. split_checked g before words ns))

end_judged : (g : GameData) (before : List Entry) (line : Line) → JudgedAs g before line EndLine (end_said line)
unfolding end_said
end_judged g before line = judged_numbers g before line EndLine _ (λ w ns h. h, λ w ns h. h, λ w. tt) (λ words ns. end_checked g before words ns)

-- ---- one form or two are due

cons_some : (e : Entry) (before : List Entry) → (e ∷ before) ≢ []
cons_some e before q = cc

single : (form other : Form) → IsOneOf (form ∷ []) other → other ≡ form
single form other (inl e) = e
single form other (inr h) = absurd h

sole : (g : GameData) (before : List Entry) (line : Line) (form : Form) (r : Result Entry CertKind) → before ≢ [] → due g before ≡ form ∷ [] → JudgedAs g before line form r → Judged g before line r
sole g before line form r some e j =
    judged g before line form r some (subst (λ (forms : List Form). IsOneOf forms form) (sym e) (inl refl)) (λ other words m. single form other (subst (λ (forms : List Form). IsOneOf forms other) e m.0)) j

first_only : (f h other : Form) → Differ f h → name_of other ≡ name_of f → IsOneOf (f ∷ h ∷ []) other → other ≡ f
first_only f h other apart n (inl e) = e
first_only f h other apart n (inr (inl e)) = absurd (apart (sym n ∙ ap name_of e))
first_only f h other apart n (inr (inr x)) = absurd x

second_only : (f h other : Form) → (name_of other ≡ name_of f → ⊥) → IsOneOf (f ∷ h ∷ []) other → other ≡ h
second_only f h other n (inl e) = absurd (n (ap name_of e))
second_only f h other n (inr (inl e)) = e
second_only f h other n (inr (inr x)) = absurd x

pair_first : (g : GameData) (before : List Entry) (line : Line) (f h : Form) (r : Result Entry CertKind) → before ≢ [] → due g before ≡ f ∷ h ∷ [] → Differ f h → begins (name_of f) line ≡ true
    → JudgedAs g before line f r → Judged g before line r
pair_first g before line f h r some e apart b j =
    judged g before line f r some (subst (λ (forms : List Form). IsOneOf forms f) (sym e) (inl refl))
    (λ other words m. first_only f h other apart (begins_is (name_of f) line (name_of other) words m.1.0 b) (subst (λ (forms : List Form). IsOneOf forms other) e m.0)) j

pair_second : (g : GameData) (before : List Entry) (line : Line) (f h : Form) (r : Result Entry CertKind) → before ≢ [] → due g before ≡ f ∷ h ∷ [] → begins (name_of f) line ≡ false
    → JudgedAs g before line h r → Judged g before line r
pair_second g before line f h r some e b j =
    judged g before line h r some (subst (λ (forms : List Form). IsOneOf forms h) (sym e) (inr (inl refl)))
    (λ other words m. second_only f h other (λ n. true_false (begins (name_of f) line) (begins_so (name_of f) line (name_of other) words m.1.0 n) b) (subst (λ (forms : List Form). IsOneOf forms other) e m.0)) j

abbrev first_start : Bool → List Form
first_start first = cond first (StartLine ∷ []) (MultipleLine ∷ [])

sizes_by : (g : GameData) (b : List Entry) (line : Line) (n p : ℕ) (first : Bool) → (version_in b == 1) ≡ first
    → Judged g (Sizes n p ∷ b) line (cond first (start_said n p line) (multiple_said line))
sizes_by g b line n p true e = sole g (Sizes n p ∷ b) line StartLine _ (cons_some (Sizes n p) b) (ap first_start e) (start_judged g (Sizes n p ∷ b) line)
sizes_by g b line n p false e = sole g (Sizes n p ∷ b) line MultipleLine _ (cons_some (Sizes n p) b) (ap first_start e) (multiple_judged g (Sizes n p ∷ b) line)

sizes_head : (g : GameData) (b : List Entry) (line : Line) (n p : ℕ) → Judged g (Sizes n p ∷ b) line (in_sizes (progress_in g (Sizes n p ∷ b)) line)
unfolding in_sizes
sizes_head g b line n p = sizes_by g b line n p (version_in b == 1) refl

from_by : (g : GameData) (before : List Entry) (line : Line) → before ≢ [] → due g before ≡ FromLine ∷ OverLine ∷ [] → (first : Bool) → begins (codes "from") line ≡ first
    → Judged g before line (cond first (from_said (progress_in g before) line) (over_said (progress_in g before) line))
from_by g before line some e true p = pair_first g before line FromLine OverLine (from_said (progress_in g before) line) some e from_over p (from_judged g before line)
from_by g before line some e false p = pair_second g before line FromLine OverLine (over_said (progress_in g before) line) some e p (over_judged g before line)

from_head : (g : GameData) (before : List Entry) (line : Line) → before ≢ [] → due g before ≡ FromLine ∷ OverLine ∷ [] → Judged g before line (in_from (progress_in g before) line)
unfolding in_from
from_head g before line some e = from_by g before line some e (begins (codes "from") line) refl

over_by : (g : GameData) (point : ℕ) (weight : ℤ) (b : List Entry) (line : Line) → (first : Bool) → begins (codes "over") line ≡ first
    → Judged g (Over point weight ∷ b) line (cond first (over_said (progress_in g (Over point weight ∷ b)) line) (first_said (progress_in g (Over point weight ∷ b)).starts line))
over_by g point weight b line true p =
    pair_first g (Over point weight ∷ b) line OverLine FirstNodeLine (over_said (progress_in g (Over point weight ∷ b)) line) (cons_some (Over point weight) b) refl over_node p (over_judged g (Over point weight ∷ b) line)
over_by g point weight b line false p =
    pair_second g (Over point weight ∷ b) line OverLine FirstNodeLine (first_said (progress_in g (Over point weight ∷ b)).starts line) (cons_some (Over point weight) b) refl p (over_node_judged g point weight b line)

over_head : (g : GameData) (point : ℕ) (weight : ℤ) (b : List Entry) (line : Line) → Judged g (Over point weight ∷ b) line (in_over (progress_in g (Over point weight ∷ b)) line)
unfolding in_over
over_head g point weight b line = over_by g point weight b line (begins (codes "over") line) refl

node_by : (g : GameData) (before : List Entry) (line : Line) → IsGame g → Kept g before → before ≢ [] → due g before ≡ NextLine ∷ after_node before ∷ []
    → (b more : Bool) → begins (codes "next") line ≡ b → nat_lt (next_in before) (nodes_in before) ≡ more
    → Judged g before line (cond b (next_said (progress_in g before) line) (cond more (node_said (next_in before) (lacking_in g before) line) (point_said 0 (lacking_in g before) line)))
node_by g before line game k some e true more p q =
    pair_first g before line NextLine (after_node before) (next_said (progress_in g before) line) some e (node_apart (nat_lt (next_in before) (nodes_in before))) p (next_judged g before line game k)
node_by g before line game k some e false true p q =
    pair_second g before line NextLine NodeLine (node_said (next_in before) (lacking_in g before) line) some (e ∙ ap (λ (m : Bool). NextLine ∷ cond m NodeLine FirstPointLine ∷ []) q) p (node_judged g before line game k)
node_by g before line game k some e false false p q =
    pair_second g before line NextLine FirstPointLine (point_said 0 (lacking_in g before) line) some (e ∙ ap (λ (m : Bool). NextLine ∷ cond m NodeLine FirstPointLine ∷ []) q) p (first_point_judged g before line game k)

node_head : (g : GameData) (before : List Entry) (line : Line) → IsGame g → Kept g before → before ≢ [] → due g before ≡ NextLine ∷ after_node before ∷ [] → Judged g before line (in_node (progress_in g before) line)
unfolding in_node
node_head g before line game k some e = node_by g before line game k some e (begins (codes "next") line) (nat_lt (next_in before) (nodes_in before)) refl refl

point_by : (g : GameData) (before : List Entry) (line : Line) → before ≢ [] → due g before ≡ SplitLine ∷ after_point before ∷ []
    → (b more : Bool) → begins (codes "split") line ≡ b → nat_lt (next_in before) (points_in before) ≡ more
    → Judged g before line (cond b (split_said (progress_in g before) line) (cond more (point_said (next_in before) [] line) (end_said line)))
point_by g before line some e true more p q =
    pair_first g before line SplitLine (after_point before) (split_said (progress_in g before) line) some e (point_apart (nat_lt (next_in before) (points_in before))) p (split_judged g before line)
point_by g before line some e false true p q =
    pair_second g before line SplitLine PointLine (point_said (next_in before) [] line) some (e ∙ ap (λ (m : Bool). SplitLine ∷ cond m PointLine EndLine ∷ []) q) p (point_judged g before line)
point_by g before line some e false false p q =
    pair_second g before line SplitLine EndLine (end_said line) some (e ∙ ap (λ (m : Bool). SplitLine ∷ cond m PointLine EndLine ∷ []) q) p (end_judged g before line)

point_head : (g : GameData) (before : List Entry) (line : Line) → before ≢ [] → due g before ≡ SplitLine ∷ after_point before ∷ [] → Judged g before line (in_point (progress_in g before) line)
unfolding in_point
point_head g before line some e = point_by g before line some e (begins (codes "split") line) (nat_lt (next_in before) (points_in before)) refl refl

abbrev after_state : Bool → List Entry → List Form
after_state more before = cond more (StateLine ∷ []) (SplitLine ∷ after_point before ∷ [])

mixes_by : (g : GameData) (before : List Entry) (line : Line) (state : ℕ) (weights : List ℤ) (more : Bool) → nat_lt (state + 1) g.shape.states ≡ more
    → Judged g (Mixes state weights ∷ before) line (cond more (mixes_said (limits_of g) (state + 1) line) (in_point (progress_in g (Mixes state weights ∷ before)) line))
mixes_by g before line state weights true q =
    let b = Mixes state weights ∷ before in
    sole g b line StateLine (mixes_said (limits_of g) (state + 1) line) (cons_some (Mixes state weights) before) (ap (λ (m : Bool). after_state m before) q) (state_judged g b line (state + 1) (λ ns r. r) (λ ns r. r))
mixes_by g before line state weights false q =
    let b = Mixes state weights ∷ before in point_head g b line (cons_some (Mixes state weights) before) (ap (λ (m : Bool). after_state m before) q)

mixes_head : (g : GameData) (before : List Entry) (line : Line) (state : ℕ) (weights : List ℤ) → Judged g (Mixes state weights ∷ before) line (in_mixes (progress_in g (Mixes state weights ∷ before)) line)
unfolding in_mixes
mixes_head g before line state weights = mixes_by g before line state weights (nat_lt (state + 1) g.shape.states) refl

-- ---- the first line

read_with : ℕ → Result ℕ CertKind
read_with n = Ok n

kind_by : (a b : Bool) (kind : CertKind) → cond a (read_with 1) (cond b (read_with 2) (Err kinds.Version)) ≡ Err kind → kind ≡ kinds.Version
unfolding read_with
kind_by true b kind h = absurd cc
kind_by false true kind h = absurd cc
kind_by false false kind h = cc

version_kind : (line : Line) (kind : CertKind) → version_line line ≡ Err kind → kind ≡ kinds.Version
unfolding version_line read_with
version_kind line kind e = kind_by (are_words (codes "certificate") (codes "1") line) (are_words (codes "certificate") (codes "2") line) kind e

no_version : (r : Result ℕ CertKind) (kind : CertKind) (n : ℕ) → r ≡ Err kind → r ≡ Ok n → ⊥
no_version r kind n p q = cc

none_first : (g : GameData) (line : Line) (lesser : CertKind) → number_of_kind lesser < 1 → Applies g [] line lesser → ⊥
none_first g line kinds.Version l a = omega (arith, l)
none_first g line kinds.Shape l a = omega (arith, l)
none_first g line kinds.Number l a = omega (arith, l)
none_first g line kinds.Range l a = omega (arith, l)
none_first g line kinds.Order l a = omega (arith, l)
none_first g line kinds.Index l a = omega (arith, l)
none_first g line kinds.Total l a = omega (arith, l)
none_first g line kinds.Trailing l a = omega (arith, l)
none_first g line kinds.Full l a = omega (arith, l)
none_first g line kinds.Missing l a = omega (arith, l)

no_rule : (g : GameData) (before : List Entry) (kind : CertKind) → Rule g before VersionLine kind []
no_rule g before kinds.Version = tt
no_rule g before _ = tt

-- the version of a word, where it is one
version_again : (n : ℕ) → IsVersion n → version_of (version_word_of n ∷ []) ≡ n
version_again n (inl e) = ap (λ (m : ℕ). version_of (version_word_of m ∷ [])) e ∙ sym e
version_again n (inr e) = ap (λ (m : ℕ). version_of (version_word_of m ∷ [])) e ∙ sym e

-- the line is none of another kind
not_refused : (g : GameData) (line : Line) (n : ℕ) → IsVersion n → line ≡ codes "certificate" ∷ version_word_of n ∷ [] → Applies g [] line kinds.Version → ⊥
not_refused g line n (inl e) is a = a.1 (is ∙ ap (λ (m : ℕ). codes "certificate" ∷ version_word_of m ∷ []) e)
not_refused g line n (inr e) is a = a.2 (is ∙ ap (λ (m : ℕ). codes "certificate" ∷ version_word_of m ∷ []) e)

version_by : (g : GameData) (line : Line) (r : Result ℕ CertKind) → version_line line ≡ r → Judged g [] line (r >>= (λ n. Ok (Version n)))
version_by g line (Ok n) e =
    let p = version_line-ok line n e in
    let words : Line = version_word_of n ∷ [] in
    let d : IsDueLine g [] line VersionLine words = (inl refl, (p.1, refl, tt)) in
    ((VersionLine, words, [], d, refl, ap (λ (m : ℕ). Version m) (sym (version_again n p.0))), λ kind. spared g [] line VersionLine words [] (not_refused g line n p.0 p.1) d refl kind (no_rule g [] kind))
version_by g line (Err kind) e =
    subst (IsLeast g [] line) (sym (version_kind line kind e)) (
      (
        refl,
        λ is. no_version (version_line line) kind 1 e (ap version_line is ∙ version_line-one),
        λ is. no_version (version_line line) kind 2 e (ap version_line is ∙ version_line-two),
      ),
      none_first g line,
    )

version_head : (g : GameData) (line : Line) → Judged g [] line (version_said line)
unfolding version_said
version_head g line = version_by g line (version_line line) refl

-- ---- each line

pub judge : (g : GameData) (before : List Entry) (line : Line) → IsGame g → Kept g before → (AreEnded before → ⊥) → Judged g before line (entry_of (progress_in g before) line)
unfolding entry_after outcome_said
judge g [] line game k more = version_head g line
judge g (Version v ∷ b) line game k more = sole g (Version v ∷ b) line OutcomeLine _ (cons_some (Version v) b) refl (judged_outcome g (Version v ∷ b) line)
judge g (Outcome ending ∷ b) line game k more = sole g (Outcome ending ∷ b) line GapLine _ (cons_some (Outcome ending) b) refl (gap_judged g (Outcome ending ∷ b) line)
judge g (Gap f ∷ b) line game k more = sole g (Gap f ∷ b) line LowerLine _ (cons_some (Gap f) b) refl (lower_judged g (Gap f ∷ b) line)
judge g (Lower f ∷ b) line game k more = sole g (Lower f ∷ b) line UpperLine _ (cons_some (Lower f) b) refl (upper_judged g (Lower f ∷ b) line)
judge g (Upper f ∷ b) line game k more = sole g (Upper f ∷ b) line TailLine _ (cons_some (Upper f) b) refl (tail_judged g (Upper f ∷ b) line)
judge g (Tail f ∷ b) line game k more = sole g (Tail f ∷ b) line SizesLine _ (cons_some (Tail f) b) refl (sizes_judged g (Tail f ∷ b) line)
judge g (Sizes n p ∷ b) line game k more = sizes_head g b line n p
judge g (Start i j ∷ b) line game k more = sole g (Start i j ∷ b) line FirstNodeLine _ (cons_some (Start i j) b) refl (first_node_judged g (Start i j ∷ b) line tt)
judge g (Multiple m ∷ b) line game k more = sole g (Multiple m ∷ b) line FromLine _ (cons_some (Multiple m) b) refl (from_judged g (Multiple m ∷ b) line)
judge g (From i x ∷ b) line game k more = from_head g (From i x ∷ b) line (cons_some (From i x) b) refl
judge g (Over j z ∷ b) line game k more = over_head g j z b line
judge g (Node number ∷ b) line game k more = sole g (Node number ∷ b) line VectorLine _ (cons_some (Node number) b) refl (vector_judged g (Node number ∷ b) line)
judge g (Vector v ∷ b) line game k more = sole g (Vector v ∷ b) line MixLine _ (cons_some (Vector v) b) refl (mix_judged g (Vector v ∷ b) line)
judge g (Mix w ∷ b) line game k more = node_head g (Mix w ∷ b) line game k (cons_some (Mix w) b) refl
judge g (Next d ∷ b) line game k more = node_head g (Next d ∷ b) line game k (cons_some (Next d) b) refl
judge g (Point number ∷ b) line game k more = sole g (Point number ∷ b) line BeliefLine _ (cons_some (Point number) b) refl (belief_judged g (Point number ∷ b) line)
judge g (Belief parts ∷ b) line game k more = sole g (Belief parts ∷ b) line ValueLine _ (cons_some (Belief parts) b) refl (value_judged g (Belief parts ∷ b) line)
judge g (Value v ∷ b) line game k more = sole g (Value v ∷ b) line StateLine _ (cons_some (Value v) b) refl (state_judged g (Value v ∷ b) line 0 (λ ns r. r) (λ ns r. r))
judge g (Mixes s w ∷ b) line game k more = mixes_head g b line s w
judge g (Split d ∷ b) line game k more = point_head g (Split d ∷ b) line (cons_some (Split d) b) refl
judge g (End ∷ b) line game k more = absurd (more tt)
