-- What the numbers of a line of each form give: what the line says, or the least kind whose rule they break.
use Rattle.std.proofs.Common.{◌≡◌, ℕ, ◌+◌, ◌<◌, ◌≤◌, List, Option, Result, Ok, Err, ℤ, pos, refl, sym, subst, arith, inl, inr}
use Rattle.game_model.specs.Limits.{most_belief, most_reward, most_row_total}
use Rattle.std.specs.Prelude.{neg_ℤ, unsigned_abs}
use Rattle.text_words.specs.Forms.{◌>>=◌, number_at, limited, below_limit, each_within}
use Rattle.text_words.proofs.Chains.{Tests, limited-tests, below_limit-tests, each_within-tests}
use Rattle.game_text.specs.declared.fault.Kind.{Kind}
use Rattle.game_text.specs.declared.fault.Kind.TheVariants as kinds
use Rattle.game_text.specs.Fault.{number_of_kind}
use Rattle.game_text.specs.Forms.{within, discount_within, total_within, next_triple, full_row, narrow_reward, later_pair, fits_row}
use Rattle.game_text.specs.Entries.{Entry, Size, Total, Discount, First, Step, Out, End, shape_in, begun_in, sum_in}
use Rattle.game_text.specs.Due.{Form, SizeLine, TotalLine, DiscountLine, FirstLine, StepLine, OutLine, EndLine, landing_in, entry_in}
use Rattle.game_text.specs.Rules.{AreStep, IsNextTriple, AreOut, IsLater, Rule}
use Rattle.game_text.proofs.Guards.{IsAfter}
use Rattle.game_text.proofs.RuleTests.{within-tests, discount-tests, total-tests, triple-tests, full-tests, narrow-tests, later-tests, fits-tests}

-- a kind that the numbers of a line have
abbrev pub IsRuled : Kind → Type 0
IsRuled kinds.Version = ⊥
IsRuled kinds.Shape = ⊥
IsRuled kinds.Number = ⊥
IsRuled _ = Unit {0}

-- the rule of this kind is broken, and those of all lesser kinds are kept
abbrev pub Fails : List Entry → Form → List ℤ → Kind → Type 0
Fails before form ns kind =
    IsRuled kind × (Rule before form kind ns → ⊥) × ((lesser : Kind) → number_of_kind lesser < number_of_kind kind → Rule before form lesser ns)

abbrev pub Checked : List Entry → Form → List ℤ → Result Entry Kind → Type 0
Checked before form ns (Ok e) = (e ≡ entry_in form ns) × ((kind : Kind) → Rule before form kind ns)
Checked before form ns (Err kind) = Fails before form ns kind

-- ---- kinds without a rule

none_version : (before : List Entry) (form : Form) (ns : List ℤ) → Rule before form kinds.Version ns
none_version before SizeLine ns = tt
none_version before _ ns = tt

none_shape : (before : List Entry) (form : Form) (ns : List ℤ) → Rule before form kinds.Shape ns
none_shape before SizeLine ns = tt
none_shape before _ ns = tt

none_number : (before : List Entry) (form : Form) (ns : List ℤ) → Rule before form kinds.Number ns
none_number before SizeLine ns = tt
none_number before _ ns = tt

none_missing : (before : List Entry) (form : Form) (ns : List ℤ) → Rule before form kinds.Missing ns
none_missing before SizeLine ns = tt
none_missing before _ ns = tt

none_trailing : (before : List Entry) (form : Form) (ns : List ℤ) → Rule before form kinds.Trailing ns
none_trailing before SizeLine ns = tt
none_trailing before _ ns = tt

-- ---- one kind after another

below : (before : List Entry) (form : Form) (ns : List ℤ) (n : ℕ)
    → (4 < n → Rule before form kinds.Range ns) → (5 < n → Rule before form kinds.Order ns) → (6 < n → Rule before form kinds.Total ns) → (7 < n → Rule before form kinds.Belief ns)
    → (8 < n → Rule before form kinds.Wide ns) → (kind : Kind) → number_of_kind kind < n → Rule before form kind ns
below before form ns n range order total belief wide kinds.Version l = none_version before form ns
below before form ns n range order total belief wide kinds.Shape l = none_shape before form ns
below before form ns n range order total belief wide kinds.Number l = none_number before form ns
below before form ns n range order total belief wide kinds.Range l = range l
below before form ns n range order total belief wide kinds.Order l = order l
below before form ns n range order total belief wide kinds.Total l = total l
below before form ns n range order total belief wide kinds.Belief l = belief l
below before form ns n range order total belief wide kinds.Wide l = wide l
below before form ns n range order total belief wide kinds.Missing l = none_missing before form ns
below before form ns n range order total belief wide kinds.Trailing l = none_trailing before form ns

past : (m n : ℕ) → n ≤ m → m < n → ⊥
past m n le l = omega (arith, le, l)

fails_range : (before : List Entry) (form : Form) (ns : List ℤ) → (Rule before form kinds.Range ns → ⊥) → Fails before form ns kinds.Range
fails_range before form ns n =
    (tt, n, below before form ns 4 (λ l. absurd (past 4 4 (omega arith) l)) (λ l. absurd (past 5 4 (omega arith) l)) (λ l. absurd (past 6 4 (omega arith) l)) (λ l. absurd (past 7 4 (omega arith) l)) (λ l. absurd (past 8 4 (omega arith) l)))

fails_order : (before : List Entry) (form : Form) (ns : List ℤ) → (Rule before form kinds.Order ns → ⊥) → Rule before form kinds.Range ns → Fails before form ns kinds.Order
fails_order before form ns n range =
    (tt, n, below before form ns 5 (λ l. range) (λ l. absurd (past 5 5 (omega arith) l)) (λ l. absurd (past 6 5 (omega arith) l)) (λ l. absurd (past 7 5 (omega arith) l)) (λ l. absurd (past 8 5 (omega arith) l)))

fails_total : (before : List Entry) (form : Form) (ns : List ℤ) → (Rule before form kinds.Total ns → ⊥) → Rule before form kinds.Range ns → Rule before form kinds.Order ns → Fails before form ns kinds.Total
fails_total before form ns n range order =
    (tt, n, below before form ns 6 (λ l. range) (λ l. order) (λ l. absurd (past 6 6 (omega arith) l)) (λ l. absurd (past 7 6 (omega arith) l)) (λ l. absurd (past 8 6 (omega arith) l)))

fails_belief : (before : List Entry) (form : Form) (ns : List ℤ) → (Rule before form kinds.Belief ns → ⊥) → Rule before form kinds.Range ns → Rule before form kinds.Order ns → Rule before form kinds.Total ns
    → Fails before form ns kinds.Belief
fails_belief before form ns n range order total =
    (tt, n, below before form ns 7 (λ l. range) (λ l. order) (λ l. total) (λ l. absurd (past 7 7 (omega arith) l)) (λ l. absurd (past 8 7 (omega arith) l)))

fails_wide : (before : List Entry) (form : Form) (ns : List ℤ) → (Rule before form kinds.Wide ns → ⊥) → Rule before form kinds.Range ns → Rule before form kinds.Order ns → Rule before form kinds.Total ns
    → Rule before form kinds.Belief ns → Fails before form ns kinds.Wide
fails_wide before form ns n range order total belief =
    (tt, n, below before form ns 8 (λ l. range) (λ l. order) (λ l. total) (λ l. belief) (λ l. absurd (past 8 8 (omega arith) l)))

all_kept : (before : List Entry) (form : Form) (ns : List ℤ) → Rule before form kinds.Range ns → Rule before form kinds.Order ns → Rule before form kinds.Total ns → Rule before form kinds.Belief ns
    → Rule before form kinds.Wide ns → (kind : Kind) → Rule before form kind ns
all_kept before form ns range order total belief wide kind =
    below before form ns (number_of_kind kind + 1) (λ l. range) (λ l. order) (λ l. total) (λ l. belief) (λ l. wide) kind (omega arith)

chain : {A : Type 0} {m : Result A Kind} {kind : Kind} {value : A} {P : Type 0} (before : List Entry) (form : Form) (ns : List ℤ) (f : A → Result Entry Kind)
    → Tests m kind value P → (P → Checked before form ns (f value)) → ((P → ⊥) → Fails before form ns kind) → Checked before form ns (m >>= f)
chain {A} before form ns f (inl t) ok fail = subst (λ (r : Result A Kind). Checked before form ns (r >>= f)) (sym t.0) (ok t.1)
chain {A} before form ns f (inr t) ok fail = subst (λ (r : Result A Kind). Checked before form ns (r >>= f)) (sym t.0) (fail t.1)

-- ---- each form

pub size_checked : (before : List Entry) (ns : List ℤ)
    → Checked before SizeLine ns (within 1 16 (number_at ns 0) >>= (λ s. within 1 6 (number_at ns 1) >>= (λ a. within 1 6 (number_at ns 2) >>= (λ c. within 1 8 (number_at ns 3) >>= (λ o. Ok (Size s a c o))))))
size_checked before ns =
    chain before SizeLine ns _ (within-tests 1 16 (number_at ns 0))
    (λ s. chain before SizeLine ns _ (within-tests 1 6 (number_at ns 1))
    (λ a. chain before SizeLine ns _ (within-tests 1 6 (number_at ns 2))
    (λ c. chain before SizeLine ns _ (within-tests 1 8 (number_at ns 3))
    (λ o. (refl, all_kept before SizeLine ns (record { states = s; own_actions = a; informed_actions = c; observations = o }) tt tt tt tt))
    (λ n. fails_range before SizeLine ns (λ r. n r.observations)))
    (λ n. fails_range before SizeLine ns (λ r. n r.informed_actions)))
    (λ n. fails_range before SizeLine ns (λ r. n r.own_actions)))
    (λ n. fails_range before SizeLine ns (λ r. n r.states))

pub total_checked : (before : List Entry) (ns : List ℤ) → Checked before TotalLine ns (limited kinds.Range (pos 1) (pos most_row_total) (number_at ns 0) >>= (λ total. Ok (Total total)))
total_checked before ns =
    chain before TotalLine ns _ (limited-tests kinds.Range (pos 1) (pos most_row_total) (number_at ns 0)) (λ h. (refl, all_kept before TotalLine ns h tt tt tt tt)) (λ n. fails_range before TotalLine ns n)

pub discount_checked : (before : List Entry) (ns : List ℤ) → Checked before DiscountLine ns (discount_within (number_at ns 0) (number_at ns 1) >>= (λ d. Ok (Discount d.0 d.1)))
discount_checked before ns =
    chain before DiscountLine ns _ (discount-tests (number_at ns 0) (number_at ns 1)) (λ h. (refl, all_kept before DiscountLine ns h tt tt tt tt)) (λ n. fails_range before DiscountLine ns n)

pub first_checked : (before : List Entry) (ns : List ℤ) → Checked before FirstLine ns (each_within kinds.Range (pos 0) (pos most_belief) ns >>= (λ u. total_within ns >>= (λ v. Ok (First ns))))
first_checked before ns =
    chain before FirstLine ns _ (each_within-tests kinds.Range (pos 0) (pos most_belief) ns)
    (λ h. chain before FirstLine ns _ (total-tests ns)
    (λ t. (refl, all_kept before FirstLine ns h tt tt t tt))
    (λ n. fails_belief before FirstLine ns n h tt tt))
    (λ n. fails_range before FirstLine ns n)

pub step_checked : (before : List Entry) (ns : List ℤ)
    → Checked before StepLine ns
    (below_limit kinds.Range (shape_in before).states (number_at ns 0) >>= (λ s. below_limit kinds.Range (shape_in before).own_actions (number_at ns 1) >>= (λ a. below_limit kinds.Range (shape_in before).informed_actions (number_at ns 2) >>= (λ c.
    limited kinds.Range (neg_ℤ (pos most_reward)) (pos most_reward) (number_at ns 3) >>= (λ reward. next_triple (shape_in before) (begun_in before) s a c >>= (λ u. full_row (shape_in before) (begun_in before) (sum_in before) >>= (λ v.
    narrow_reward (shape_in before) reward >>= (λ w. Ok (Step s a c reward)))))))))
step_checked before ns =
    let sh = shape_in before in
    chain before StepLine ns _ (below_limit-tests kinds.Range sh.states (number_at ns 0))
    (λ s. chain before StepLine ns _ (below_limit-tests kinds.Range sh.own_actions (number_at ns 1))
    (λ a. chain before StepLine ns _ (below_limit-tests kinds.Range sh.informed_actions (number_at ns 2))
    (λ c. chain before StepLine ns _ (limited-tests kinds.Range (neg_ℤ (pos most_reward)) (pos most_reward) (number_at ns 3))
    (λ reward.
    (let range : AreStep before ns = record { state = s; own = a; informed = c; reward = reward } in
    chain before StepLine ns _ (triple-tests sh (begun_in before) (unsigned_abs (number_at ns 0)) (unsigned_abs (number_at ns 1)) (unsigned_abs (number_at ns 2)))
    (λ next.
    (let order : IsNextTriple before ns = record { state = next.0; own = next.1; informed = next.2 } in
    chain before StepLine ns _ (full-tests sh (begun_in before) (sum_in before))
    (λ full. chain before StepLine ns _ (narrow-tests sh (number_at ns 3))
    (λ narrow. (refl, all_kept before StepLine ns range order full tt narrow))
    (λ n. fails_wide before StepLine ns n range order full tt))
    (λ n. fails_total before StepLine ns n range order)))
    (λ n. fails_order before StepLine ns (λ r. n (r.state, r.own, r.informed)) range)))
    (λ n. fails_range before StepLine ns (λ r. n r.reward)))
    (λ n. fails_range before StepLine ns (λ r. n r.informed)))
    (λ n. fails_range before StepLine ns (λ r. n r.own)))
    (λ n. fails_range before StepLine ns (λ r. n r.state))

pub out_checked : (before : List Entry) (pair : Option (ℕ × ℕ)) (ns : List ℤ) → (IsAfter pair (unsigned_abs (number_at ns 0)) (unsigned_abs (number_at ns 1)) → IsLater before (landing_in ns))
    → (IsLater before (landing_in ns) → IsAfter pair (unsigned_abs (number_at ns 0)) (unsigned_abs (number_at ns 1)))
    → Checked before OutLine ns
    (below_limit kinds.Range (shape_in before).observations (number_at ns 0) >>= (λ seen. below_limit kinds.Range (shape_in before).states (number_at ns 1) >>= (λ to. limited kinds.Range (pos 1) (shape_in before).row_total (number_at ns 2) >>= (λ weight.
    later_pair pair seen to >>= (λ u. fits_row (shape_in before) (sum_in before) weight >>= (λ v. Ok (Out (record { seen = seen; to = to; weight = weight }))))))))
out_checked before pair ns from back =
    let sh = shape_in before in
    chain before OutLine ns _ (below_limit-tests kinds.Range sh.observations (number_at ns 0))
    (λ s. chain before OutLine ns _ (below_limit-tests kinds.Range sh.states (number_at ns 1))
    (λ t. chain before OutLine ns _ (limited-tests kinds.Range (pos 1) sh.row_total (number_at ns 2))
    (λ w.
    (let range : AreOut before ns = record { seen = s; to = t; weight = w } in
    chain before OutLine ns _ (later-tests pair (unsigned_abs (number_at ns 0)) (unsigned_abs (number_at ns 1)))
    (λ later. chain before OutLine ns _ (fits-tests sh (sum_in before) (number_at ns 2))
    (λ fits. (refl, all_kept before OutLine ns range (from later) fits tt tt))
    (λ n. fails_total before OutLine ns n range (from later)))
    (λ n. fails_order before OutLine ns (λ r. n (back r)) range)))
    (λ n. fails_range before OutLine ns (λ r. n r.weight)))
    (λ n. fails_range before OutLine ns (λ r. n r.to)))
    (λ n. fails_range before OutLine ns (λ r. n r.seen))

pub end_checked : (before : List Entry) (ns : List ℤ) → Checked before EndLine ns (full_row (shape_in before) (begun_in before) (sum_in before) >>= (λ u. Ok End))
end_checked before ns =
    chain before EndLine ns _ (full-tests (shape_in before) (begun_in before) (sum_in before)) (λ h. (refl, all_kept before EndLine ns tt tt h tt tt)) (λ n. fails_total before EndLine ns n tt tt)
