-- The reader's tests: each gives its value exactly where its rule is kept, and else its kind.
use Rattle.std.proofs.Common.{◌≡◌, ℕ, Bool, ◌&&◌, List, [], ◌∷◌, Result, Ok, Err, ℤ, pos, refl, sym, subst, inl}
use Rattle.game_model.specs.Limits.{most_belief, most_members}
use Rattle.std.specs.Prelude.{if◌then◌else◌, ◌≤ℤ◌, ◌<ℤ◌, unsigned_abs, int_le, int_lt, ◌==◌}
use Rattle.std.specs.List.{AllByRecursion, list_all}
use Rattle.std.proofs.lemmas.Bool.{eqb-true}
use Rattle.scaled_num.specs.Sums.{sum_of}
use Rattle.text_words.specs.Forms.{is_within}
use Rattle.text_words.proofs.Limits.{and_true, true_and, le_from, lt_from, le_to, lt_to, within_from, within_to, pos_abs, each_from, each_to}
use Rattle.text_words.proofs.Chains.{Tests, cond_tests}
use Rattle.game_model.specs.Branches.{Branch, IsBranchBefore, mix_total}
use Rattle.game_model.specs.Game.{IsWithin, AreCoprime}
use Rattle.cert_text.specs.declared.fault.CertKind.{CertKind}
use Rattle.cert_text.specs.declared.fault.CertKind.TheVariants as kinds
use Rattle.cert_text.specs.Entries.{Entry, From, Over, Next, Split}
use Rattle.cert_text.specs.Forms.{at_least, is_due, member_below, few, is_after, later_branch, above_from, above_over, sums_to_mix, common_divisor, belief_total, none_lacks, fits_lack}
use Rattle.cert_text.specs.Rules.{IsLater, IsAboveFrom, IsAboveOver}
use Rattle.cert_text.proofs.Divisor.{coprime_from, coprime_to}
use Rattle.cert_text.proofs.LawGuards.{IsNone, squeezed, same_within, after_from, after_to, eq_true, none_from, none_to}
use Rattle.cert_text.proofs.Seen.{latest_in}

pub at_least-tests : (low x : ℤ) → Tests (at_least low x) kinds.Range x (low ≤ℤ x)
unfolding at_least
at_least-tests low x = cond_tests (int_le low x) x kinds.Range (low ≤ℤ x) (le_from low x) (le_to low x)

pub is_due-tests : (due : ℕ) (x : ℤ) → Tests (is_due due x) kinds.Order tt (x ≡ pos due)
unfolding is_due
is_due-tests due x =
    cond_tests (is_within (pos due) (pos due) x) tt kinds.Order (x ≡ pos due) (λ e. squeezed x (pos due) (within_from (pos due) (pos due) x e)) (λ e. within_to (pos due) (pos due) x (same_within x (pos due) e))

pub member_below-tests : (members : ℕ) (x : ℤ) → Tests (member_below members x) kinds.Index (unsigned_abs x) (x <ℤ pos members)
unfolding member_below
member_below-tests members x = cond_tests (int_lt x (pos members)) (unsigned_abs x) kinds.Index (x <ℤ pos members) (lt_from x (pos members)) (lt_to x (pos members))

pub few-tests : (x : ℤ) → Tests (few x) kinds.Full (unsigned_abs x) (x ≤ℤ pos most_members)
unfolding few
few-tests x = cond_tests (int_le x (pos most_members)) (unsigned_abs x) kinds.Full (x ≤ℤ pos most_members) (le_from x (pos most_members)) (le_to x (pos most_members))

pub sums_to_mix-tests : (ws : List ℤ) → Tests (sums_to_mix ws) kinds.Total tt (sum_of ws ≡ pos mix_total)
unfolding sums_to_mix
sums_to_mix-tests ws =
    cond_tests (is_within (pos mix_total) (pos mix_total) (sum_of ws)) tt kinds.Total (sum_of ws ≡ pos mix_total)
    (λ e. squeezed (sum_of ws) (pos mix_total) (within_from (pos mix_total) (pos mix_total) (sum_of ws) e))
    (λ e. within_to (pos mix_total) (pos mix_total) (sum_of ws) (same_within (sum_of ws) (pos mix_total) e))

pub belief_total-tests : (parts : List ℤ) → Tests (belief_total parts) kinds.Total tt (IsWithin (pos 1) (pos most_belief) (sum_of parts) × AreCoprime parts)
unfolding belief_total
belief_total-tests parts =
    cond_tests (is_within (pos 1) (pos most_belief) (sum_of parts) && (common_divisor parts == 1)) tt kinds.Total (IsWithin (pos 1) (pos most_belief) (sum_of parts) × AreCoprime parts)
    (λ e. let p = and_true (is_within (pos 1) (pos most_belief) (sum_of parts)) (common_divisor parts == 1) e in
    (within_from (pos 1) (pos most_belief) (sum_of parts) p.0, coprime_from parts (eqb-true (common_divisor parts) 1 p.1)))
    (λ p. true_and (is_within (pos 1) (pos most_belief) (sum_of parts)) (common_divisor parts == 1) (within_to (pos 1) (pos most_belief) (sum_of parts) p.0) (eq_true (common_divisor parts) 1 (coprime_to parts p.1)))

pub none_lacks-tests : (xs : List ℤ) → Tests (none_lacks xs) kinds.Total tt (AllByRecursion IsNone xs)
unfolding none_lacks
none_lacks-tests xs =
    cond_tests (list_all (is_within (pos 0) (pos 0)) xs) tt kinds.Total (AllByRecursion IsNone xs) (λ e. none_from xs (each_from (pos 0) (pos 0) xs e)) (λ h. each_to (pos 0) (pos 0) xs (none_to xs h))

pub fits_lack-tests : (lack weight : ℤ) → Tests (fits_lack lack weight) kinds.Total tt (weight ≤ℤ lack)
unfolding fits_lack
fits_lack-tests lack weight = cond_tests (int_le weight lack) tt kinds.Total (weight ≤ℤ lack) (le_from weight lack) (le_to weight lack)

-- greater than the branch of the line just before
abbrev Later : List Entry → ℕ → ℕ → ℕ → ℤ → Type 0
Later before own seen k weight = IsLater before (record { own = own; seen = seen; member = k; weight = weight })

abbrev rises : Bool → Result (Unit {0}) CertKind
rises b = if b then Ok tt else Err kinds.Order

above_tests : (m : ℕ) (x : ℤ) → Tests (rises (int_lt (pos m) x)) kinds.Order tt (pos m <ℤ x)
above_tests m x = cond_tests (int_lt (pos m) x) tt kinds.Order (pos m <ℤ x) (lt_from (pos m) x) (lt_to (pos m) x)

pub above_from-tests : (before : List Entry) (x : ℤ) → Tests (above_from (latest_in before) x) kinds.Order tt (IsAboveFrom before x)
unfolding above_from
above_from-tests [] x = inl (refl, tt)
above_from-tests (From node weight ∷ before) x = above_tests node x
above_from-tests (_ ∷ before) x = inl (refl, tt)

pub above_over-tests : (before : List Entry) (x : ℤ) → Tests (above_over (latest_in before) x) kinds.Order tt (IsAboveOver before x)
unfolding above_over
above_over-tests [] x = inl (refl, tt)
above_over-tests (Over point weight ∷ before) x = above_tests point x
above_over-tests (_ ∷ before) x = inl (refl, tt)

after_tests : (d : Branch) (own seen k : ℕ) (weight : ℤ) → Tests (rises (is_after d.own d.seen d.member own seen (pos k))) kinds.Order tt (IsBranchBefore d (record { own = own; seen = seen; member = k; weight = weight }))
after_tests d own seen k weight =
    cond_tests (is_after d.own d.seen d.member own seen (pos k)) tt kinds.Order (IsBranchBefore d (record { own = own; seen = seen; member = k; weight = weight }))
    (after_from d.own d.seen d.member own seen k) (after_to d.own d.seen d.member own seen k)

later_by : (before : List Entry) (own seen k : ℕ) (weight : ℤ) → Tests (later_branch (latest_in before) own seen (pos k)) kinds.Order tt (Later before own seen k weight)
unfolding later_branch
later_by [] own seen k weight = inl (refl, tt)
later_by (Next d ∷ before) own seen k weight = after_tests d own seen k weight
later_by (Split d ∷ before) own seen k weight = after_tests d own seen k weight
later_by (_ ∷ before) own seen k weight = inl (refl, tt)

pub later-tests : (before : List Entry) (own seen : ℕ) (x weight : ℤ) → pos 0 ≤ℤ x → Tests (later_branch (latest_in before) own seen x) kinds.Order tt (Later before own seen (unsigned_abs x) weight)
later-tests before own seen x weight low =
    subst (λ (y : ℤ). Tests (later_branch (latest_in before) own seen y) kinds.Order tt (Later before own seen (unsigned_abs x) weight)) (sym (pos_abs x low)) (later_by before own seen (unsigned_abs x) weight)
