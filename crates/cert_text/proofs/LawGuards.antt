-- What each test of a line says.
use Rattle.std.proofs.Common.{◌≡◌, ℕ, ◌<◌, ◌≤◌, true, ◌&&◌, ◌||◌, eqb, ltb, List, [], ◌∷◌, Ok, Err, ℤ, pos, refl, ap, subst, ◌∙◌, arith, inl, inr, ◌⊎◌}
use Rattle.game_model.specs.Limits.{most_belief, most_members}
use Rattle.std.specs.Prelude.{◌≤ℤ◌, unsigned_abs, int_le, int_lt, if◌then◌else◌, ◌==◌, nat_lt}
use Rattle.std.specs.List.{AllByRecursion, list_all}
use Rattle.std.proofs.lemmas.Int.{ints}
use Rattle.std.proofs.lemmas.Bool.{eqb-true, ltb-true}
use Rattle.std.proofs.lemmas.Bool.Decides.{nat_tests}
use Rattle.scaled_num.specs.Sums.{sum_of}
use Rattle.text_words.specs.Forms.{is_within}
use Rattle.text_words.proofs.Limits.{cond_ok, and_true, true_and, or_true, or_last, le_from, lt_from, le_to, lt_to, within_from, within_to, pos_abs, each_from, each_to}
use Rattle.game_model.specs.Branches.{mix_total}
use Rattle.game_model.specs.Game.{IsWithin, AreCoprime}
use Rattle.controller.specs.Certificates.{}
use Rattle.cert_text.specs.declared.fault.CertKind.TheVariants as kinds
use Rattle.cert_text.specs.declared.progress.Latest.{Latest}
use Rattle.cert_text.specs.declared.progress.Latest.TheVariants as latest
use Rattle.cert_text.specs.Forms.{at_least, is_due, member_below, few, is_after, later_branch, above_from, above_over, sums_to_mix, common_divisor, belief_total, none_lacks, fits_lack}
use Rattle.cert_text.proofs.Divisor.{coprime_from, coprime_to}

-- the tests of numbers

pub squeezed : (x y : ℤ) → IsWithin y y x → x ≡ y
squeezed x y h = omega (arith, ints, h.0, h.1)

pub same_within : (x y : ℤ) → x ≡ y → IsWithin y y x
same_within x y e = (omega (arith, ints, e), omega (arith, ints, e))

pub at_least-ok : (low x y : ℤ) → at_least low x ≡ Ok y → (low ≤ℤ y) × (x ≡ y)
unfolding at_least
at_least-ok low x y h =
    let p = cond_ok (int_le low x) x y kinds.Range h in
    (subst (λ (z : ℤ). low ≤ℤ z) p.1 (le_from low x p.0), p.1)

pub at_least-to : (low x : ℤ) → low ≤ℤ x → at_least low x ≡ Ok x
unfolding at_least
at_least-to low x h = rw (le_to low x h) refl

pub is_due-ok : (due : ℕ) (x : ℤ) (u : Unit {0}) → is_due due x ≡ Ok u → x ≡ pos due
unfolding is_due
is_due-ok due x u h = squeezed x (pos due) (within_from (pos due) (pos due) x (cond_ok (is_within (pos due) (pos due) x) tt u kinds.Order h).0)

pub is_due-to : (due : ℕ) → is_due due (pos due) ≡ Ok tt
unfolding is_due
is_due-to due = rw (within_to (pos due) (pos due) (pos due) (same_within (pos due) (pos due) refl)) refl

pub member_below-ok : (members : ℕ) (x : ℤ) (n : ℕ) → pos 0 ≤ℤ x → member_below members x ≡ Ok n → (n < members) × (x ≡ pos n)
unfolding member_below
member_below-ok members x n low h =
    let p = cond_ok (int_lt x (pos members)) (unsigned_abs x) n kinds.Index h in
    let e : x ≡ pos n = pos_abs x low ∙ ap pos p.1 in
    let l = lt_from x (pos members) p.0 in
    (omega (arith, ints, l, e), e)

pub member_below-to : (members n : ℕ) → n < members → member_below members (pos n) ≡ Ok n
unfolding member_below
member_below-to members n l = rw (lt_to (pos n) (pos members) (omega (arith, ints))) refl

pub few-ok : (x : ℤ) (n : ℕ) → pos 0 ≤ℤ x → few x ≡ Ok n → (n ≤ most_members) × (x ≡ pos n)
unfolding few
few-ok x n low h =
    let p = cond_ok (int_le x (pos most_members)) (unsigned_abs x) n kinds.Full h in
    let e : x ≡ pos n = pos_abs x low ∙ ap pos p.1 in
    let l = le_from x (pos most_members) p.0 in
    (omega (arith, ints, l, e), e)

pub few-to : (n : ℕ) → n ≤ most_members → few (pos n) ≡ Ok n
unfolding few
few-to n l = rw (le_to (pos n) (pos most_members) (omega (arith, ints))) refl

-- orders of branches

abbrev pub IsAfter : ℕ → ℕ → ℕ → ℕ → ℕ → ℕ → Type 0
IsAfter a o k own seen member = (a < own) ⊎ ((a ≡ own) × ((o < seen) ⊎ ((o ≡ seen) × (k < member))))

-- greater than the branch of the line just before
abbrev pub IsLater : Latest → ℕ → ℕ → ℕ → Type 0
IsLater (latest.Next a o k) own seen member = IsAfter a o k own seen member
IsLater (latest.Split a o k) own seen member = IsAfter a o k own seen member
IsLater _ own seen member = Unit {0}

lt_true : (a b : ℕ) → a < b → ltb a b ≡ true
lt_true a b h = grind (arith, nat_tests)

pub eq_true : (a b : ℕ) → a ≡ b → eqb a b ≡ true
eq_true a b h = grind (arith, nat_tests)

pub after_from : (a o k own seen member : ℕ) → is_after a o k own seen (pos member) ≡ true → IsAfter a o k own seen member
after_from a o k own seen member h = elim (or_true (nat_lt a own) ((a == own) && (nat_lt o seen || ((o == seen) && int_lt (pos k) (pos member)))) h) [
  | inl e ↦ inl (ltb-true a own e)
  | inr e ↦ let p = and_true (a == own) (nat_lt o seen || ((o == seen) && int_lt (pos k) (pos member))) e in
      elim (or_true (nat_lt o seen) ((o == seen) && int_lt (pos k) (pos member)) p.1) [
        | inl f ↦ inr (eqb-true a own p.0, inl (ltb-true o seen f))
        | inr f ↦ let q = and_true (o == seen) (int_lt (pos k) (pos member)) f in
            let l = lt_from (pos k) (pos member) q.1 in
            inr (eqb-true a own p.0, inr (eqb-true o seen q.0, omega (arith, ints, l)))
      ]
]

pub after_to : (a o k own seen member : ℕ) → IsAfter a o k own seen member → is_after a o k own seen (pos member) ≡ true
after_to a o k own seen member (inl l) = rw (lt_true a own l) refl
after_to a o k own seen member (inr (e, inl l)) =
    or_last (nat_lt a own) ((a == own) && (nat_lt o seen || ((o == seen) && int_lt (pos k) (pos member))))
    (true_and (a == own) (nat_lt o seen || ((o == seen) && int_lt (pos k) (pos member))) (eq_true a own e) (rw (lt_true o seen l) refl))
after_to a o k own seen member (inr (e, inr (f, l))) =
    or_last (nat_lt a own) ((a == own) && (nat_lt o seen || ((o == seen) && int_lt (pos k) (pos member))))
    (true_and (a == own) (nat_lt o seen || ((o == seen) && int_lt (pos k) (pos member))) (eq_true a own e)
    (or_last (nat_lt o seen) ((o == seen) && int_lt (pos k) (pos member))
    (true_and (o == seen) (int_lt (pos k) (pos member)) (eq_true o seen f) (lt_to (pos k) (pos member) (omega (arith, ints))))))

pub later_branch-ok : (l : Latest) (own seen member : ℕ) (u : Unit {0}) → later_branch l own seen (pos member) ≡ Ok u → IsLater l own seen member
unfolding later_branch
later_branch-ok (latest.Next a o k) own seen member u h = after_from a o k own seen member (cond_ok (is_after a o k own seen (pos member)) tt u kinds.Order h).0
later_branch-ok (latest.Split a o k) own seen member u h = after_from a o k own seen member (cond_ok (is_after a o k own seen (pos member)) tt u kinds.Order h).0
later_branch-ok _ own seen member u h = tt

pub later_branch-to : (l : Latest) (own seen member : ℕ) → IsLater l own seen member → later_branch l own seen (pos member) ≡ Ok tt
unfolding later_branch
later_branch-to (latest.Next a o k) own seen member h = rw (after_to a o k own seen member h) refl
later_branch-to (latest.Split a o k) own seen member h = rw (after_to a o k own seen member h) refl
later_branch-to _ own seen member h = refl

-- greater than the number of the start just before
abbrev pub IsAboveFrom : Latest → ℕ → Type 0
IsAboveFrom (latest.From node) number = node < number
IsAboveFrom _ number = Unit {0}

abbrev pub IsAboveOver : Latest → ℕ → Type 0
IsAboveOver (latest.Over point) number = point < number
IsAboveOver _ number = Unit {0}

above_by : (m n : ℕ) (u : Unit {0}) → (if int_lt (pos m) (pos n) then Ok tt else Err kinds.Order) ≡ Ok u → m < n
above_by m n u h = let l = lt_from (pos m) (pos n) (cond_ok (int_lt (pos m) (pos n)) tt u kinds.Order h).0 in omega (arith, ints, l)

pub above_from-ok : (l : Latest) (number : ℕ) (u : Unit {0}) → above_from l (pos number) ≡ Ok u → IsAboveFrom l number
unfolding above_from
above_from-ok (latest.From node) number u h = above_by node number u h
above_from-ok _ number u h = tt

pub above_from-to : (l : Latest) (number : ℕ) → IsAboveFrom l number → above_from l (pos number) ≡ Ok tt
unfolding above_from
above_from-to (latest.From node) number h = rw (lt_to (pos node) (pos number) (omega (arith, ints, h))) refl
above_from-to _ number h = refl

pub above_over-ok : (l : Latest) (number : ℕ) (u : Unit {0}) → above_over l (pos number) ≡ Ok u → IsAboveOver l number
unfolding above_over
above_over-ok (latest.Over point) number u h = above_by point number u h
above_over-ok _ number u h = tt

pub above_over-to : (l : Latest) (number : ℕ) → IsAboveOver l number → above_over l (pos number) ≡ Ok tt
unfolding above_over
above_over-to (latest.Over point) number h = rw (lt_to (pos point) (pos number) (omega (arith, ints, h))) refl
above_over-to _ number h = refl

-- sums

pub sums_to_mix-ok : (weights : List ℤ) (u : Unit {0}) → sums_to_mix weights ≡ Ok u → sum_of weights ≡ pos mix_total
unfolding sums_to_mix
sums_to_mix-ok weights u h = squeezed (sum_of weights) (pos mix_total) (within_from (pos mix_total) (pos mix_total) (sum_of weights) (cond_ok (is_within (pos mix_total) (pos mix_total) (sum_of weights)) tt u kinds.Total h).0)

pub sums_to_mix-to : (weights : List ℤ) → sum_of weights ≡ pos mix_total → sums_to_mix weights ≡ Ok tt
unfolding sums_to_mix
sums_to_mix-to weights e = rw (within_to (pos mix_total) (pos mix_total) (sum_of weights) (same_within (sum_of weights) (pos mix_total) e)) refl

pub belief_total-ok : (parts : List ℤ) (u : Unit {0}) → belief_total parts ≡ Ok u → IsWithin (pos 1) (pos most_belief) (sum_of parts) × AreCoprime parts
unfolding belief_total
belief_total-ok parts u h =
    let p = and_true (is_within (pos 1) (pos most_belief) (sum_of parts)) (common_divisor parts == 1) (cond_ok (is_within (pos 1) (pos most_belief) (sum_of parts) && (common_divisor parts == 1)) tt u kinds.Total h).0 in
    (within_from (pos 1) (pos most_belief) (sum_of parts) p.0, coprime_from parts (eqb-true (common_divisor parts) 1 p.1))

pub belief_total-to : (parts : List ℤ) → IsWithin (pos 1) (pos most_belief) (sum_of parts) → AreCoprime parts → belief_total parts ≡ Ok tt
unfolding belief_total
belief_total-to parts h c =
    rw (true_and (is_within (pos 1) (pos most_belief) (sum_of parts)) (common_divisor parts == 1)
    (within_to (pos 1) (pos most_belief) (sum_of parts) h) (eq_true (common_divisor parts) 1 (coprime_to parts c))) refl

-- nothing lacks
abbrev pub IsNone : ℤ → Type 0
IsNone x = x ≡ pos 0

pub none_from : (xs : List ℤ) → AllByRecursion (IsWithin (pos 0) (pos 0)) xs → AllByRecursion IsNone xs
none_from [] h = tt
none_from (x ∷ xs) h = (squeezed x (pos 0) h.0, none_from xs h.1)

pub none_to : (xs : List ℤ) → AllByRecursion IsNone xs → AllByRecursion (IsWithin (pos 0) (pos 0)) xs
none_to [] h = tt
none_to (x ∷ xs) h = (same_within x (pos 0) h.0, none_to xs h.1)

pub none_lacks-ok : (lacking : List ℤ) (u : Unit {0}) → none_lacks lacking ≡ Ok u → AllByRecursion IsNone lacking
unfolding none_lacks
none_lacks-ok lacking u h = none_from lacking (each_from (pos 0) (pos 0) lacking (cond_ok (list_all (is_within (pos 0) (pos 0)) lacking) tt u kinds.Total h).0)

pub none_lacks-to : (lacking : List ℤ) → AllByRecursion IsNone lacking → none_lacks lacking ≡ Ok tt
unfolding none_lacks
none_lacks-to lacking h = rw (each_to (pos 0) (pos 0) lacking (none_to lacking h)) refl

pub fits_lack-ok : (lack weight : ℤ) (u : Unit {0}) → fits_lack lack weight ≡ Ok u → weight ≤ℤ lack
unfolding fits_lack
fits_lack-ok lack weight u h = le_from weight lack (cond_ok (int_le weight lack) tt u kinds.Total h).0

pub fits_lack-to : (lack weight : ℤ) → weight ≤ℤ lack → fits_lack lack weight ≡ Ok tt
unfolding fits_lack
fits_lack-to lack weight h = rw (le_to weight lack h) refl
