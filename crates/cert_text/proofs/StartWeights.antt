-- The starts of a certificate: their weights so far, their orders and their sums.
use Rattle.std.proofs.Common.{◌≡◌, ℕ, zero, suc, ◌+◌, ◌<◌, ◌≤◌, Bool, true, false, ◌&&◌, ◌||◌, eqb, List, [], ◌∷◌, ◌++◌, reverse, length, map, Ok, ℤ, pos, refl, sym, ap, subst, ◌∙◌, arith, inl, inr, ◌⊎◌}
use Rattle.std.specs.Prelude.{◌+ℤ◌, ◌≤ℤ◌, ◌<ℤ◌, ◌==◌, unsigned_abs, int_le, int_lt}
use Rattle.std.specs.Int.{◌∣◌}
use Rattle.std.specs.List.{AllByRecursion}
use mathlib.Core.List.{reverse-cons, reverse-reverse}
use Rattle.std.proofs.lemmas.Int.{ints}
use Rattle.std.proofs.lemmas.Nat.Gcd.{dvd_refl}
use Rattle.std.proofs.Math.Nat.{eq-one_of_dvd-one}
use Rattle.std.proofs.lemmas.Bool.{eqb-true}
use Rattle.std.proofs.lemmas.Bool.Decides.{nat_tests}
use Rattle.scaled_num.specs.Sums.{total}
use Rattle.text_words.proofs.Chains.{Tests, cond_tests}
use Rattle.text_words.proofs.Limits.{cond_ok, and_true, true_and, or_true, or_last, le_from, lt_from, le_to, lt_to, pos_abs}
use Rattle.text_words.proofs.Texts.{each_more, each_reverse}
use Rattle.game_model.specs.Game.{AreCoprime, IsWithin}
use Rattle.point_set.specs.Split.{AreRisingPairs}
use Rattle.controller.specs.Starts.{AreStarts, IsStart, StartsFit, most_from, most_over, weights_sum}
use Rattle.cert_text.specs.declared.fault.CertKind.TheVariants as kinds
use Rattle.cert_text.specs.declared.progress.Starts.{Starts}
use Rattle.cert_text.specs.declared.progress.Weights.{Weights}
use Rattle.cert_text.specs.Forms.{divisor_within, common_divisor, within_sum, coprime, whole_starts}
use Rattle.cert_text.specs.Entries.{no_weights, with_weight}
use Rattle.cert_text.specs.Rules.{AreCoprimeStarts}
use Rattle.cert_text.proofs.Divisor.{coprime_from, coprime_to}
use Rattle.cert_text.proofs.LawGuards.{eq_true}

abbrev pub Start : Type 0
Start = ℕ × ℤ

abbrev pub weights : List Start → List ℤ
weights starts = map (λ start. start.1) starts

-- ---- the weights so far, the latest first

abbrev pub weights_of : List ℤ → Weights
weights_of [] = no_weights
weights_of (w ∷ ws) = with_weight w (weights_of ws)

pub divisor_is : (ws : List ℤ) → (weights_of ws).divisor ≡ common_divisor ws
unfolding common_divisor
divisor_is [] = refl
divisor_is (w ∷ ws) = ap (λ (d : ℕ). divisor_within d (unsigned_abs w) d) (divisor_is ws)

pub many_from : (ws : List ℤ) → (weights_of ws).many ≡ true → 2 ≤ length ws
many_from [] e = absurd cc
many_from (w ∷ []) e = absurd cc
many_from (w ∷ v ∷ ws) e = omega arith

pub many_to : (ws : List ℤ) → 2 ≤ length ws → (weights_of ws).many ≡ true
many_to [] l = absurd (omega (arith, l))
many_to (w ∷ []) l = absurd (omega (arith, l))
many_to (w ∷ v ∷ ws) l = refl

pub long_weights : (starts : List Start) → length (weights starts) ≡ length starts
long_weights [] = refl
long_weights (s ∷ starts) = omega (arith, long_weights starts)

-- what the lines say of these start nodes and start points, both the latest first
abbrev pub starts_of : ℕ → List Start → List Start → Starts
starts_of version from over = record { version = version; sum = weights_sum from; nodes = weights_of (weights from); points = weights_of (weights over) }

-- ---- the tests

pub within_sum-tests : (sum weight : ℤ) → Tests (within_sum sum weight) kinds.Total tt ((weight +ℤ sum) ≤ℤ pos most_from)
unfolding within_sum
within_sum-tests sum weight =
    cond_tests (int_le (weight +ℤ sum) (pos most_from)) tt kinds.Total ((weight +ℤ sum) ≤ℤ pos most_from) (le_from (weight +ℤ sum) (pos most_from)) (le_to (weight +ℤ sum) (pos most_from))

pub within_sum-ok : (sum weight : ℤ) (u : Unit {0}) → within_sum sum weight ≡ Ok u → (weight +ℤ sum) ≤ℤ pos most_from
unfolding within_sum
within_sum-ok sum weight u h = le_from (weight +ℤ sum) (pos most_from) (cond_ok (int_le (weight +ℤ sum) (pos most_from)) tt u kinds.Total h).0

pub within_sum-to : (sum weight : ℤ) → (weight +ℤ sum) ≤ℤ pos most_from → within_sum sum weight ≡ Ok tt
unfolding within_sum
within_sum-to sum weight h = rw (le_to (weight +ℤ sum) (pos most_from) h) refl

one_from : (starts : List Start) → ((weights_of (weights starts)).divisor == 1) ≡ true → AreCoprimeStarts starts
one_from starts e = coprime_from (weights starts) (sym (divisor_is (weights starts)) ∙ eqb-true (weights_of (weights starts)).divisor 1 e)

one_to : (starts : List Start) → AreCoprimeStarts starts → ((weights_of (weights starts)).divisor == 1) ≡ true
one_to starts h = eq_true (weights_of (weights starts)).divisor 1 (divisor_is (weights starts) ∙ coprime_to (weights starts) h)

pub coprime-tests : (starts : List Start) → Tests (coprime (weights_of (weights starts))) kinds.Total tt (AreCoprimeStarts starts)
unfolding coprime
coprime-tests starts = cond_tests ((weights_of (weights starts)).divisor == 1) tt kinds.Total (AreCoprimeStarts starts) (one_from starts) (one_to starts)

pub coprime-ok : (starts : List Start) (u : Unit {0}) → coprime (weights_of (weights starts)) ≡ Ok u → AreCoprimeStarts starts
unfolding coprime
coprime-ok starts u h = one_from starts (cond_ok ((weights_of (weights starts)).divisor == 1) tt u kinds.Total h).0

pub coprime-to : (starts : List Start) → AreCoprimeStarts starts → coprime (weights_of (weights starts)) ≡ Ok tt
unfolding coprime
coprime-to starts h = rw (one_to starts h) refl

-- several start nodes, or several start points
abbrev pub AreSeveral : List Start → List Start → Type 0
AreSeveral from over = (2 ≤ length from) ⊎ (2 ≤ length over)

abbrev pub IsWhole : List Start → List Start → Type 0
IsWhole from over = AreCoprimeStarts over × AreSeveral from over

abbrev many_in : List Start → Bool
many_in starts = (weights_of (weights starts)).many

several_from : (from over : List Start) → (many_in from || many_in over) ≡ true → AreSeveral from over
several_from from over e = elim (or_true (many_in from) (many_in over) e) [
  | inl p ↦ inl (omega (arith, many_from (weights from) p, long_weights from))
  | inr p ↦ inr (omega (arith, many_from (weights over) p, long_weights over))
]

several_to : (from over : List Start) → AreSeveral from over → (many_in from || many_in over) ≡ true
several_to from over (inl l) = rw (many_to (weights from) (omega (arith, l, long_weights from))) refl
several_to from over (inr l) = or_last (many_in from) (many_in over) (many_to (weights over) (omega (arith, l, long_weights over)))

abbrev test_of : List Start → List Start → Bool
test_of from over = ((weights_of (weights over)).divisor == 1) && (many_in from || many_in over)

whole_from : (from over : List Start) → test_of from over ≡ true → IsWhole from over
whole_from from over e =
    let p = and_true ((weights_of (weights over)).divisor == 1) (many_in from || many_in over) e in
    (one_from over p.0, several_from from over p.1)

whole_to : (from over : List Start) → IsWhole from over → test_of from over ≡ true
whole_to from over h = true_and ((weights_of (weights over)).divisor == 1) (many_in from || many_in over) (one_to over h.0) (several_to from over h.1)

pub whole-tests : (version : ℕ) (from over : List Start) → Tests (whole_starts (starts_of version from over)) kinds.Total tt (IsWhole from over)
unfolding whole_starts
whole-tests version from over = cond_tests (test_of from over) tt kinds.Total (IsWhole from over) (whole_from from over) (whole_to from over)

pub whole-ok : (version : ℕ) (from over : List Start) (u : Unit {0}) → whole_starts (starts_of version from over) ≡ Ok u → IsWhole from over
unfolding whole_starts
whole-ok version from over u h = whole_from from over (cond_ok (test_of from over) tt u kinds.Total h).0

pub whole-to : (version : ℕ) (from over : List Start) → IsWhole from over → whole_starts (starts_of version from over) ≡ Ok tt
unfolding whole_starts
whole-to version from over h = rw (whole_to from over h) refl

-- ---- starts of which the latest stands first

abbrev pub IsAbove : List Start → ℕ → Type 0
IsAbove [] number = Unit {0}
IsAbove (s ∷ back) number = s.0 < number

abbrev pub StartsFall : List Start → Type 0
StartsFall [] = Unit {0}
StartsFall (s ∷ back) = IsAbove back s.0 × StartsFall back

rising_push : (xs : List Start) (m l : Start) → AreRisingPairs (xs ++ m ∷ []) → m.0 < l.0 → AreRisingPairs ((xs ++ m ∷ []) ++ l ∷ [])
rising_push [] m l h k = (k, tt)
rising_push (x ∷ []) m l h k = (h.0, (k, tt))
rising_push (x ∷ y ∷ xs) m l h k = (h.0, rising_push (y ∷ xs) m l h.1 k)

pub rising_starts : (back : List Start) → StartsFall back → AreRisingPairs (reverse back)
rising_starts [] h = tt
rising_starts (l ∷ []) h = tt
rising_starts (l ∷ m ∷ back) h =
    let e : reverse (l ∷ m ∷ back) ≡ (reverse back ++ m ∷ []) ++ l ∷ [] = reverse-cons l (m ∷ back) ∙ ap (λ (xs : List Start). xs ++ l ∷ []) (reverse-cons m back) in
    subst AreRisingPairs (sym e) (rising_push (reverse back) m l (subst AreRisingPairs (reverse-cons m back) (rising_starts (m ∷ back) h.1)) h.0)

long_more : (xs : List Start) (x : Start) → length (xs ++ x ∷ []) ≡ length xs + 1
long_more [] x = refl
long_more (y ∷ xs) x = omega (arith, long_more xs x)

pub long_reverse : (back : List Start) → length (reverse back) ≡ length back
long_reverse [] = refl
long_reverse (s ∷ back) =
    let e : length (reverse (s ∷ back)) ≡ length (reverse back ++ s ∷ []) = ap (λ (xs : List Start). length xs) (reverse-cons s back) in
    omega (arith, e, long_more (reverse back) s, long_reverse back)

sum_more : (xs : List Start) (x : Start) → weights_sum (xs ++ x ∷ []) ≡ weights_sum xs +ℤ x.1
sum_more [] x = omega (arith, ints)
sum_more (y ∷ xs) x = omega (arith, ints, sum_more xs x)

pub sum_reverse : (back : List Start) → weights_sum (reverse back) ≡ weights_sum back
sum_reverse [] = refl
sum_reverse (s ∷ back) =
    let e : weights_sum (reverse (s ∷ back)) ≡ weights_sum (reverse back ++ s ∷ []) = ap weights_sum (reverse-cons s back) in
    omega (arith, ints, e, sum_more (reverse back) s, sum_reverse back)

-- each weight of the list in one order is one of the list in the other order
abbrev Divided : ℕ → Start → Type 0
Divided d s = d ∣ unsigned_abs s.1

weights_each : (d : ℕ) (xs : List Start) → AllByRecursion (λ x. d ∣ unsigned_abs x) (weights xs) → AllByRecursion (Divided d) xs
weights_each d [] h = tt
weights_each d (x ∷ xs) h = (h.0, weights_each d xs h.1)

each_weights : (d : ℕ) (xs : List Start) → AllByRecursion (Divided d) xs → AllByRecursion (λ x. d ∣ unsigned_abs x) (weights xs)
each_weights d [] h = tt
each_weights d (x ∷ xs) h = (h.0, each_weights d xs h.1)

pub coprime_reverse : (back : List Start) → AreCoprimeStarts back → AreCoprimeStarts (reverse back)
coprime_reverse back h d all =
    let turned : AllByRecursion (Divided d) (reverse (reverse back)) = each_reverse (Divided d) (reverse back) (weights_each d (reverse back) all) in
    h d (each_weights d back (subst (AllByRecursion (Divided d)) (reverse-reverse back) turned))

-- starts so far
pub record StartsSoFar (count : ℕ) (most : ℤ) (back : List Start) : Type 0 where
  pub falls : StartsFall back
  pub each : AllByRecursion (IsStart count most) back

pub start_more : (count : ℕ) (most : ℤ) (back : List Start) (s : Start) → StartsSoFar count most back → IsAbove back s.0 → IsStart count most s → StartsSoFar count most (s ∷ back)
start_more count most back s k above is = record { falls = (above, k.falls); each = (is, k.each) }

pub are_starts : (count : ℕ) (most : ℤ) (back : List Start) → StartsSoFar count most back → 1 ≤ length back → AreCoprimeStarts back → AreStarts count most (reverse back)
are_starts count most back k some c = record {
  some = omega (arith, some, long_reverse back);
  rising = rising_starts back k.falls;
  each = each_reverse (IsStart count most) back k.each;
  coprime = coprime_reverse back c;
}

-- one start node and one start point, of weight 1 each
one_coprime : (member : ℕ) → AreCoprimeStarts ((member, pos 1) ∷ [])
one_coprime member d all = eq-one_of_dvd-one all.0

one_of : (count member : ℕ) (most : ℕ) → member < count → 1 ≤ most → AreStarts count (pos most) ((member, pos 1) ∷ [])
one_of count member most l m = record { some = omega arith; rising = tt; each = ((l, (omega (arith, ints), omega (arith, ints, m))), tt); coprime = one_coprime member }

pub one_start : (nodes points node point : ℕ) → node < nodes → point < points → StartsFit nodes points ((node, pos 1) ∷ []) ((point, pos 1) ∷ []) (pos 1)
one_start nodes points node point a b = record {
  from = one_of nodes node most_from a (omega arith);
  from_sum = omega (arith, ints);
  over = one_of points point most_over b (omega arith);
  multiple = (omega (arith, ints), omega (arith, ints));
  single = λ x y. refl;
}

-- the one weight that is coprime is 1
pub only_one : (s : Start) → pos 1 ≤ℤ s.1 → AreCoprimeStarts (s ∷ []) → s.1 ≡ pos 1
only_one s low c =
    pos_abs s.1 (omega (arith, ints, low)) ∙ ap pos (c (unsigned_abs s.1) (dvd_refl (unsigned_abs s.1), tt))

pub sum_low : (count : ℕ) (most : ℤ) (starts : List Start) → AllByRecursion (IsStart count most) starts → pos 0 ≤ℤ weights_sum starts
sum_low count most [] h = omega (arith, ints)
sum_low count most (s ∷ starts) h = omega (arith, ints, h.0.1.0, sum_low count most starts h.1)
