-- Numbers have one spelling: the word of a number is what is printed of it.
use Rattle.std.proofs.Common.{◌≡◌, ℕ, zero, suc, ◌+◌, ◌*◌, ◌/◌, ◌%◌, ◌^◌, ◌<◌, ◌≤◌, Bool, true, false, cond, eqb, ◌&&◌, ltb, leb, List, [], ◌∷◌, ◌++◌, length, get_or, Option, Some, None, ℤ, pos, negsuc, refl, sym, ap, subst, ◌∙◌, arith, append_assoc, append-nil, ◌⊎◌, inl, inr, length-append}
use Rattle.std.proofs.lemmas.List.{get_or_append_left}
use Rattle.std.specs.Prelude.{neg_ℤ, unsigned_abs}
use Rattle.std.specs.Char.{digit_value}
use Rattle.std.specs.Option.{option_map}
use Rattle.std.specs.Str.{all_ascii_digits}
use Rattle.std.specs.Str.Parse.{AllDigits, digits_value, digits_value_after}
use Rattle.std.specs.Fmt.{decimal, signed_decimal}
use Rattle.std.specs.List.{AllByRecursion}
use Rattle.std.proofs.lemmas.Bool.Decides.{nat_tests, eqb_tells}
use Rattle.std.proofs.lemmas.Str.{digit_value_digit}
use Rattle.std.proofs.lemmas.Str.Parse.{numerals_by_value, tells_all_ascii_digits, digit_from_value}
use Rattle.std.proofs.lemmas.Fmt.{decimal_is_IsNumeral_wide, decimal_by_steps_wide, length-decimal-le_wide, decimal_step_wide, decimal_digit}
use Rattle.std.proofs.Common.{map}
use Rattle.std.specs.Option.{option_and_then}
use Rattle.text_words.specs.Numbers.{natural_of, number_of, numbers_of}
use Rattle.text_words.proofs.Digits.{natural_of-digits, digits_value-below}

-- digits that stand for a number, and back

le_value_after : (n : ℕ) (ds : List ℕ) → n ≤ digits_value_after 10 n ds
le_value_after n [] = omega arith
le_value_after n (c ∷ cs) = omega (arith, le_value_after (n * 10 + digit_value c) cs)

decimal_value_after : (n : ℕ) (ds : List ℕ) → 0 < n → AllDigits 10 ds → digits_value_after 10 n ds < 10 ^ 64 → decimal (digits_value_after 10 n ds) ≡ decimal n ++ ds
decimal_value_after n [] some d small = sym (append-nil (decimal n))
decimal_value_after n (c ∷ cs) some d small =
    let m : ℕ = n * 10 + digit_value c in
    let k = digit_value_digit c (digit_from_value c d.0) in
    let front : m / 10 ≡ n = omega (arith, d.0) in
    let end : 48 + m % 10 ≡ c = omega (arith, d.0) in
    decimal_value_after m cs (omega arith) d.1 small
    ∙ ap (λ x. x ++ cs) (decimal_step_wide m (omega arith) (omega (arith, le_value_after m cs)) ∙ (λ i. decimal (front i) ++ (end i ∷ [])))
    ∙ append_assoc (decimal n) (c ∷ []) cs

pub decimal_value_digits : (ds : List ℕ) → AllDigits 10 ds → 0 < length ds → (get_or ds 0 0 ≡ 48 → length ds ≡ 1) → digits_value 10 ds < 10 ^ 64 → decimal (digits_value 10 ds) ≡ ds
decimal_value_digits [] d some lead small = absurd (omega arith)
decimal_value_digits (c ∷ []) d some lead small =
    let k = digit_value_digit c (digit_from_value c d.0) in
    decimal_digit (0 * 10 + digit_value c) (omega (arith, d.0)) ∙ ap (λ x. x ∷ []) (omega arith)
decimal_value_digits (c ∷ e ∷ cs) d some lead small =
    let k = digit_value_digit c (digit_from_value c d.0) in
    let no : c ≡ 48 → ⊥ = λ z. omega (arith, lead z) in
    let is : 48 + (0 * 10 + digit_value c) ≡ c = omega arith in
    decimal_value_after (0 * 10 + digit_value c) (e ∷ cs) (omega arith) d.1 small
    ∙ ap (λ x. x ++ (e ∷ cs)) (decimal_digit (0 * 10 + digit_value c) (omega (arith, d.0)) ∙ ap (λ x. x ∷ []) is)

first_decimal : (n : ℕ) → n < 10 ^ 64 → (0 < length (decimal n)) × (0 < n → 48 < get_or (decimal n) 0 0)
first_decimal n small =
    decimal_by_steps_wide (λ m ds. (0 < length ds) × (0 < m → 48 < get_or ds 0 0)) (λ m l. (omega arith, λ a. omega arith))
    (λ m ds l h. (omega (arith, length-append ds ((48 + m % 10) ∷ [])), λ a. omega (arith, get_or_append_left ds ((48 + m % 10) ∷ []) 0 0 h.0, h.1 (omega arith)))) n small

-- a digit is above the minus sign
digits_above : (ds : List ℕ) → AllDigits 10 ds → AllByRecursion (λ b. 32 < b) ds
digits_above [] d = tt
digits_above (c ∷ cs) d = (omega (arith, digit_from_value c d.0), digits_above cs d.1)

-- what a printed number is made of: no space and no line feed
pub decimal-above : (n : ℕ) → n < 10 ^ 36 → AllByRecursion (λ b. 32 < b) (decimal n)
decimal-above n small = digits_above (decimal n) (decimal_is_IsNumeral_wide n (omega arith)).0.1

pub signed_decimal-above : (z : ℤ) → unsigned_abs z < 10 ^ 36 → AllByRecursion (λ b. 32 < b) (signed_decimal z)
signed_decimal-above (pos n) small = decimal-above n small
signed_decimal-above (negsuc n) small = (omega arith, decimal-above (suc n) small)

-- from a number to its word, and back

natural_of-decimal : (n : ℕ) → n < 10 ^ 36 → natural_of (decimal n) ≡ Some n
natural_of-decimal n small =
    let k = decimal_is_IsNumeral_wide n (omega arith) in
    natural_of-digits (decimal n) k.0.0 (length-decimal-le_wide 36 n (omega arith) small (omega arith)) k.0.1 ∙ ap Some k.1

plain_word : (ds : List ℕ) → (get_or ds 0 0 ≡ 45 → ⊥) → (get_or ds 0 0 ≡ 48 → length ds ≤ 1) → number_of ds ≡ option_map pos (natural_of ds)
unfolding number_of
plain_word ds plain lead = grind (arith, nat_tests)

minus_word : (ds : List ℕ) → (get_or ds 0 0 ≡ 48 → ⊥) → number_of (45 ∷ ds) ≡ option_map (λ n. neg_ℤ (pos n)) (natural_of ds)
unfolding number_of
minus_word ds lead = grind (arith, nat_tests)

first_above : (n : ℕ) → n < 10 ^ 36 → get_or (decimal n) 0 0 ≡ 45 → ⊥
first_above n small e =
    let k = first_decimal n (omega arith) in
    let d = (decimal_is_IsNumeral_wide n (omega arith)).0 in
    digit_first (decimal n) d.0 d.1 e
  where
    digit_first : (ds : List ℕ) → 0 < length ds → AllDigits 10 ds → get_or ds 0 0 ≡ 45 → ⊥
    digit_first [] some d e = omega arith
    digit_first (c ∷ cs) some d e = omega (arith, digit_from_value c d.0)

short_zero : (n : ℕ) → n < 10 ^ 36 → get_or (decimal n) 0 0 ≡ 48 → length (decimal n) ≤ 1
short_zero zero small e = subst (λ (ds : List ℕ). length ds ≤ 1) (sym (decimal_digit 0 (omega arith))) (omega arith)
short_zero (suc n) small e = absurd (omega (arith, (first_decimal (suc n) (omega arith)).1 (omega arith)))

pub number_of-printed : (z : ℤ) → unsigned_abs z < 10 ^ 36 → number_of (signed_decimal z) ≡ Some z
number_of-printed (pos n) small =
    plain_word (decimal n) (first_above n small) (short_zero n small) ∙ ap (option_map pos) (natural_of-decimal n small)
number_of-printed (negsuc n) small =
    minus_word (decimal (suc n)) (λ e. omega (arith, (first_decimal (suc n) (omega arith)).1 (omega arith)))
    ∙ ap (option_map (λ m. neg_ℤ (pos m))) (natural_of-decimal (suc n) small)

-- digits of a number, as a record
pub record IsNatural (ds : List ℕ) (n : ℕ) : Type 0 where
  pub some : 0 < length ds
  pub few : length ds ≤ 36
  pub digits : AllDigits 10 ds
  pub value : n ≡ digits_value 10 ds

natural_is : (ds : List ℕ) (n : ℕ) → natural_of ds ≡ Some n → IsNatural ds n
unfolding natural_of
natural_is ds n h = by (ltb 0 (length ds)) (leb (length ds) 36) (all_ascii_digits ds) refl refl refl h
  where
    by : (a b c : Bool) → ltb 0 (length ds) ≡ a → leb (length ds) 36 ≡ b → all_ascii_digits ds ≡ c → cond (a && b && c) (Some (digits_value 10 ds)) None ≡ Some n → IsNatural ds n
    by true true true p q r h = record {
      some = grind (arith, nat_tests);
      few = grind (arith, nat_tests);
      digits = (numerals_by_value _ tells_all_ascii_digits).to ds r;
      value = cc;
    }
    by true true false p q r h = absurd cc
    by true false c p q r h = absurd cc
    by false b c p q r h = absurd cc

natural_small : (ds : List ℕ) (n : ℕ) → IsNatural ds n → n < 10 ^ 36
natural_small ds n h = omega (arith, h.value, digits_value-below ds 36 h.few h.digits)

natural_printed : (ds : List ℕ) (n : ℕ) → IsNatural ds n → (get_or ds 0 0 ≡ 48 → length ds ≡ 1) → ds ≡ decimal n
natural_printed ds n h lead =
    let small : digits_value 10 ds < 10 ^ 64 = omega (arith, digits_value-below ds 36 h.few h.digits) in
    sym (decimal_value_digits ds h.digits h.some lead small) ∙ ap decimal (sym h.value)

abbrev Prints : List ℕ → ℤ → Type 0
Prints word z = (word ≡ signed_decimal z) × (unsigned_abs z < 10 ^ 36)

no_word : (z : ℤ) → number_of [] ≡ Some z → ⊥
unfolding number_of natural_of
no_word z h = cc

minus_refused : (ds : List ℕ) (z : ℤ) → eqb (get_or ds 0 0) 48 ≡ true → number_of (45 ∷ ds) ≡ Some z → ⊥
unfolding number_of
minus_refused ds z e h = grind (arith, nat_tests)

long_refused : (ds : List ℕ) (z : ℤ) → get_or ds 0 0 ≡ 48 → ltb 1 (length ds) ≡ true → number_of ds ≡ Some z → ⊥
unfolding number_of
long_refused ds z e l h = grind (arith, nat_tests)

minus_is : (ds : List ℕ) (z : ℤ) (o : Option ℕ) → natural_of ds ≡ o → (get_or ds 0 0 ≡ 48 → ⊥) → option_map (λ n. neg_ℤ (pos n)) o ≡ Some z → Prints (45 ∷ ds) z
minus_is ds z None e lead h = absurd cc
minus_is ds z (Some zero) e lead h =
    let k = natural_is ds 0 e in
    let p = natural_printed ds 0 k (λ x. absurd (lead x)) in
    absurd (lead (ap (λ (l : List ℕ). get_or l 0 0) (p ∙ decimal_digit 0 (omega arith))))
minus_is ds z (Some (suc n)) e lead h =
    let k = natural_is ds (suc n) e in
    let p = natural_printed ds (suc n) k (λ x. absurd (lead x)) in
    let q : negsuc n ≡ z = cc in
    subst (λ (y : ℤ). Prints (45 ∷ ds) y) q (ap (λ (l : List ℕ). 45 ∷ l) p, natural_small ds (suc n) k)

minus_prints : (ds : List ℕ) (z : ℤ) → number_of (45 ∷ ds) ≡ Some z → Prints (45 ∷ ds) z
minus_prints ds z h = elim (eqb_tells (get_or ds 0 0) 48) [
  | inl e ↦ absurd (minus_refused ds z e.0 h)
  | inr e ↦ minus_is ds z (natural_of ds) refl e.1 (sym (minus_word ds e.1) ∙ h)
]

plain_is : (ds : List ℕ) (z : ℤ) (o : Option ℕ) → natural_of ds ≡ o → (get_or ds 0 0 ≡ 48 → length ds ≤ 1) → option_map pos o ≡ Some z → Prints ds z
plain_is ds z None e lead h = absurd cc
plain_is ds z (Some n) e lead h =
    let k = natural_is ds n e in
    let p = natural_printed ds n k (λ x. omega (arith, lead x, k.some)) in
    let q : pos n ≡ z = cc in
    subst (λ (y : ℤ). Prints ds y) q (p, natural_small ds n k)

short_or_long : (n : ℕ) (b : Bool) → ltb 1 n ≡ b → ((ltb 1 n ≡ true) ⊎ (n ≤ 1))
short_or_long n true e = inl e
short_or_long n false e = inr (grind (arith, nat_tests))

zero_prints : (ds : List ℕ) (z : ℤ) → (get_or ds 0 0 ≡ 45 → ⊥) → get_or ds 0 0 ≡ 48 → ((ltb 1 (length ds) ≡ true) ⊎ (length ds ≤ 1)) → number_of ds ≡ Some z → Prints ds z
zero_prints ds z ne e (inl l) h = absurd (long_refused ds z e l h)
zero_prints ds z ne e (inr l) h = plain_is ds z (natural_of ds) refl (λ x. l) (sym (plain_word ds ne (λ x. l)) ∙ h)

plain_prints : (ds : List ℕ) (z : ℤ) → (get_or ds 0 0 ≡ 45 → ⊥) → number_of ds ≡ Some z → Prints ds z
plain_prints ds z ne h = elim (eqb_tells (get_or ds 0 0) 48) [
  | inr e ↦ plain_is ds z (natural_of ds) refl (λ x. absurd (e.1 x)) (sym (plain_word ds ne (λ x. absurd (e.1 x))) ∙ h)
  | inl e ↦ zero_prints ds z ne e.1 (short_or_long (length ds) (ltb 1 (length ds)) refl) h
]

pub number_of-prints : (word : List ℕ) (z : ℤ) → number_of word ≡ Some z → (word ≡ signed_decimal z) × (unsigned_abs z < 10 ^ 36)
number_of-prints [] z h = absurd (no_word z h)
number_of-prints (b ∷ ds) z h =
    elim (eqb_tells b 45) [
      | inl e ↦ subst (λ (x : ℕ). number_of (x ∷ ds) ≡ Some z → Prints (x ∷ ds) z) (sym e.1) (minus_prints ds z) h
      | inr e ↦ plain_prints (b ∷ ds) z e.1 h
    ]

-- numbers in a row
pub numbers_of-printed : (numbers : List ℤ) → AllByRecursion (λ z. unsigned_abs z < 10 ^ 36) numbers → numbers_of (map signed_decimal numbers) ≡ Some numbers
unfolding numbers_of
numbers_of-printed [] small = refl
numbers_of-printed (z ∷ numbers) small = rw (number_of-printed z small.0) (rw (numbers_of-printed numbers small.1) refl)

two_numbers : (a : Option ℤ) (b : Option (List ℤ)) (numbers : List ℤ) → option_and_then (λ (n : ℤ). option_map (λ (ns : List ℤ). n ∷ ns) b) a ≡ Some numbers
    → (z : ℤ) × (rest : List ℤ) × (a ≡ Some z) × (b ≡ Some rest) × (numbers ≡ z ∷ rest)
two_numbers None b numbers h = absurd cc
two_numbers (Some z) None numbers h = absurd cc
two_numbers (Some z) (Some rest) numbers h = (z, rest, refl, refl, cc)

no_numbers : (numbers : List ℤ) → numbers_of [] ≡ Some numbers → numbers ≡ []
unfolding numbers_of
no_numbers numbers h = cc

more_numbers : (word : List ℕ) (words : List (List ℕ)) (numbers : List ℤ) → numbers_of (word ∷ words) ≡ Some numbers
    → (z : ℤ) × (rest : List ℤ) × (number_of word ≡ Some z) × (numbers_of words ≡ Some rest) × (numbers ≡ z ∷ rest)
unfolding numbers_of
more_numbers word words numbers h = two_numbers (number_of word) (numbers_of words) numbers h

pub numbers_of-prints : (words : List (List ℕ)) (numbers : List ℤ) → numbers_of words ≡ Some numbers
    → (words ≡ map signed_decimal numbers) × AllByRecursion (λ z. unsigned_abs z < 10 ^ 36) numbers
numbers_of-prints [] numbers h = rw (no_numbers numbers h) (refl, tt)
numbers_of-prints (word ∷ words) numbers h =
    let p = more_numbers word words numbers h in
    let here = number_of-prints word p.0 p.2 in
    let rest = numbers_of-prints words p.1 p.3 in
    rw (p.4) (ap (λ (w : List ℕ). w ∷ words) here.0 ∙ ap (λ (ws : List (List ℕ)). signed_decimal p.0 ∷ ws) rest.0, (here.1, rest.1))
