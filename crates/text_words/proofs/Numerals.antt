-- A line of a word and numbers: what it is, and that it is read back.
use Rattle.std.proofs.Common.{◌≡◌, ℕ, ◌^◌, ◌<◌, Bool, true, false, cond, ◌&&◌, eqb, List, [], ◌∷◌, length, map, Option, Some, None, Result, Ok, Err, ℤ, pos, negsuc, refl, sym, ap, subst, ◌∙◌, arith}
use Rattle.std.specs.Prelude.{unsigned_abs, ◌==◌}
use Rattle.std.specs.List.{AllByRecursion}
use Rattle.std.specs.Option.{ok_or}
use Rattle.std.specs.Str.{bytes_eq}
use Rattle.std.specs.Fmt.{signed_decimal}
use Rattle.std.proofs.lemmas.List.{length-map}
use Rattle.std.proofs.lemmas.Slice.Eq.{bytes_eq-Decides}
use Rattle.std.proofs.lemmas.Int.{ints}
use Rattle.std.proofs.lemmas.Bool.{eqb-true}
use Rattle.std.proofs.lemmas.Bool.Decides.{nat_tests}
use Rattle.text_words.specs.Lines.{Line}
use Rattle.text_words.specs.Numbers.{numbers_of}
use Rattle.text_words.specs.Forms.{number_at, numbers_said, numbers_after}
use Rattle.text_words.proofs.Printed.{numbers_of-printed, numbers_of-prints, signed_decimal-above}
use Rattle.text_words.proofs.Whole.{IsWord}
use Rattle.text_words.proofs.Limits.{IsInside, cond_then, or_some, and_true}

-- a number of at most 36 digits
abbrev pub Small : ℤ → Type 0
Small z = unsigned_abs z < 10 ^ 36

pub small_within : (low high x : ℤ) → unsigned_abs low < 10 ^ 36 → unsigned_abs high < 10 ^ 36 → IsInside low high x → Small x
small_within (pos l) (pos h) (pos n) a b w = omega (arith, ints, w.0, w.1)
small_within (pos l) (pos h) (negsuc n) a b w = absurd (omega (arith, ints, w.0))
small_within (pos l) (negsuc h) (pos n) a b w = absurd (omega (arith, ints, w.1))
small_within (pos l) (negsuc h) (negsuc n) a b w = absurd (omega (arith, ints, w.0))
small_within (negsuc l) (pos h) (pos n) a b w = omega (arith, ints, w.0, w.1)
small_within (negsuc l) (pos h) (negsuc n) a b w = omega (arith, ints, w.0, w.1)
small_within (negsuc l) (negsuc h) (pos n) a b w = absurd (omega (arith, ints, w.1))
small_within (negsuc l) (negsuc h) (negsuc n) a b w = omega (arith, ints, w.0, w.1)

pub bytes_same : (xs : List ℕ) → bytes_eq xs xs ≡ true
bytes_same xs = (bytes_eq-Decides xs xs).1 refl

pub bytes_is : (xs ys : List ℕ) → bytes_eq xs ys ≡ true → xs ≡ ys
bytes_is xs ys e = (bytes_eq-Decides xs ys).0 e

-- a word and numbers
abbrev pub numbered : List ℕ → List ℤ → Line
numbered name ns = name ∷ map signed_decimal ns

abbrev pub NumbersAre : List ℕ → ℕ → Line → List ℤ → Type 0
NumbersAre name count line ns = (line ≡ numbered name ns) × (length ns ≡ count) × AllByRecursion Small ns

pub numbers_after-ok : {K : Type 0} (shape number : K) (name : List ℕ) (count : ℕ) (line : Line) (ns : List ℤ) → numbers_after shape number name count line ≡ Ok ns → NumbersAre name count line ns
unfolding numbers_after numbers_said
numbers_after-ok shape number name count [] ns h = absurd cc
numbers_after-ok shape number name count (word ∷ words) ns h =
    let p = cond_then (bytes_eq word name && (length words == count)) (ok_or (numbers_of words) number) shape ns h in
    let q = and_true (bytes_eq word name) (length words == count) p.0 in
    let n = numbers_of-prints words ns (or_some (numbers_of words) number ns p.1) in
    let counted : length words ≡ count = eqb-true (length words) count q.1 in
    (ap (λ (w : List ℕ). w ∷ words) (bytes_is word name q.0) ∙ ap (λ (ws : Line). name ∷ ws) n.0, sym (length-map ns signed_decimal) ∙ sym (ap length n.0) ∙ counted, n.1)

eqb_same : (n : ℕ) → eqb n n ≡ true
eqb_same n = grind (arith, nat_tests)

numbers_after-same : {K : Type 0} (shape number : K) (name : List ℕ) (ns : List ℤ) → AllByRecursion Small ns → numbers_after shape number name (length ns) (numbered name ns) ≡ Ok ns
unfolding numbers_after numbers_said
numbers_after-same shape number name ns small =
    rw (bytes_same name) (rw (length-map ns signed_decimal) (rw (eqb_same (length ns)) (rw (numbers_of-printed ns small) refl)))

pub numbers_after-to : {K : Type 0} (shape number : K) (name : List ℕ) (count : ℕ) (ns : List ℤ) → length ns ≡ count → AllByRecursion Small ns → numbers_after shape number name count (numbered name ns) ≡ Ok ns
numbers_after-to shape number name count ns e small = subst (λ (k : ℕ). numbers_after shape number name k (numbered name ns) ≡ Ok ns) e (numbers_after-same shape number name ns small)

pub numbers_written : (numbers : List ℤ) → AllByRecursion Small numbers → AllByRecursion IsWord (map signed_decimal numbers)
numbers_written [] small = tt
numbers_written (z ∷ numbers) small = (signed_decimal-above z small.0, numbers_written numbers small.1)

-- so many numbers

pub no_number : (ns : List ℤ) → length ns ≡ 0 → ns ≡ []
no_number [] e = refl
no_number (x ∷ ns) e = absurd (omega arith)

pub one_number : (ns : List ℤ) → length ns ≡ 1 → ns ≡ number_at ns 0 ∷ []
one_number [] e = absurd (omega arith)
one_number (x ∷ []) e = refl
one_number (x ∷ y ∷ ns) e = absurd (omega arith)

pub two_numbers : (ns : List ℤ) → length ns ≡ 2 → ns ≡ number_at ns 0 ∷ number_at ns 1 ∷ []
two_numbers [] e = absurd (omega arith)
two_numbers (x ∷ []) e = absurd (omega arith)
two_numbers (x ∷ y ∷ []) e = refl
two_numbers (x ∷ y ∷ z ∷ ns) e = absurd (omega arith)

pub three_numbers : (ns : List ℤ) → length ns ≡ 3 → ns ≡ number_at ns 0 ∷ number_at ns 1 ∷ number_at ns 2 ∷ []
three_numbers [] e = absurd (omega arith)
three_numbers (x ∷ []) e = absurd (omega arith)
three_numbers (x ∷ y ∷ []) e = absurd (omega arith)
three_numbers (x ∷ y ∷ z ∷ []) e = refl
three_numbers (x ∷ y ∷ z ∷ w ∷ ns) e = absurd (omega arith)

pub four_numbers : (ns : List ℤ) → length ns ≡ 4 → ns ≡ number_at ns 0 ∷ number_at ns 1 ∷ number_at ns 2 ∷ number_at ns 3 ∷ []
four_numbers [] e = absurd (omega arith)
four_numbers (x ∷ []) e = absurd (omega arith)
four_numbers (x ∷ y ∷ []) e = absurd (omega arith)
four_numbers (x ∷ y ∷ z ∷ []) e = absurd (omega arith)
four_numbers (x ∷ y ∷ z ∷ w ∷ []) e = refl
four_numbers (x ∷ y ∷ z ∷ w ∷ v ∷ ns) e = absurd (omega arith)

pub one_is : (ns : List ℤ) (x : ℤ) → length ns ≡ 1 → number_at ns 0 ≡ x → ns ≡ x ∷ []
one_is ns x e p = cc (one_number ns e)

pub two_are : (ns : List ℤ) (x y : ℤ) → length ns ≡ 2 → number_at ns 0 ≡ x → number_at ns 1 ≡ y → ns ≡ x ∷ y ∷ []
two_are ns x y e p q = cc (two_numbers ns e)

pub three_are : (ns : List ℤ) (x y z : ℤ) → length ns ≡ 3 → number_at ns 0 ≡ x → number_at ns 1 ≡ y → number_at ns 2 ≡ z → ns ≡ x ∷ y ∷ z ∷ []
three_are ns x y z e p q r = cc (three_numbers ns e)

pub four_are : (ns : List ℤ) (x y z w : ℤ) → length ns ≡ 4 → number_at ns 0 ≡ x → number_at ns 1 ≡ y → number_at ns 2 ≡ z → number_at ns 3 ≡ w → ns ≡ x ∷ y ∷ z ∷ w ∷ []
four_are ns x y z w e p q r t = cc (four_numbers ns e)

-- ---- what may be told of a line

-- what holds of both refusals and of all numbers holds of what a line says
pub numbers_after-each : {K : Type 0} (P : Result (List ℤ) K → Type 0) (shape number : K) (name : List ℕ) (count : ℕ) (line : Line)
    → P (Err shape) → P (Err number) → ((ns : List ℤ) → P (Ok ns)) → P (numbers_after shape number name count line)
unfolding numbers_after numbers_said
numbers_after-each P shape number name count [] s n o = s
numbers_after-each {K} P shape number name count (word ∷ words) s n o = each (bytes_eq word name && (length words == count)) (numbers_of words)
  where
    each : (b : Bool) (ns : Option (List ℤ)) → P (cond b (ok_or ns number) (Err shape))
    each true (Some ns) = o ns
    each true None = n
    each false ns = s
