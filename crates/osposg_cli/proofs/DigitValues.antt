-- What the digits of a value stand for.
use Rattle.std.proofs.Common.{◌≡◌, ℕ, zero, suc, ◌<◌, ◌≤◌, Bool, true, false, cond, eqb, ◌&&◌, ltb, leb, List, [], ◌∷◌, length, get_or, Some, None, refl, arith}
use Rattle.std.specs.Char.{is_ascii_digit}
use Rattle.std.specs.Str.{all_ascii_digits}
use Rattle.std.specs.Str.Parse.{AllDigits, digits_value}
use Rattle.std.proofs.lemmas.Bool.Decides.{nat_tests}
use Rattle.std.proofs.lemmas.Str.Parse.{numerals_by_value, tells_all_ascii_digits}
use Rattle.osposg_cli.specs.Words.{digits_of}

pub digits_of-empty : (text : List ℕ) → eqb (length text) 0 ≡ true → digits_of text ≡ None
unfolding digits_of
digits_of-empty text e = grind (arith, nat_tests)

pub digits_of-long : (text : List ℕ) → 30 < length text → digits_of text ≡ None
unfolding digits_of
digits_of-long text e = grind (arith, nat_tests)

not_all : (text : List ℕ) (i : ℕ) → i < length text → is_ascii_digit (get_or text i 0) ≡ false → all_ascii_digits text ≡ false
not_all [] i l e = absurd (omega arith)
not_all (d ∷ text) zero l e = rw e refl
not_all (d ∷ text) (suc i) l e = rw (not_all text i (omega arith) e) (and_false (is_ascii_digit d))
  where
    and_false : (b : Bool) → (b && false) ≡ false
    and_false true = refl
    and_false false = refl

cond_off : (a b : Bool) (n : ℕ) → cond (a && b && false) (Some n) None ≡ None
cond_off true true n = refl
cond_off true false n = refl
cond_off false b n = refl

pub digits_of-other : (text : List ℕ) (i : ℕ) → i < length text → is_ascii_digit (get_or text i 0) ≡ false → digits_of text ≡ None
unfolding digits_of
digits_of-other text i l e = rw (not_all text i l e) (cond_off (ltb 0 (length text)) (leb (length text) 30) (digits_value 10 text))

pub digits_of-digits : (text : List ℕ) → 0 < length text → length text ≤ 30 → AllDigits 10 text → digits_of text ≡ Some (digits_value 10 text)
unfolding digits_of
digits_of-digits text some few all =
    let e : all_ascii_digits text ≡ true = (numerals_by_value _ tells_all_ascii_digits).from text all in
    grind (arith, nat_tests)
