-- The plain spelling of a number stands for the number, and that of another word for none.
use Rattle.std.proofs.Common.{◌≡◌, ℕ, ◌+◌, ◌^◌, ◌<◌, ◌≤◌, Bool, true, false, cond, eqb, ltb, leb, ◌&&◌, List, [], ◌∷◌, ◌++◌, length, get_or, map, drop, Option, Some, None, ℤ, pos, Bor, refl, sym, ap, subst, ◌∙◌, arith, append_assoc, append-nil}
use Rattle.std.specs.Prelude.{neg_ℤ, unsigned_abs}
use Rattle.std.specs.Option.{option_map}
use Rattle.std.specs.Str.{all_ascii_digits}
use Rattle.std.specs.Str.Parse.{AllDigits, digits_value}
use Rattle.std.proofs.lemmas.Bool.Decides.{nat_tests}
use Rattle.std.proofs.lemmas.Bool.{leb-true}
use Rattle.std.proofs.lemmas.Int.{ints}
use Rattle.std.proofs.lemmas.List.{at_drop_more, at_drop_all}
use Rattle.std.proofs.lemmas.Str.Parse.{numerals_by_value, tells_all_ascii_digits}
use Rattle.text_words.specs.Numbers.{natural_of}
use Rattle.text_words.specs.Numbers as strict
use Rattle.text_words.proofs.Digits.{digits_value-below}
use Rattle.text_words.proofs.Printed.{number_of-printed}
use Rattle.game_text.specs.Plain.{number_of, plain_word, printed_or}

-- ---- what digits stand for has at most 36 digits

and_true : (a b : Bool) → (a && b) ≡ true → (a ≡ true) × (b ≡ true)
and_true true b e = (refl, e)
and_true false b e = absurd cc

chosen : (b : Bool) (n k : ℕ) → cond b (Some n) None ≡ Some k → (b ≡ true) × (n ≡ k)
chosen true n k e = (refl, cc)
chosen false n k e = absurd cc

natural_small : (digits : List ℕ) (n : ℕ) → natural_of digits ≡ Some n → n < 10 ^ 36
unfolding natural_of
natural_small digits n e =
    let p = chosen (ltb 0 (length digits) && leb (length digits) 36 && all_ascii_digits digits) (digits_value 10 digits) n e in
    let q = and_true (ltb 0 (length digits) && leb (length digits) 36) (all_ascii_digits digits) p.0 in
    let r = and_true (ltb 0 (length digits)) (leb (length digits) 36) q.0 in
    let few : length digits ≤ 36 = leb-true (length digits) 36 r.1 in
    let all : AllDigits 10 digits = (numerals_by_value _ tells_all_ascii_digits).to digits q.1 in
    omega (arith, p.1, digits_value-below digits 36 few all)

abbrev Small : Option ℤ → Type 0
Small None = Unit {0}
Small (Some z) = unsigned_abs z < 10 ^ 36

small_pos : (digits : List ℕ) (o : Option ℕ) → natural_of digits ≡ o → Small (option_map pos o)
small_pos digits None e = tt
small_pos digits (Some n) e = natural_small digits n e

neg_small : (n : ℕ) → n < 10 ^ 36 → unsigned_abs (neg_ℤ (pos n)) < 10 ^ 36
neg_small n lt = omega (arith, ints)

small_neg : (digits : List ℕ) (o : Option ℕ) → natural_of digits ≡ o → Small (option_map (λ n. neg_ℤ (pos n)) o)
small_neg digits None e = tt
small_neg digits (Some n) e = neg_small n (natural_small digits n e)

each_sign : (P : Option ℤ → Type 0) (a b : Bool) (x y z : Option ℤ) → P x → P y → P z → P (cond a x (cond b y z))
each_sign P true b x y z p q r = p
each_sign P false true x y z p q r = q
each_sign P false false x y z p q r = r

small : (word : List ℕ) → Small (number_of word)
unfolding number_of
small word =
    each_sign Small (eqb (get_or word 0 0) 45) (eqb (get_or word 0 0) 43) _ _ _ (small_neg (drop 1 word) (natural_of (drop 1 word)) refl) (small_pos (drop 1 word) (natural_of (drop 1 word)) refl) (small_pos word (natural_of word) refl)

-- ---- a word that stands for no number is no plain number either

no_plus : (word : List ℕ) → natural_of (43 ∷ word) ≡ None
unfolding natural_of
no_plus word = after_false (ltb 0 (length (43 ∷ word)) && leb (length (43 ∷ word)) 36)
  where
    after_false : (b : Bool) → cond (b && false) (Some (digits_value 10 (43 ∷ word))) None ≡ None
    after_false true = refl
    after_false false = refl

mapped_none : (f : ℕ → ℤ) (o : Option ℕ) → option_map f o ≡ None → o ≡ None
mapped_none f None e = refl
mapped_none f (Some n) e = absurd cc

plus_is : (word : List ℕ) → eqb (get_or word 0 0) 43 ≡ true → natural_of word ≡ None
plus_is [] e = absurd cc
plus_is (b ∷ word) e = let p : b ≡ 43 = grind (arith, nat_tests, e) in subst (λ (x : ℕ). natural_of (x ∷ word) ≡ None) (sym p) (no_plus word)

none_again : (word : List ℕ) (minus plus zero many : Bool) (second : Bool) (rest whole : Option ℕ) → (plus ≡ true → whole ≡ None)
    → cond minus (option_map (λ n. neg_ℤ (pos n)) rest) (cond plus (option_map pos rest) (option_map pos whole)) ≡ None
    → cond minus (cond second None (option_map (λ n. neg_ℤ (pos n)) rest)) (cond (zero && many) None (option_map pos whole)) ≡ None
none_again word true plus zero many true rest whole f e = refl
none_again word true plus zero many false rest whole f e = e
none_again word false true true true second rest whole f e = refl
none_again word false true true false second rest whole f e = ap (λ (o : Option ℕ). option_map pos o) (f refl)
none_again word false true false many second rest whole f e = ap (λ (o : Option ℕ). option_map pos o) (f refl)
none_again word false false true true second rest whole f e = refl
none_again word false false true false second rest whole f e = e
none_again word false false false many second rest whole f e = e

none_plain : (word : List ℕ) → number_of word ≡ None → strict.number_of word ≡ None
unfolding number_of strict.number_of
none_plain word e =
    none_again word (eqb (get_or word 0 0) 45) (eqb (get_or word 0 0) 43) (eqb (get_or word 0 0) 48) (ltb 1 (length word)) (eqb (get_or word 1 0) 48) (natural_of (drop 1 word)) (natural_of word) (plus_is word) e

some_natural : ℕ → Option ℕ
some_natural n = Some n

-- a word of a plain number stands for it
none_some : (n : ℕ) → some_natural n ≡ None → ⊥
unfolding some_natural
none_some n e = cc

some_again : (minus plus zero many second : Bool) (rest whole : Option ℕ) (z : ℤ) → (plus ≡ true → whole ≡ None)
    → cond minus (cond second None (option_map (λ n. neg_ℤ (pos n)) rest)) (cond (zero && many) None (option_map pos whole)) ≡ Some z
    → cond minus (option_map (λ n. neg_ℤ (pos n)) rest) (cond plus (option_map pos rest) (option_map pos whole)) ≡ Some z
unfolding some_natural
some_again true plus zero many true rest whole z f e = absurd cc
some_again true plus zero many false rest whole z f e = e
some_again false plus true true second rest whole z f e = absurd cc
some_again false true true false second rest None z f e = absurd cc
some_again false true true false second rest (Some n) z f e = absurd (none_some n (f refl))
some_again false true false many second rest None z f e = absurd cc
some_again false true false many second rest (Some n) z f e = absurd (none_some n (f refl))
some_again false false true false second rest whole z f e = e
some_again false false false many second rest whole z f e = e

pub number_again : (word : List ℕ) (z : ℤ) → strict.number_of word ≡ Some z → number_of word ≡ Some z
unfolding number_of strict.number_of
number_again word z e =
    some_again (eqb (get_or word 0 0) 45) (eqb (get_or word 0 0) 43) (eqb (get_or word 0 0) 48) (ltb 1 (length word)) (eqb (get_or word 1 0) 48) (natural_of (drop 1 word)) (natural_of word) z (plus_is word) e

printed_again : (word : List ℕ) (o : Option ℤ) → number_of word ≡ o → Small o → strict.number_of (printed_or word o) ≡ o
printed_again word None e s = none_plain word e
printed_again word (Some z) e s = number_of-printed z s

pub plain_number : (word : List ℕ) → strict.number_of (plain_word word) ≡ number_of word
plain_number word = printed_again word (number_of word) refl (small word)

-- ---- the numbers of words that are read one after another

abbrev pub texts : List (Bor (List ℕ)) → List (List ℕ)
texts words = map plain_word (map (λ word. word.now) words)

abbrev pub after : List ℤ → List (List ℕ) → Option (List ℤ)
after numbers words = option_map (λ (ns : List ℤ). numbers ++ ns) (strict.numbers_of words)

joined : (numbers : List ℤ) (n : ℤ) (rest : Option (List ℤ)) → option_map (λ (ns : List ℤ). numbers ++ ns) (option_map (λ (ns : List ℤ). n ∷ ns) rest) ≡ option_map (λ (ns : List ℤ). (numbers ++ n ∷ []) ++ ns) rest
joined numbers n None = refl
joined numbers n (Some ns) = ap Some (sym (append_assoc numbers (n ∷ []) ns))

after-some : (numbers : List ℤ) (word : List ℕ) (words : List (List ℕ)) (n : ℤ) → strict.number_of word ≡ Some n → after numbers (word ∷ words) ≡ after (numbers ++ n ∷ []) words
unfolding strict.numbers_of
after-some numbers word words n e = rw e (joined numbers n (strict.numbers_of words))

after-none : (numbers : List ℤ) (word : List ℕ) (words : List (List ℕ)) → strict.number_of word ≡ None → after numbers (word ∷ words) ≡ None
unfolding strict.numbers_of
after-none numbers word words e = rw e refl

after-nil : (numbers : List ℤ) → after numbers [] ≡ Some numbers
unfolding strict.numbers_of
after-nil numbers = ap Some (append-nil numbers)

pub after_more : (numbers : List ℤ) (words : List (Bor (List ℕ))) (i : ℕ) (d : Bor (List ℕ)) (n : ℤ) → i < length words → number_of (get_or words i d).now ≡ Some n → after (numbers ++ n ∷ []) (texts (drop (i + 1) words)) ≡ after numbers (texts (drop i words))
after_more numbers words i d n lt e =
    sym (after-some numbers (plain_word (get_or words i d).now) (texts (drop (i + 1) words)) n (plain_number (get_or words i d).now ∙ e)) ∙ sym (at_drop_more (λ ws. after numbers (texts ws)) words i d lt)

pub after_stops : (numbers : List ℤ) (words : List (Bor (List ℕ))) (i : ℕ) (d : Bor (List ℕ)) → i < length words → number_of (get_or words i d).now ≡ None → after numbers (texts (drop i words)) ≡ None
after_stops numbers words i d lt e =
    at_drop_more (λ ws. after numbers (texts ws)) words i d lt ∙ after-none numbers (plain_word (get_or words i d).now) (texts (drop (i + 1) words)) (plain_number (get_or words i d).now ∙ e)

pub after_all : (numbers : List ℤ) (words : List (Bor (List ℕ))) (i : ℕ) → length words ≤ i → after numbers (texts (drop i words)) ≡ Some numbers
after_all numbers words i le = at_drop_all (λ ws. after numbers (texts ws)) words i le ∙ after-nil numbers
