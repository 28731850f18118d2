-- How a word is cut, as options and as `clap` reads it.
use Rattle.std.proofs.Common.{◌≡◌, ◌⊎◌, ◌||◌, ◌+◌, ℕ, Bool, true, false, cond, true≢false, eqb, suc, refl, sym, ap, ◌∙◌, subst, inl, inr, List, [], ◌∷◌, take, drop, length, Option, Some, None, arith, one-add, ◌==◌, not}
use Rattle.std.specs.List.{after_first, before_first, list_any, position_or_len}
use Rattle.std.specs.Prelude.{option_and_then}
use Rattle.std.specs.Str.{bytes_eq}
use Rattle.std.proofs.lemmas.Bool.Decides.{nat_tests}
use Rattle.clap.specs.Lexer.{long_of, long_of_rest, name_and_value, short_of, strip_byte}
use Rattle.clap.specs.Walk.{Text}
use Rattle.option_words.specs.Options.{Named, dashed, has_hyphen, is_equals, split_word}

is_number : (a b : ℕ) → (a == b) ≡ true → a ≡ b
is_number a b e = grind (arith, nat_tests)

-- ---- equals signs

before-next : (b : ℕ) (word : Text) → is_equals b ≡ false → before_first is_equals (b ∷ word) ≡ b ∷ before_first is_equals word
before-next b word e = rw (e, one-add) refl

after-next : (b : ℕ) (word : Text) → is_equals b ≡ false → after_first is_equals (b ∷ word) ≡ after_first is_equals word
after-next b word e =
    let n = position_or_len is_equals word in
    let more : (1 + n) + 1 ≡ suc (n + 1) = omega arith in
    rw e (ap (λ k. drop k (b ∷ word)) more)

before-here : (b : ℕ) (word : Text) → is_equals b ≡ true → before_first is_equals (b ∷ word) ≡ []
before-here b word e = rw e refl

-- all of a text without an equals sign stands before it
pub before-none : (word : Text) → list_any is_equals word ≡ false → before_first is_equals word ≡ word
before-none [] e = refl
before-none (b ∷ word) e = go (is_equals b) refl e (before-none word)
  where
    go : (t : Bool) → is_equals b ≡ t → (t || list_any is_equals word) ≡ false → (list_any is_equals word ≡ false → before_first is_equals word ≡ word) → before_first is_equals (b ∷ word) ≡ b ∷ word
    go true f e rest = absurd (true≢false e)
    go false f e rest = before-next b word f ∙ ap (λ w. b ∷ w) (rest e)

-- ---- words with dashes

-- the option that a word after two dashes is by itself
pub split-dashed : (text : Text) → split_word (dashed text) ≡ record { name = dashed (before_first is_equals text); value = after_first is_equals text }
split-dashed text =
    let before = before-next 45 (45 ∷ text) refl ∙ ap (λ (w : Text). 45 ∷ w) (before-next 45 text refl) in
    let after = after-next 45 (45 ∷ text) refl ∙ after-next 45 text refl in
    rw (before, after) refl

-- a word is no long option, or begins with two dashes and goes on
pub long-cases : (word : Text) → bytes_eq word (45 ∷ 45 ∷ []) ≡ false →
    (long_of word ≡ None) ⊎ ((text : Text) × (word ≡ dashed text) × (long_of word ≡ Some (name_and_value text)))
long-cases [] e = inl refl
long-cases (a ∷ []) e = inl (go (a == 45))
  where
    go : (t : Bool) → option_and_then long_of_rest (option_and_then (strip_byte 45) (cond t (Some []) None)) ≡ None
    go true = refl
    go false = refl
long-cases (a ∷ b ∷ text) e = go (a == 45) refl (b == 45) refl
  where
    Cases : Text → Type 0
    Cases word = (long_of word ≡ None) ⊎ ((text : Text) × (word ≡ dashed text) × (long_of word ≡ Some (name_and_value text)))

    rest : (text : Text) → bytes_eq (dashed text) (45 ∷ 45 ∷ []) ≡ false → Cases (dashed text)
    rest [] e = absurd (true≢false e)
    rest (x ∷ xs) e = inr (x ∷ xs, refl, refl)

    go : (t : Bool) → (a == 45) ≡ t → (u : Bool) → (b == 45) ≡ u → Cases (a ∷ b ∷ text)
    go false f u g = inl (rw f refl)
    go true f false g = inl (rw (f, g) refl)
    go true f true g =
        let first = is_number a 45 f in
        let second = is_number b 45 g in
        rw (first, second) (rest text (rw (first, second) at e))

first-byte : (b : ℕ) (word : Text) (x : ℕ) (rest : Text) → before_first is_equals (b ∷ word) ≡ x ∷ rest → (is_equals b ≡ false) × (b ≡ x) × (before_first is_equals word ≡ rest)
first-byte b word x rest e = go (is_equals b) refl
  where
    go : (t : Bool) → is_equals b ≡ t → (is_equals b ≡ false) × (b ≡ x) × (before_first is_equals word ≡ rest)
    go true f = let bad : [] ≡ x ∷ rest = sym (before-here b word f) ∙ e in absurd cc
    go false f = let both : b ∷ before_first is_equals word ≡ x ∷ rest = sym (before-next b word f) ∙ e in (f, (cc), (cc))

-- a word that is cut at an equals sign, after two dashes and a name, is a long option
pub long-joined : (word name : Text) → list_any is_equals word ≡ true → before_first is_equals word ≡ dashed name →
    (long_of word ≡ Some (name, Some (after_first is_equals word))) × (bytes_eq word (45 ∷ 45 ∷ []) ≡ false)
long-joined [] name some e = absurd (true≢false (sym some))
long-joined (b ∷ []) name some e = let one = first-byte b [] 45 (45 ∷ name) e in let bad : [] ≡ 45 ∷ name = one.2 in absurd cc
long-joined (b ∷ c ∷ text) name some e =
    let one = first-byte b (c ∷ text) 45 (45 ∷ name) e in
    let two = first-byte c text 45 name one.2 in
    rw (one.1, two.1) (go text (rw (one.1, two.1) at some) two.2)
  where
    go : (text : Text) → list_any is_equals text ≡ true → before_first is_equals text ≡ name →
        (long_of (dashed text) ≡ Some (name, Some (after_first is_equals (dashed text)))) × (bytes_eq (dashed text) (45 ∷ 45 ∷ []) ≡ false)
    go [] some e = absurd (true≢false (sym some))
    go (x ∷ xs) some e = (rw (some, e, after-next 45 (45 ∷ x ∷ xs) refl, after-next 45 (x ∷ xs) refl) refl, refl)

-- a name with two dashes is a long option
pub long-name : (b : ℕ) (rest : Text) → list_any is_equals (dashed (b ∷ rest)) ≡ false →
    (long_of (dashed (b ∷ rest)) ≡ Some (b ∷ rest, None)) × (bytes_eq (dashed (b ∷ rest)) (45 ∷ 45 ∷ []) ≡ false)
long-name b rest none = (rw (none, before-none (b ∷ rest) none) refl, refl)

-- a word without a hyphen in front is no option
pub plain-word : (word : Text) → has_hyphen word ≡ false → (long_of word ≡ None) × (short_of word ≡ None) × (bytes_eq word (45 ∷ 45 ∷ []) ≡ false)
plain-word [] e = (refl, refl, refl)
plain-word (b ∷ word) e = (rw e refl, rw e refl, rw e refl)
