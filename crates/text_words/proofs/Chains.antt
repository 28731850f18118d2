-- Tests of a line one after another: each gives its value exactly where its rule is kept, and else its fault.
use Rattle.std.proofs.Common.{◌≡◌, ℕ, Bool, true, false, cond, ◌&&◌, List, [], ◌∷◌, Result, Ok, Err, ℤ, pos, refl, sym, ap, ◌∙◌, inl, inr, ◌⊎◌}
use Rattle.std.specs.Prelude.{◌≤ℤ◌, ◌<ℤ◌, unsigned_abs, int_le, int_lt}
use Rattle.std.specs.List.{AllByRecursion, list_all}
use Rattle.text_words.specs.Lines.{Line, Word}
use Rattle.text_words.specs.Forms.{◌>>=◌, begins, is_within, limited, below_limit, each_within}
use Rattle.text_words.proofs.Limits.{IsInside, and_true, true_and, le_from, lt_from, le_to, lt_to, within_from, within_to, each_from, each_to}
use Rattle.text_words.proofs.Numerals.{bytes_same, bytes_is}
use Rattle.std.specs.Str.{bytes_eq}

-- the test gives this value where P holds, and else this fault
abbrev pub Tests : {K A : Type 0} → Result A K → K → A → Type 0 → Type 0
Tests m kind value P = ((m ≡ Ok value) × P) ⊎ ((m ≡ Err kind) × (P → ⊥))

untrue : false ≡ true → ⊥
untrue e = cc

pub cond_tests : {K A : Type 0} (b : Bool) (value : A) (kind : K) (P : Type 0) → (b ≡ true → P) → (P → b ≡ true) → Tests (cond b (Ok value) (Err kind)) kind value P
cond_tests true value kind P from to = inl (refl, from refl)
cond_tests false value kind P from to = inr (refl, λ p. untrue (to p))

pub limited-tests : {K : Type 0} (range : K) (low high x : ℤ) → Tests (limited range low high x) range x (IsInside low high x)
unfolding limited
limited-tests range low high x = cond_tests (is_within low high x) x range (IsInside low high x) (within_from low high x) (within_to low high x)

pub below_limit-tests : {K : Type 0} (range : K) (limit : ℕ) (x : ℤ) → Tests (below_limit range limit x) range (unsigned_abs x) ((pos 0 ≤ℤ x) × (x <ℤ pos limit))
unfolding below_limit
below_limit-tests range limit x =
    cond_tests (int_le (pos 0) x && int_lt x (pos limit)) (unsigned_abs x) range ((pos 0 ≤ℤ x) × (x <ℤ pos limit))
    (λ e. let p = and_true (int_le (pos 0) x) (int_lt x (pos limit)) e in (le_from (pos 0) x p.0, lt_from x (pos limit) p.1))
    (λ p. true_and (int_le (pos 0) x) (int_lt x (pos limit)) (le_to (pos 0) x p.0) (lt_to x (pos limit) p.1))

pub each_within-tests : {K : Type 0} (range : K) (low high : ℤ) (xs : List ℤ) → Tests (each_within range low high xs) range tt (AllByRecursion (IsInside low high) xs)
unfolding each_within
each_within-tests range low high xs = cond_tests (list_all (is_within low high) xs) tt range (AllByRecursion (IsInside low high) xs) (each_from low high xs) (each_to low high xs)

-- ---- steps within steps

pub bind_assoc : {K A B C : Type 0} (m : Result A K) (f : A → Result B K) (h : B → Result C K) → ((m >>= f) >>= h) ≡ (m >>= (λ x. f x >>= h))
bind_assoc (Ok x) f h = refl
bind_assoc (Err e) f h = refl

pub bind_same : {K A B : Type 0} (m : Result A K) (f h : A → Result B K) → ((x : A) → f x ≡ h x) → (m >>= f) ≡ (m >>= h)
bind_same (Ok x) f h e = e x
bind_same (Err k) f h e = refl

-- ---- words

pub first_word : (a b : Word) (cs ds : Line) → a ∷ cs ≡ b ∷ ds → a ≡ b
first_word a b cs ds e = cc

pub later_words : (a b : Word) (cs ds : Line) → a ∷ cs ≡ b ∷ ds → cs ≡ ds
later_words a b cs ds e = cc

pub no_words : (word : Word) (words : Line) → [] ≡ word ∷ words → ⊥
no_words word words e = cc

pub true_false : (b : Bool) → b ≡ true → b ≡ false → ⊥
true_false true p q = cc
true_false false p q = cc

pub begins_is : (name : Word) (line : Line) (word : Word) (words : Line) → line ≡ word ∷ words → begins name line ≡ true → word ≡ name
begins_is name line word words e h = bytes_is word name (sym (ap (begins name) e) ∙ h)

pub begins_so : (name : Word) (line : Line) (word : Word) (words : Line) → line ≡ word ∷ words → word ≡ name → begins name line ≡ true
begins_so name line word words e h = ap (begins name) e ∙ ap (λ (w : Word). bytes_eq w name) h ∙ bytes_same name
