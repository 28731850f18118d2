-- What the tests of numbers say, for a fault of any kind.
use Rattle.std.proofs.Common.{◌≡◌, ℕ, ◌<◌, Bool, true, false, cond, ◌&&◌, ◌||◌, List, [], ◌∷◌, Option, Some, None, Result, Ok, Err, ℤ, pos, negsuc, refl, sym, ap, subst, ◌∙◌, arith, inl, inr, ◌⊎◌}
use Rattle.std.specs.Prelude.{◌≤ℤ◌, ◌<ℤ◌, unsigned_abs, int_le, int_lt, T, All}
use Rattle.std.specs.List.{AllByRecursion, list_all}
use Rattle.std.specs.Option.{ok_or}
use Rattle.std.proofs.lemmas.Int.{ints}
use Rattle.std.proofs.lemmas.List.Sums.{AllPass-from_list_all}
use Rattle.text_words.specs.Forms.{◌>>=◌, is_within, limited, below_limit, each_within}

-- results

pub bind_ok : {K A B : Type 0} (m : Result A K) (f : A → Result B K) (y : B) → (m >>= f) ≡ Ok y → (x : A) × (m ≡ Ok x) × (f x ≡ Ok y)
bind_ok (Ok x) f y h = (x, refl, h)
bind_ok (Err kind) f y h = absurd cc

pub ok_bind : {K A B : Type 0} (m : Result A K) (f : A → Result B K) (x : A) (y : B) → m ≡ Ok x → f x ≡ Ok y → (m >>= f) ≡ Ok y
ok_bind m f x y e h = rw e h

pub cond_ok : {K A : Type 0} (b : Bool) (x y : A) (kind : K) → cond b (Ok x) (Err kind) ≡ Ok y → (b ≡ true) × (x ≡ y)
cond_ok true x y kind h = (refl, cc)
cond_ok false x y kind h = absurd cc

pub cond_then : {K A : Type 0} (b : Bool) (m : Result A K) (kind : K) (y : A) → cond b m (Err kind) ≡ Ok y → (b ≡ true) × (m ≡ Ok y)
cond_then true m kind y h = (refl, h)
cond_then false m kind y h = absurd cc

pub or_some : {K A : Type 0} (o : Option A) (kind : K) (y : A) → ok_or o kind ≡ Ok y → o ≡ Some y
or_some (Some x) kind y h = cc
or_some None kind y h = absurd cc

-- truths

pub and_true : (a b : Bool) → (a && b) ≡ true → (a ≡ true) × (b ≡ true)
and_true true b h = (refl, h)
and_true false b h = absurd cc

pub true_and : (a b : Bool) → a ≡ true → b ≡ true → (a && b) ≡ true
true_and a b p q = rw p q

pub or_true : (a b : Bool) → (a || b) ≡ true → (a ≡ true) ⊎ (b ≡ true)
or_true true b h = inl refl
or_true false b h = inr h

pub or_last : (a b : Bool) → b ≡ true → (a || b) ≡ true
or_last true b h = refl
or_last false b h = h

-- orders

pub le_from : (a b : ℤ) → int_le a b ≡ true → a ≤ℤ b
le_from a b e = record { le = subst T (sym e) tt }

pub lt_from : (a b : ℤ) → int_lt a b ≡ true → a <ℤ b
lt_from a b e = record { lt = subst T (sym e) tt }

true_from : (b : Bool) → T b → b ≡ true
true_from true t = refl
true_from false t = absurd t

pub le_to : (a b : ℤ) → a ≤ℤ b → int_le a b ≡ true
le_to a b h = true_from (int_le a b) (h.le)

pub lt_to : (a b : ℤ) → a <ℤ b → int_lt a b ≡ true
lt_to a b h = true_from (int_lt a b) (h.lt)

abbrev pub IsInside : ℤ → ℤ → ℤ → Type 0
IsInside low high x = (low ≤ℤ x) × (x ≤ℤ high)

pub within_from : (low high x : ℤ) → is_within low high x ≡ true → IsInside low high x
within_from low high x e = let p = and_true (int_le low x) (int_le x high) e in (le_from low x p.0, le_from x high p.1)

pub within_to : (low high x : ℤ) → IsInside low high x → is_within low high x ≡ true
within_to low high x h = true_and (int_le low x) (int_le x high) (le_to low x h.0) (le_to x high h.1)

pub pos_abs : (x : ℤ) → pos 0 ≤ℤ x → x ≡ pos (unsigned_abs x)
pos_abs (pos n) h = refl
pos_abs (negsuc n) h = absurd (omega (arith, ints, h))

-- the tests of numbers

pub limited-ok : {K : Type 0} (range : K) (low high x y : ℤ) → limited range low high x ≡ Ok y → IsInside low high y × (x ≡ y)
unfolding limited
limited-ok range low high x y h =
    let p = cond_ok (is_within low high x) x y range h in
    (subst (IsInside low high) p.1 (within_from low high x p.0), p.1)

pub limited-to : {K : Type 0} (range : K) (low high x : ℤ) → IsInside low high x → limited range low high x ≡ Ok x
unfolding limited
limited-to range low high x h = rw (within_to low high x h) refl

pub below_limit-ok : {K : Type 0} (range : K) (limit : ℕ) (x : ℤ) (n : ℕ) → below_limit range limit x ≡ Ok n → (n < limit) × (x ≡ pos n)
unfolding below_limit
below_limit-ok range limit x n h =
    let p = cond_ok (int_le (pos 0) x && int_lt x (pos limit)) (unsigned_abs x) n range h in
    let q = and_true (int_le (pos 0) x) (int_lt x (pos limit)) p.0 in
    let e : x ≡ pos n = pos_abs x (le_from (pos 0) x q.0) ∙ ap pos p.1 in
    let l = lt_from x (pos limit) q.1 in
    (omega (arith, ints, l, e), e)

pub below_limit-to : {K : Type 0} (range : K) (limit n : ℕ) → n < limit → below_limit range limit (pos n) ≡ Ok n
unfolding below_limit
below_limit-to range limit n l = rw (true_and (int_le (pos 0) (pos n)) (int_lt (pos n) (pos limit)) (le_to (pos 0) (pos n) (omega (arith, ints))) (lt_to (pos n) (pos limit) (omega (arith, ints)))) refl

pub each_from : (low high : ℤ) (xs : List ℤ) → list_all (is_within low high) xs ≡ true → AllByRecursion (IsInside low high) xs
each_from low high [] e = tt
each_from low high (x ∷ xs) e =
    let p = and_true (is_within low high x) (list_all (is_within low high) xs) e in (within_from low high x p.0, each_from low high xs p.1)

pub each_small : (low high : ℤ) (numbers : List ℤ) → list_all (is_within low high) numbers ≡ true → All (IsInside low high) numbers
each_small low high numbers h = λ k d l. within_from low high _ (AllPass-from_list_all (is_within low high) numbers h k d l)

pub each_to : (low high : ℤ) (xs : List ℤ) → AllByRecursion (IsInside low high) xs → list_all (is_within low high) xs ≡ true
each_to low high [] h = refl
each_to low high (x ∷ xs) h = true_and (is_within low high x) (list_all (is_within low high) xs) (within_to low high x h.0) (each_to low high xs h.1)

pub each_within-ok : {K : Type 0} (range : K) (low high : ℤ) (xs : List ℤ) (u : Unit {0}) → each_within range low high xs ≡ Ok u → AllByRecursion (IsInside low high) xs
unfolding each_within
each_within-ok range low high xs u h = each_from low high xs (cond_ok (list_all (is_within low high) xs) tt u range h).0

pub each_within-to : {K : Type 0} (range : K) (low high : ℤ) (xs : List ℤ) → AllByRecursion (IsInside low high) xs → each_within range low high xs ≡ Ok tt
unfolding each_within
each_within-to range low high xs h = rw (each_to low high xs h) refl
