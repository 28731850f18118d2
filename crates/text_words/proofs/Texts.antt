-- Texts that are put together in order, and lists from behind.
use Rattle.std.proofs.Common.{◌≡◌, ℕ, zero, suc, ◌+◌, ◌<◌, List, [], ◌∷◌, ◌++◌, reverse, refl, subst, ap, ◌∙◌, arith, append-nil}
use Rattle.std.specs.Prelude.{flat_map}
use Rattle.std.specs.List.{AllByRecursion, range_with_len}
use mathlib.Core.List.{reverse-cons}
use Rattle.std.proofs.lemmas.List.Concat.{flat_map-append}

pub range_push : (a n : ℕ) → range_with_len a (suc n) ≡ range_with_len a n ++ (a + n) ∷ []
range_push a zero = let e : a ≡ a + 0 = omega arith in ap (λ (x : ℕ). x ∷ []) e
range_push a (suc n) =
    let e : a + 1 + n ≡ a + suc n = omega arith in
    ap (λ (x : List ℕ). a ∷ x) (range_push (a + 1) n ∙ ap (λ (x : ℕ). range_with_len (a + 1) n ++ x ∷ []) e)

pub below_push : (n : ℕ) → range_with_len 0 (suc n) ≡ range_with_len 0 n ++ n ∷ []
below_push n = let e : 0 + n ≡ n = omega arith in range_push 0 n ∙ ap (λ (x : ℕ). range_with_len 0 n ++ x ∷ []) e

flat_from : (f g : ℕ → List ℕ) (a n : ℕ) → ((i : ℕ) → a + i < a + n → f (a + i) ≡ g (a + i)) → flat_map f (range_with_len a n) ≡ flat_map g (range_with_len a n)
flat_from f g a zero h = refl
flat_from f g a (suc n) h =
    let e : a + 0 ≡ a = omega arith in
    let here : f a ≡ g a = subst (λ (k : ℕ). f k ≡ g k) e (h 0 (omega arith)) in
    let rest = flat_from f g (a + 1) n (λ i l. let p : a + suc i ≡ a + 1 + i = omega arith in subst (λ (k : ℕ). f k ≡ g k) p (h (suc i) (omega (arith, l)))) in
    ap (λ (l : List ℕ). l ++ flat_map f (range_with_len (a + 1) n)) here ∙ ap (λ (l : List ℕ). g a ++ l) rest

pub flat_below : (f g : ℕ → List ℕ) (n : ℕ) → ((i : ℕ) → i < n → f i ≡ g i) → flat_map f (range_with_len 0 n) ≡ flat_map g (range_with_len 0 n)
flat_below f g n h = flat_from f g 0 n (λ i l. let e : i ≡ 0 + i = omega arith in subst (λ (k : ℕ). f k ≡ g k) e (h i (omega (arith, l))))

pub flat_push : (f : ℕ → List ℕ) (n : ℕ) → flat_map f (range_with_len 0 (suc n)) ≡ flat_map f (range_with_len 0 n) ++ f n
flat_push f n = ap (flat_map f) (below_push n) ∙ flat_map-append f (range_with_len 0 n) (n ∷ []) ∙ ap (λ (l : List ℕ). flat_map f (range_with_len 0 n) ++ l) (append-nil (f n))

pub each_more : {X : Type 0} (P : X → Type 0) (xs : List X) (x : X) → AllByRecursion P xs → P x → AllByRecursion P (xs ++ x ∷ [])
each_more P [] x h k = (k, tt)
each_more P (y ∷ xs) x h k = (h.0, each_more P xs x h.1 k)

pub each_reverse : {X : Type 0} (P : X → Type 0) (xs : List X) → AllByRecursion P xs → AllByRecursion P (reverse xs)
each_reverse P [] h = tt
each_reverse {X} P (x ∷ xs) h = rw (reverse-cons x xs) (each_more P (reverse xs) x (each_reverse P xs h.1) h.0)
