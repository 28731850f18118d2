-- The last of a list changed.
use Rattle.std.proofs.Common.{◌≡◌, ℕ, ◌-◌, ◌<◌, List, [], ◌∷◌, ◌++◌, length, map, get_or, set, refl, ap, ◌∙◌, arith}
use Rattle.cert_text.specs.Made.{at_last}

set_end : {A B : Type 0} (view : A → B) (f : B → B) (x : A) (xs : List A) (old new : A) → ((d : A) → old ≡ get_or (x ∷ xs) (length xs) d) → view new ≡ f (view old)
    → map view (set (x ∷ xs) (length xs) new) ≡ at_last f (map view (x ∷ xs))
set_end {A} {B} view f x [] old new at is = ap (λ (b : B). b ∷ []) (is ∙ ap (λ (a : A). f (view a)) (at x))
set_end {A} {B} view f x (y ∷ xs) old new at is = ap (λ (bs : List B). view x ∷ bs) (set_end view f y xs old new at is)

pub last_set : {A B : Type 0} (view : A → B) (f : B → B) (xs : List A) (n : ℕ) (old new : A) → n ≡ length xs → 0 < length xs → ((d : A) → old ≡ get_or xs (n - 1) d) → view new ≡ f (view old)
    → map view (set xs (n - 1) new) ≡ at_last f (map view xs)
last_set view f [] n old new e some at is = absurd (omega arith)
last_set {A} {B} view f (x ∷ xs) n old new e some at is =
    let m : n - 1 ≡ length xs = omega (arith, e) in
    ap (λ (k : ℕ). map view (set (x ∷ xs) k new)) m ∙ set_end view f x xs old new (λ d. at d ∙ ap (λ (k : ℕ). get_or (x ∷ xs) k d) m) is

pub mapped_push : {A B : Type 0} (view : A → B) (xs : List A) (x : A) → map view (xs ++ x ∷ []) ≡ map view xs ++ view x ∷ []
mapped_push view [] x = refl
mapped_push {A} {B} view (y ∷ xs) x = ap (λ (bs : List B). view y ∷ bs) (mapped_push view xs x)
