-- Texts that grow by a line or a word at a time.
use Rattle.std.proofs.Common.{◌≡◌, ℕ, zero, suc, ◌+◌, ◌<◌, ◌≤◌, List, [], ◌∷◌, ◌++◌, length, get_or, map, take, refl, sym, ap, ◌∙◌, arith, append_assoc, append-nil}
use Rattle.std.specs.Prelude.{flat_map, if◌then◌else◌, Result, Ok, Err, OnOk, is_ok}
use Rattle.text_words.specs.Lines.{line_text}
use Rattle.std.specs.List.{join_with_byte, range_with_len}
use Rattle.std.proofs.lemmas.List.{take_all, take_more}
use Rattle.std.proofs.lemmas.Grind.{flat_map-append}

-- one piece more
pub grown : (old front piece now new : List ℕ) → now ≡ old ++ front → new ≡ now ++ piece → new ≡ old ++ (front ++ piece)
grown old front piece now new h k = k ∙ ap (λ (l : List ℕ). l ++ piece) h ∙ append_assoc old front piece

-- the pieces of the first elements, and of one element more
pub pieces-more : {X : Type 0} (f : X → List ℕ) (xs : List X) (i : ℕ) (d : X) → i < length xs → flat_map f (take (i + 1) xs) ≡ flat_map f (take i xs) ++ f (get_or xs i d)
pieces-more f xs i d lt =
    ap (λ l. flat_map f l) (take_more xs i d lt)
    ∙ flat_map-append f (take i xs) (get_or xs i d ∷ [])
    ∙ ap (λ (l : List ℕ). flat_map f (take i xs) ++ l) (append-nil (f (get_or xs i d)))

pub grown-pieces : {X : Type 0} (f : X → List ℕ) (xs : List X) (i : ℕ) (d : X) (old now new : List ℕ) → i < length xs
    → now ≡ old ++ flat_map f (take i xs) → new ≡ now ++ f (get_or xs i d) → new ≡ old ++ flat_map f (take (i + 1) xs)
grown-pieces f xs i d old now new lt h k =
    grown old (flat_map f (take i xs)) (f (get_or xs i d)) now new h k ∙ ap (λ (l : List ℕ). old ++ l) (sym (pieces-more f xs i d lt))

pub all-pieces : {X : Type 0} (f : X → List ℕ) (xs : List X) (i : ℕ) (old new : List ℕ) → length xs ≤ i
    → new ≡ old ++ flat_map f (take i xs) → new ≡ old ++ flat_map f xs
all-pieces f xs i old new le h = h ∙ ap (λ l. old ++ flat_map f l) (take_all i xs le)

-- the numbers from a on, and one number more
range-more : (a n : ℕ) → range_with_len a (n + 1) ≡ range_with_len a n ++ (a + n) ∷ []
range-more a zero = let e : a + 0 ≡ a = omega arith in rw e refl
range-more a (suc n) =
    let e : suc n + 1 ≡ suc (n + 1) = omega arith in
    let f : a + 1 + n ≡ a + suc n = omega arith in
    ap (range_with_len a) e ∙ ap (λ (l : List ℕ). a ∷ l) (range-more (a + 1) n) ∙ ap (λ (k : ℕ). a ∷ (range_with_len (a + 1) n ++ k ∷ [])) f

pub numbered-more : (f : ℕ → List ℕ) (n : ℕ) → flat_map f (range_with_len 0 (n + 1)) ≡ flat_map f (range_with_len 0 n) ++ f n
numbered-more f n =
    let e : 0 + n ≡ n = omega arith in
    ap (λ l. flat_map f l) (range-more 0 n)
    ∙ flat_map-append f (range_with_len 0 n) ((0 + n) ∷ [])
    ∙ ap (λ (l : List ℕ). flat_map f (range_with_len 0 n) ++ l) (append-nil (f (0 + n)))
    ∙ ap (λ (k : ℕ). flat_map f (range_with_len 0 n) ++ f k) e

pub grown-numbered : (f : ℕ → List ℕ) (n : ℕ) (old now new : List ℕ) → now ≡ old ++ flat_map f (range_with_len 0 n) → new ≡ now ++ f n → new ≡ old ++ flat_map f (range_with_len 0 (n + 1))
grown-numbered f n old now new h k =
    grown old (flat_map f (range_with_len 0 n)) (f n) now new h k ∙ ap (λ (l : List ℕ). old ++ l) (sym (numbered-more f n))

-- pieces of what is made of each element
pub pieces-map : {X Y : Type 0} (f : Y → List ℕ) (h : X → Y) (xs : List X) → flat_map f (map h xs) ≡ flat_map (λ x. f (h x)) xs
pieces-map f h [] = refl
pieces-map f h (x ∷ xs) = ap (λ (l : List ℕ). f (h x) ++ l) (pieces-map f h xs)

-- words joined by spaces: each word but the first stands behind a space
pub joined : {X : Type 0} (f : X → List ℕ) (word : List ℕ) (xs : List X) → join_with_byte 32 (word ∷ map f xs) ≡ word ++ flat_map (λ x. 32 ∷ f x) xs
joined f word [] = sym (append-nil word)
joined f word (x ∷ xs) = ap (λ (l : List ℕ). word ++ (32 ∷ l)) (joined f (f x) xs)

-- a piece before what is written behind it
pub behind : (old now new piece rest : List ℕ) → now ≡ old ++ piece → new ≡ now ++ rest → new ≡ old ++ (piece ++ rest)
behind old now new piece rest h k = k ∙ ap (λ (l : List ℕ). l ++ rest) h ∙ append_assoc old piece rest

-- what an append that went well has written
pub pushed : {T E : Type 0} (r : Result T E) (new more same : List ℕ) → new ≡ (if is_ok r then more else same) → OnOk r (new ≡ more)
pushed (Ok x) new more same h = h
pushed (Err e) new more same h = tt

-- a line: its first word, the other words behind a space each, and a line feed
pub line-made : {X : Type 0} (f : X → List ℕ) (word : List ℕ) (xs : List X) (old first words : List ℕ)
    → first ≡ old ++ word → words ≡ first ++ flat_map (λ x. 32 ∷ f x) xs → words ++ 10 ∷ [] ≡ old ++ line_text (word ∷ map f xs)
line-made f word xs old first words h k =
    ap (λ (l : List ℕ). l ++ 10 ∷ []) (behind old first words word (flat_map (λ x. 32 ∷ f x) xs) h k ∙ ap (λ (l : List ℕ). old ++ l) (sym (joined f word xs)))
    ∙ append_assoc old (join_with_byte 32 (word ∷ map f xs)) (10 ∷ [])

pub map-map : {X Y Z : Type 0} (g : Y → Z) (f : X → Y) (xs : List X) → map (λ x. g (f x)) xs ≡ map g (map f xs)
map-map g f [] = refl
map-map g f (x ∷ xs) = ap (λ l. g (f x) ∷ l) (map-map g f xs)
