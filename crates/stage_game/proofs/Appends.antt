-- Lists that are made item by item or block by block.
use Rattle.std.proofs.Common.{◌≡◌, ℕ, zero, suc, ◌+◌, ◌<◌, List, [], ◌∷◌, ◌++◌, length, get_or, take, map, flat_map, refl, ap, arith, sym, ◌∙◌, add-one, append_assoc}
use Rattle.std.specs.List.{AllByRecursion, range_with_len}
use Rattle.std.proofs.lemmas.List.{take_more, flat_map_more, map-append}
use Rattle.std.proofs.lemmas.Grind.{flat_map-append}
use Rattle.std.proofs.lemmas.List.Folds.{flat_map-map}
use Rattle.scaled_num.specs.Sums.{below}
use Rattle.scaled_num.proofs.Sums.{each-append, below-each}
use Rattle.stage_game.specs.Pairs.{pairs}

range-more : (a n : ℕ) → range_with_len a (suc n) ≡ range_with_len a n ++ (a + n) ∷ []
range-more a zero = ap (λ (k : ℕ). k ∷ []) (omega arith)
range-more a (suc n) = ap (λ (xs : List ℕ). a ∷ xs) (range-more (a + 1) n ∙ ap (λ (k : ℕ). range_with_len (a + 1) n ++ k ∷ []) (omega arith))

-- one number more below a count
pub below-more : (n : ℕ) → below (n + 1) ≡ below n ++ n ∷ []
below-more n = rw (add-one n) (range-more 0 n ∙ ap (λ (k : ℕ). below n ++ k ∷ []) (omega arith))

-- one item more behind a list
pub item-more : {X Y : Type 0} (f : X → Y) (bs : List Y) (xs : List X) (i : ℕ) (d : X) → i < length xs →
    (bs ++ map f (take i xs)) ++ f (get_or xs i d) ∷ [] ≡ bs ++ map f (take (i + 1) xs)
item-more f bs xs i d l =
    append_assoc bs (map f (take i xs)) (f (get_or xs i d) ∷ [])
    ∙ ap (λ (ys : List _). bs ++ ys) (sym (map-append f (take i xs) (get_or xs i d ∷ [])) ∙ ap (λ (zs : List _). map f zs) (sym (take_more xs i d l)))

-- one number more
pub number-more : {Y : Type 0} (f : ℕ → Y) (bs : List Y) (i : ℕ) → (bs ++ map f (below i)) ++ f i ∷ [] ≡ bs ++ map f (below (i + 1))
number-more f bs i =
    append_assoc bs (map f (below i)) (f i ∷ [])
    ∙ ap (λ (ys : List _). bs ++ ys) (sym (map-append f (below i) (i ∷ [])) ∙ ap (λ (zs : List ℕ). map f zs) (sym (below-more i)))

-- one block more
pub block-more : {X Y : Type 0} (f : X → List Y) (bs : List Y) (xs : List X) (i : ℕ) (d : X) → i < length xs →
    (bs ++ flat_map f (take i xs)) ++ f (get_or xs i d) ≡ bs ++ flat_map f (take (i + 1) xs)
block-more f bs xs i d l = flat_map_more f bs (take i xs) (get_or xs i d) ∙ ap (λ (ys : List _). bs ++ flat_map f ys) (sym (take_more xs i d l))

pub numbers-block-more : {Y : Type 0} (f : ℕ → List Y) (bs : List Y) (i : ℕ) → (bs ++ flat_map f (below i)) ++ f i ≡ bs ++ flat_map f (below (i + 1))
numbers-block-more f bs i = flat_map_more f bs (below i) i ∙ ap (λ (ys : List ℕ). bs ++ flat_map f ys) (sym (below-more i))

pub map-both : {X Y Z : Type 0} (f : Y → Z) (g : X → Y) (xs : List X) → map f (map g xs) ≡ map (λ x. f (g x)) xs
map-both f g [] = refl
map-both f g (x ∷ xs) = ap (λ (ys : List _). f (g x) ∷ ys) (map-both f g xs)

pub map-blocks : {X Y Z : Type 0} (f : Y → Z) (g : X → List Y) (xs : List X) → map f (flat_map g xs) ≡ flat_map (λ x. map f (g x)) xs
map-blocks f g [] = refl
map-blocks f g (x ∷ xs) = map-append f (g x) (flat_map g xs) ∙ ap (λ (ys : List _). map f (g x) ++ ys) (map-blocks f g xs)

pub map-same : {X Y : Type 0} (f g : X → Y) (xs : List X) → AllByRecursion (λ x. f x ≡ g x) xs → map f xs ≡ map g xs
map-same f g [] h = refl
map-same f g (x ∷ xs) h = ap (λ (y : _). y ∷ map f xs) h.0 ∙ ap (λ (ys : List _). g x ∷ ys) (map-same f g xs h.1)

pub blocks-same : {X Y : Type 0} (f g : X → List Y) (xs : List X) → AllByRecursion (λ x. f x ≡ g x) xs → flat_map f xs ≡ flat_map g xs
blocks-same f g [] h = refl
blocks-same f g (x ∷ xs) h = ap (λ (ys : List _). ys ++ flat_map f xs) h.0 ∙ ap (λ (ys : List _). g x ++ ys) (blocks-same f g xs h.1)

-- what is made of two numbers is made of their pair
over-pairs-of : {Y : Type 0} (f : ℕ → ℕ → List Y) (xs ys : List ℕ) →
    flat_map (λ i. flat_map (λ j. f i j) ys) xs ≡ flat_map (λ (p : ℕ × ℕ). f p.0 p.1) (flat_map (λ i. map (λ j. (i, j)) ys) xs)
over-pairs-of f [] ys = refl
over-pairs-of f (x ∷ xs) ys =
    let g : ℕ × ℕ → List _ = λ (p : ℕ × ℕ). f p.0 p.1 in
    ap (λ (zs : List _). flat_map (λ j. f x j) ys ++ zs) (over-pairs-of f xs ys)
    ∙ ap (λ (zs : List _). zs ++ flat_map g (flat_map (λ i. map (λ j. (i, j)) ys) xs)) (sym (flat_map-map g (λ j. (x, j)) ys))
    ∙ sym (flat_map-append g (map (λ j. (x, j)) ys) (flat_map (λ i. map (λ j. (i, j)) ys) xs))

pub over-pairs : {Y : Type 0} (f : ℕ → ℕ → List Y) (m n : ℕ) →
    flat_map (λ i. flat_map (λ j. f i j) (below n)) (below m) ≡ flat_map (λ (p : ℕ × ℕ). f p.0 p.1) (pairs m n)
over-pairs f m n = over-pairs-of f (below m) (below n)

each-of-pairs-of : {Y : Type 0} (f : ℕ → ℕ → Y) (xs ys : List ℕ) →
    flat_map (λ i. map (λ j. f i j) ys) xs ≡ map (λ (p : ℕ × ℕ). f p.0 p.1) (flat_map (λ i. map (λ j. (i, j)) ys) xs)
each-of-pairs-of f xs ys =
    sym (map-blocks (λ (p : ℕ × ℕ). f p.0 p.1) (λ i. map (λ j. (i, j)) ys) xs ∙ blocks-same _ _ xs (each (λ i. map-both (λ (p : ℕ × ℕ). f p.0 p.1) (λ j. (i, j)) ys) xs))
  where
    each : {P : ℕ → Type 0} → ((x : ℕ) → P x) → (xs : List ℕ) → AllByRecursion P xs
    each h [] = tt
    each h (x ∷ xs) = (h x, each h xs)

pub each-of-pairs : {Y : Type 0} (f : ℕ → ℕ → Y) (m n : ℕ) → flat_map (λ i. map (λ j. f i j) (below n)) (below m) ≡ map (λ (p : ℕ × ℕ). f p.0 p.1) (pairs m n)
each-of-pairs f m n = each-of-pairs-of f (below m) (below n)

-- pairs are below their counts
abbrev pub IsInside : ℕ → ℕ → ℕ × ℕ → Type 0
IsInside m n p = (p.0 < m) × (p.1 < n)

pub pairs-inside : (m n : ℕ) → AllByRecursion (IsInside m n) (pairs m n)
pairs-inside m n = blocks (below m) (below-each (λ i. i < m) m (λ i l. l))
  where
    row : (i : ℕ) → i < m → (ys : List ℕ) → AllByRecursion (λ j. j < n) ys → AllByRecursion (IsInside m n) (map (λ j. (i, j)) ys)
    row i l [] h = tt
    row i l (y ∷ ys) h = ((l, h.0), row i l ys h.1)

    blocks : (xs : List ℕ) → AllByRecursion (λ i. i < m) xs → AllByRecursion (IsInside m n) (flat_map (λ i. map (λ j. (i, j)) (below n)) xs)
    blocks [] h = tt
    blocks (x ∷ xs) h = each-append (IsInside m n) (map (λ j. (x, j)) (below n)) _ (row x h.0 (below n) (below-each (λ j. j < n) n (λ j l. l))) (blocks xs h.1)
