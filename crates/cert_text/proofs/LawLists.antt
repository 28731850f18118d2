-- Lists by their indices: texts of members in order, changed last members, branches from behind.
use Rattle.std.proofs.Common.{◌≡◌, ℕ, zero, suc, ◌+◌, ◌<◌, Bool, true, false, cond, ◌&&◌, List, [], ◌∷◌, ◌++◌, reverse, length, map, get_or, ℤ, pos, refl, sym, ap, subst, ◌∙◌, arith, add-one}
use Rattle.std.specs.Prelude.{flat_map, ◌+ℤ◌, ◌==◌, slice_index_or}
use Rattle.std.specs.List.{AllByRecursion, range_with_len}
use mathlib.Core.List.{reverse-cons}
use Rattle.std.proofs.lemmas.List.{get_or_append_left, get_or_at}
use Rattle.std.proofs.lemmas.Int.{ints}
use Rattle.scaled_num.specs.Sums.{below, total}
use Rattle.scaled_num.proofs.Sums.{below-each}
use Rattle.game_model.specs.Branches.{Branch, IsBranchBefore, AreRising, branches_at}
use Rattle.cert_text.specs.Made.{at_last}
use Rattle.text_words.proofs.Texts.{flat_below, each_more}
use Rattle.text_words.proofs.Texts as texts

-- the last member changed

pub at_last_is : {X : Type 0} (f : X → X) (xs : List X) (x : X) → at_last f (xs ++ x ∷ []) ≡ xs ++ f x ∷ []
at_last_is f [] x = refl
at_last_is f (y ∷ []) x = refl
at_last_is {X} f (y ∷ z ∷ xs) x = ap (λ (ys : List X). y ∷ ys) (at_last_is f (z ∷ xs) x)

pub length_more : {X : Type 0} (xs : List X) (x : X) → length (xs ++ x ∷ []) ≡ length xs + 1
length_more [] x = refl
length_more (y ∷ xs) x = omega (arith, length_more xs x)

-- texts in order

pub flat_push : (f : ℕ → List ℕ) (n : ℕ) → flat_map f (below (n + 1)) ≡ flat_map f (below n) ++ f n
flat_push f n = let e : n + 1 ≡ suc n = omega arith in ap (λ (k : ℕ). flat_map f (below k)) e ∙ texts.flat_push f n

-- the texts of members by their numbers
abbrev pub member_texts : {X : Type 0} → (ℕ → X → List ℕ) → X → List X → List ℕ
member_texts f d xs = flat_map (λ i. f i (slice_index_or xs i d)) (below (length xs))

pub texts_more : {X : Type 0} (f : ℕ → X → List ℕ) (d : X) (xs : List X) (x : X) → member_texts f d (xs ++ x ∷ []) ≡ member_texts f d xs ++ f (length xs) x
texts_more {X} f d xs x =
    let new : ℕ → List ℕ = λ i. f i (get_or (xs ++ x ∷ []) i d) in
    let old : ℕ → List ℕ = λ i. f i (get_or xs i d) in
    let n = length xs in
    ap (λ (k : ℕ). flat_map new (below k)) (length_more xs x)
    ∙ flat_push new n
    ∙ ap (λ (l : List ℕ). l ++ new n) (flat_below new old n (λ i lt. ap (f i) (get_or_append_left xs (x ∷ []) d i lt)))
    ∙ ap (λ (y : X). flat_map old (below n) ++ f n y) (get_or_at xs x [] d n refl)

map_same : {X : Type 0} (f g : ℕ → X) (xs : List ℕ) → AllByRecursion (λ x. f x ≡ g x) xs → map f xs ≡ map g xs
map_same f g [] h = refl
map_same {X} f g (x ∷ xs) h = ap (λ (y : X). y ∷ map f xs) h.0 ∙ ap (λ (ys : List X). g x ∷ ys) (map_same f g xs h.1)

pub map_below : {X : Type 0} (f g : ℕ → X) (n : ℕ) → ((i : ℕ) → i < n → f i ≡ g i) → map f (below n) ≡ map g (below n)
map_below f g n h = map_same f g (below n) (below-each (λ i. f i ≡ g i) n h)

map_shift : {X : Type 0} (f : ℕ → X) (a n : ℕ) → map f (range_with_len (a + 1) n) ≡ map (λ i. f (suc i)) (range_with_len a n)
map_shift f a zero = refl
map_shift {X} f a (suc n) = rw (add-one a) (ap (λ (ys : List X). f (suc a) ∷ ys) (rw (← (add-one a)) (map_shift f (a + 1) n)))

pub map_indices : {X : Type 0} (d : X) (xs : List X) → map (λ i. get_or xs i d) (below (length xs)) ≡ xs
map_indices d [] = refl
map_indices {X} d (x ∷ xs) = ap (λ (ys : List X). x ∷ ys) (map_shift (λ i. get_or (x ∷ xs) i d) 0 (length xs) ∙ map_indices d xs)

-- lists from behind

-- branches of which the latest stands first
abbrev pub HeadBefore : List Branch → Branch → Type 0
HeadBefore [] b = Unit {0}
HeadBefore (d ∷ back) b = IsBranchBefore d b

abbrev pub Falls : List Branch → Type 0
Falls [] = Unit {0}
Falls (b ∷ back) = HeadBefore back b × Falls back

rising_push : (xs : List Branch) (m l : Branch) → AreRising (xs ++ m ∷ []) → IsBranchBefore m l → AreRising ((xs ++ m ∷ []) ++ l ∷ [])
rising_push [] m l h k = (k, tt)
rising_push (x ∷ []) m l h k = (h.0, (k, tt))
rising_push (x ∷ y ∷ xs) m l h k = (h.0, rising_push (y ∷ xs) m l h.1 k)

pub rising_reverse : (back : List Branch) → Falls back → AreRising (reverse back)
rising_reverse [] h = tt
rising_reverse (l ∷ []) h = tt
rising_reverse (l ∷ m ∷ back) h =
    let e : reverse (l ∷ m ∷ back) ≡ (reverse back ++ m ∷ []) ++ l ∷ [] = reverse-cons l (m ∷ back) ∙ ap (λ (xs : List Branch). xs ++ l ∷ []) (reverse-cons m back) in
    subst AreRising (sym e) (rising_push (reverse back) m l (subst AreRising (reverse-cons m back) (rising_reverse (m ∷ back) h.1)) h.0)

-- the weight of the branches after an own action and an observation
abbrev pub weight_at : List Branch → ℕ → ℕ → ℤ
weight_at back a o = total (λ (b : Branch). b.weight) (branches_at back a o)

hit_by : (b : Branch) (back : List Branch) (a o : ℕ) (x : Bool) → ((b.own == a) && (b.seen == o)) ≡ x → weight_at (b ∷ back) a o ≡ total (λ (d : Branch). d.weight) (cond x (b ∷ branches_at back a o) (branches_at back a o))
hit_by b back a o x e = ap (λ (y : Bool). total (λ (d : Branch). d.weight) (cond y (b ∷ branches_at back a o) (branches_at back a o))) e

pub weight_hit : (b : Branch) (back : List Branch) (a o : ℕ) → ((b.own == a) && (b.seen == o)) ≡ true → weight_at (b ∷ back) a o ≡ b.weight +ℤ weight_at back a o
weight_hit b back a o e = hit_by b back a o true e

pub weight_miss : (b : Branch) (back : List Branch) (a o : ℕ) → ((b.own == a) && (b.seen == o)) ≡ false → weight_at (b ∷ back) a o ≡ weight_at back a o
weight_miss b back a o e = hit_by b back a o false e

weight_append_by : (b : Branch) (xs ys : List Branch) (a o : ℕ) (x : Bool) → ((b.own == a) && (b.seen == o)) ≡ x → weight_at (xs ++ ys) a o ≡ weight_at xs a o +ℤ weight_at ys a o
    → weight_at (b ∷ (xs ++ ys)) a o ≡ weight_at (b ∷ xs) a o +ℤ weight_at ys a o
weight_append_by b xs ys a o true e h = omega (arith, ints, weight_hit b (xs ++ ys) a o e, weight_hit b xs a o e, h)
weight_append_by b xs ys a o false e h = omega (arith, ints, weight_miss b (xs ++ ys) a o e, weight_miss b xs a o e, h)

pub weight_append : (xs ys : List Branch) (a o : ℕ) → weight_at (xs ++ ys) a o ≡ weight_at xs a o +ℤ weight_at ys a o
weight_append [] ys a o = omega (arith, ints)
weight_append (b ∷ xs) ys a o = weight_append_by b xs ys a o ((b.own == a) && (b.seen == o)) refl (weight_append xs ys a o)

weight_one : (b : Branch) (back : List Branch) (a o : ℕ) (x : Bool) → ((b.own == a) && (b.seen == o)) ≡ x → weight_at (b ∷ []) a o +ℤ weight_at back a o ≡ weight_at (b ∷ back) a o
weight_one b back a o true e = omega (arith, ints, weight_hit b [] a o e, weight_hit b back a o e)
weight_one b back a o false e = omega (arith, ints, weight_miss b [] a o e, weight_miss b back a o e)

pub weight_reverse : (back : List Branch) (a o : ℕ) → weight_at (reverse back) a o ≡ weight_at back a o
weight_reverse [] a o = refl
weight_reverse (b ∷ back) a o =
    let p : weight_at (reverse (b ∷ back)) a o ≡ weight_at (reverse back ++ b ∷ []) a o = ap (λ (xs : List Branch). weight_at xs a o) (reverse-cons b back) in
    omega (arith, ints, p, weight_append (reverse back) (b ∷ []) a o, weight_reverse back a o, weight_one b back a o ((b.own == a) && (b.seen == o)) refl)

-- a list of nothing lacks nothing at each index
pub at_none : (xs : List ℤ) → AllByRecursion (λ x. x ≡ pos 0) xs → (i : ℕ) → slice_index_or xs i (pos 0) ≡ pos 0
at_none [] h i = refl
at_none (x ∷ xs) h zero = h.0
at_none (x ∷ xs) h (suc i) = at_none xs h.1 i

pub none_at : (xs : List ℤ) → ((i : ℕ) → i < length xs → slice_index_or xs i (pos 0) ≡ pos 0) → AllByRecursion (λ x. x ≡ pos 0) xs
none_at [] h = tt
none_at (x ∷ xs) h = (h 0 (omega arith), none_at xs (λ i l. h (suc i) (omega arith)))
