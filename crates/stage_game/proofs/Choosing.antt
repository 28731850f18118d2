-- Numbers chosen one by one out of a list of preference.
use Rattle.std.proofs.Common.{◌≡◌, ℕ, ◌+◌, ◌-◌, ◌<◌, ◌≤◌, ◌⊎◌, inl, inr, Bool, true, false, cond, not, ◌==◌, ◌||◌, List, [], ◌∷◌, ◌++◌, filter, get_or, length, take, refl, ap, arith, sym, ◌∙◌}
use Rattle.std.specs.List.{list_any}
use Rattle.std.proofs.lemmas.List.{take_all, take_more, length-append, take-append-le, length-take, get_or-reverse, length-reverse}
use Rattle.std.proofs.lemmas.List.FromFn.{get_or-range_with_len, length-range_with_len}
use Rattle.scaled_num.specs.Sums.{below}
use Rattle.std.proofs.lemmas.List.Elements.{filter-append}
use Rattle.std.proofs.lemmas.Bool.Decides.{eqb_tells}
use Rattle.stage_game.specs.Chosen.{different, downwards, is_among}
use Rattle.stage_game.proofs.Appends.{below-more}

eq-turned : (x k : ℕ) → (x == k) ≡ (k == x)
eq-turned x k = elim (eqb_tells x k) [
  | inl e ↦ elim (eqb_tells k x) [ inl h ↦ e.0 ∙ sym h.0 | inr h ↦ absurd (h.1 (sym e.1)) ]
  | inr e ↦ elim (eqb_tells k x) [ inl h ↦ absurd (e.1 (sym h.1)) | inr h ↦ e.0 ∙ sym h.0 ]
]

-- one number more behind a list: it is one of the different ones unless it is among them
pub different-more : (xs : List ℕ) (k : ℕ) → different (xs ++ k ∷ []) ≡ different xs ++ cond (is_among k xs) [] (k ∷ [])
different-more [] k = refl
different-more (x ∷ xs) k =
    ap (λ (ys : List ℕ). x ∷ filter (λ y. not (y == x)) ys) (different-more xs k)
    ∙ ap (λ (ys : List ℕ). x ∷ ys) (filter-append (λ y. not (y == x)) (different xs) (cond (is_among k xs) [] (k ∷ [])))
    ∙ ap (λ (ys : List ℕ). x ∷ (filter (λ y. not (y == x)) (different xs) ++ ys)) (last (is_among k xs) (eqb_tells k x))
  where
    last : (b : Bool) → (((k == x) ≡ true) × (k ≡ x)) ⊎ (((k == x) ≡ false) × (k ≡ x → ⊥)) →
        filter (λ y. not (y == x)) (cond b [] (k ∷ [])) ≡ cond ((x == k) || b) [] (k ∷ [])
    last true h = elim (x == k) as (λ t. [] ≡ cond (t || true) [] (k ∷ [])) [ true ↦ refl | false ↦ refl ]
    last false (inl h) = rw (eq-turned x k) (rw h.0 refl)
    last false (inr h) = rw (eq-turned x k) (rw h.0 refl)

pub among-filtered : (k x : ℕ) (ys : List ℕ) → (k ≡ x → ⊥) → is_among k (filter (λ y. not (y == x)) ys) ≡ is_among k ys
among-filtered k x [] n = refl
among-filtered k x (y ∷ ys) n = elim (eqb_tells y x) [
  | inl e ↦ rw e.0 (among-filtered k x ys n ∙ other (eqb_tells y k) e.1)
  | inr e ↦ rw e.0 (ap (λ (b : Bool). (y == k) || b) (among-filtered k x ys n))
]
  where
    other : (((y == k) ≡ true) × (y ≡ k)) ⊎ (((y == k) ≡ false) × (y ≡ k → ⊥)) → y ≡ x → is_among k ys ≡ ((y == k) || is_among k ys)
    other (inl h) e = absurd (n (sym h.1 ∙ e))
    other (inr h) e = rw h.0 refl

-- what is among a list is among its different numbers
pub among-different : (k : ℕ) (xs : List ℕ) → is_among k (different xs) ≡ is_among k xs
among-different k [] = refl
among-different k (x ∷ xs) = elim (eqb_tells x k) [
  | inl e ↦ rw e.0 refl
  | inr e ↦ rw e.0 (among-filtered k x (different xs) (λ h. e.1 (sym h)) ∙ among-different k xs)
]

-- a full list stays
pub full-stays : (m : ℕ) (seen : List ℕ) (k : ℕ) → m ≤ length (different seen) → take m (different (seen ++ k ∷ [])) ≡ take m (different seen)
full-stays m seen k l = ap (λ (xs : List ℕ). take m xs) (different-more seen k) ∙ take-append-le m (different seen) (cond (is_among k seen) [] (k ∷ [])) l

-- a number that is there changes nothing
pub there-stays : (m : ℕ) (seen : List ℕ) (k : ℕ) → is_among k seen ≡ true → take m (different (seen ++ k ∷ [])) ≡ take m (different seen)
there-stays m seen k e = ap (λ (xs : List ℕ). take m xs) (different-more seen k ∙ ap (λ (b : Bool). different seen ++ cond b [] (k ∷ [])) e ∙ nothing (different seen))
  where
    nothing : (xs : List ℕ) → xs ++ [] ≡ xs
    nothing [] = refl
    nothing (x ∷ xs) = ap (λ (ys : List ℕ). x ∷ ys) (nothing xs)

-- a new number is added while there is room
pub new-added : (m : ℕ) (seen : List ℕ) (k : ℕ) → is_among k seen ≡ false → length (different seen) < m →
    take m (different (seen ++ k ∷ [])) ≡ take m (different seen) ++ k ∷ []
new-added m seen k e l =
    let more : different (seen ++ k ∷ []) ≡ different seen ++ k ∷ [] = different-more seen k ∙ ap (λ (b : Bool). different seen ++ cond b [] (k ∷ [])) e in
    ap (λ (xs : List ℕ). take m xs) more
    ∙ take_all m (different seen ++ k ∷ []) (rw (length-append (different seen) (k ∷ [])) (omega arith))
    ∙ ap (λ (xs : List ℕ). xs ++ k ∷ []) (sym (take_all m (different seen) (omega arith)))

-- one step of a choice of at most so many: kept is what is chosen so far
pub record IsChosen (m : ℕ) (seen kept : List ℕ) : Type 0 where
  pub is : kept ≡ take m (different seen)

pub choice-full : (m : ℕ) (seen kept : List ℕ) (k : ℕ) → m ≤ length kept → IsChosen m seen kept → IsChosen m (seen ++ k ∷ []) kept
choice-full m seen kept k l h =
    let size : length kept ≤ length (different seen) = shorter kept (ap (λ (xs : List ℕ). length xs) h.is) in
    record { is = h.is ∙ sym (full-stays m seen k (omega arith)) }
  where
    shorter : (xs : List ℕ) → length xs ≡ length (take m (different seen)) → length xs ≤ length (different seen)
    shorter xs e = omega (arith, length-take m (different seen))

pub choice-there : (m : ℕ) (seen kept : List ℕ) (k : ℕ) → is_among k kept ≡ true → length kept < m → IsChosen m seen kept → IsChosen m (seen ++ k ∷ []) kept
choice-there m seen kept k e l h =
    let all : take m (different seen) ≡ different seen = take_all m (different seen) (short (ap (λ (xs : List ℕ). length xs) h.is)) in
    record { is = h.is ∙ sym (there-stays m seen k (sym (among-different k seen) ∙ sym (ap (λ (xs : List ℕ). is_among k xs) (h.is ∙ all)) ∙ e)) }
  where
    short : length kept ≡ length (take m (different seen)) → length (different seen) ≤ m
    short e = omega (arith, length-take m (different seen))

pub choice-new : (m : ℕ) (seen kept : List ℕ) (k : ℕ) → is_among k kept ≡ false → length kept < m → IsChosen m seen kept → IsChosen m (seen ++ k ∷ []) (kept ++ k ∷ [])
choice-new m seen kept k e l h =
    let size : length (different seen) < m = short (ap (λ (xs : List ℕ). length xs) h.is) in
    let all : take m (different seen) ≡ different seen = take_all m (different seen) (omega arith) in
    record { is = ap (λ (xs : List ℕ). xs ++ k ∷ []) h.is ∙ sym (new-added m seen k (sym (among-different k seen) ∙ sym (ap (λ (xs : List ℕ). is_among k xs) (h.is ∙ all)) ∙ e) size) }
  where
    short : length kept ≡ length (take m (different seen)) → length (different seen) < m
    short e = omega (arith, length-take m (different seen))

-- a slice's own test says whether a number is among its numbers
pub among-any : (k : ℕ) (xs : List ℕ) → list_any (λ y. y == k) xs ≡ is_among k xs
among-any k [] = refl
among-any k (x ∷ xs) = ap (λ (b : Bool). (x == k) || b) (among-any k xs)

-- one number more from the last one downwards
pub length-downwards : (n : ℕ) → length (downwards n) ≡ n
length-downwards n = length-reverse (below n) ∙ length-range_with_len 0 n

pub downwards-more : (n i : ℕ) → i < n → take i (downwards n) ++ (n - 1 - i) ∷ [] ≡ take (i + 1) (downwards n)
downwards-more n i l =
    let inside : i < length (below n) = rw (length-range_with_len 0 n) l in
    let there : get_or (downwards n) i 0 ≡ n - 1 - i =
    get_or-reverse (below n) i 0 inside
    ∙ ap (λ (k : ℕ). get_or (below n) (k - 1 - i) 0) (length-range_with_len 0 n)
    ∙ get_or-range_with_len 0 n (n - 1 - i) 0 (omega arith) ∙ omega arith in
    sym (take_more (downwards n) i 0 (rw (length-downwards n) l) ∙ ap (λ (k : ℕ). take i (downwards n) ++ k ∷ []) there)

-- one number more that is preferred, in place of a fact about what is chosen
pub chosen-full : (m : ℕ) (kept : List ℕ) (k : ℕ) → m ≤ length kept → (seen : List ℕ) → kept ≡ take m (different seen) → kept ≡ take m (different (seen ++ k ∷ []))
chosen-full m kept k l seen e = (choice-full m seen kept k l (record { is = e })).is

pub chosen-there : (m : ℕ) (kept : List ℕ) (k : ℕ) → is_among k kept ≡ true → length kept < m → (seen : List ℕ) → kept ≡ take m (different seen) → kept ≡ take m (different (seen ++ k ∷ []))
chosen-there m kept k a l seen e = (choice-there m seen kept k a l (record { is = e })).is

pub chosen-new : (m : ℕ) (kept : List ℕ) (k : ℕ) → is_among k kept ≡ false → length kept < m → (seen : List ℕ) → kept ≡ take m (different seen) → kept ++ k ∷ [] ≡ take m (different (seen ++ k ∷ []))
chosen-new m kept k a l seen e = (choice-new m seen kept k a l (record { is = e })).is

nil-behind : (xs : List ℕ) → xs ++ [] ≡ xs
nil-behind [] = refl
nil-behind (x ∷ xs) = ap (λ (ys : List ℕ). x ∷ ys) (nil-behind xs)

-- one number more below a count: it is there where it is among the numbers
pub risen-there : (numbers : List ℕ) (n : ℕ) → is_among n numbers ≡ true → filter (λ k. is_among k numbers) (below n) ++ n ∷ [] ≡ filter (λ k. is_among k numbers) (below (n + 1))
risen-there numbers n e =
    sym (ap (λ (xs : List ℕ). filter (λ k. is_among k numbers) xs) (below-more n) ∙ filter-append (λ k. is_among k numbers) (below n) (n ∷ [])
    ∙ ap (λ (b : Bool). filter (λ k. is_among k numbers) (below n) ++ cond b (n ∷ []) []) e)

pub risen-other : (numbers : List ℕ) (n : ℕ) → is_among n numbers ≡ false → filter (λ k. is_among k numbers) (below n) ≡ filter (λ k. is_among k numbers) (below (n + 1))
risen-other numbers n e =
    sym (ap (λ (xs : List ℕ). filter (λ k. is_among k numbers) xs) (below-more n) ∙ filter-append (λ k. is_among k numbers) (below n) (n ∷ [])
    ∙ ap (λ (b : Bool). filter (λ k. is_among k numbers) (below n) ++ cond b (n ∷ []) []) e ∙ nil-behind (filter (λ k. is_among k numbers) (below n)))
