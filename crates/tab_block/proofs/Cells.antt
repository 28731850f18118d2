-- Rows that lie one after another in a list of cells.
use Rattle.std.proofs.Common.{◌≡◌, ℕ, zero, suc, ◌+◌, ◌*◌, ◌<◌, ◌≤◌, List, [], ◌∷◌, ◌++◌, length, take, drop, get_or, refl, ap, arith, sym, subst, ◌∙◌, append_assoc, length-append, length-drop}
use Rattle.std.specs.Prelude.{ℤ, slice_set, flat_map, ◌-◌, ◌/◌, ◌%◌}
use Rattle.std.proofs.Math.Nat.{mul-le-mul_right, mul_comm}
use Rattle.std.proofs.lemmas.List.{drop-append-le, drop-drop, take-append-drop, take-append-le, take_all}
use Rattle.std.proofs.Math.ListN.{length-take}
use Rattle.std.proofs.Math.Seq.{take-add}
use Rattle.std.specs.List.{AllByRecursion}
use Rattle.tab_block.specs.Rows.{rows_in, written}

pub rows-count : (w n : ℕ) (xs : List ℤ) → length (rows_in w n xs) ≡ n
rows-count w zero xs = refl
rows-count w (suc n) xs = ap suc (rows-count w n (drop w xs))

empty : (xs : List ℤ) → length xs ≡ 0 → xs ≡ []
empty [] e = refl
empty (x ∷ xs) e = absurd (omega (arith, e))

-- one row more behind the others
pub rows-more : (w n : ℕ) (xs row : List ℤ) → length xs ≡ n * w → length row ≡ w → rows_in w (suc n) (xs ++ row) ≡ rows_in w n xs ++ row ∷ []
rows-more w zero xs row e l =
    let none : xs ≡ [] = empty xs (e ∙ omega arith) in
    subst (λ (ys : List ℤ). take w (ys ++ row) ∷ [] ≡ row ∷ []) (sym none) (ap (λ (ys : List ℤ). ys ∷ []) (take_all w row (omega (arith, l))))
rows-more w (suc n) xs row e l =
    let long : w ≤ length xs = omega (arith, e, first w n) in
    let rest : length (drop w xs) ≡ n * w = omega (arith, length-drop w xs, e, first w n) in
    let front : take w (xs ++ row) ≡ take w xs = take-append-le w xs row long in
    let back : drop w (xs ++ row) ≡ drop w xs ++ row = drop-append-le w xs row long in
    let later : rows_in w (suc n) (drop w xs ++ row) ≡ rows_in w n (drop w xs) ++ row ∷ [] = rows-more w n (drop w xs) row rest l in
    ap (λ (ys : List ℤ). ys ∷ rows_in w (suc n) (drop w (xs ++ row))) front ∙ ap (λ (ys : List ℤ). take w xs ∷ rows_in w (suc n) ys) back ∙ ap (λ (rs : List (List ℤ)). take w xs ∷ rs) later
  where
    first : (w n : ℕ) → suc n * w ≡ w + n * w
    first w n = omega arith

-- a row by its number
pub row-is : (w n i : ℕ) (xs : List ℤ) → i < n → get_or (rows_in w n xs) i [] ≡ take w (drop (i * w) xs)
row-is w zero i xs l = absurd (omega arith)
row-is w (suc n) zero xs l = ap (λ (k : ℕ). take w (drop k xs)) (none w)
  where
    none : (w : ℕ) → 0 ≡ 0 * w
    none w = omega arith
row-is w (suc n) (suc i) xs l = row-is w n i (drop w xs) (omega arith) ∙ ap (take w) (drop-drop (i * w) w xs ∙ ap (λ (k : ℕ). drop k xs) (next w i))
  where
    next : (w i : ℕ) → w + i * w ≡ suc i * w
    next w i = omega arith

-- another row at a number
pub rows-set : (w n i : ℕ) (xs row : List ℤ) → i < n → length xs ≡ n * w → length row ≡ w →
    rows_in w n (take (i * w) xs ++ (row ++ drop (i * w + w) xs)) ≡ slice_set (rows_in w n xs) i row
rows-set w zero i xs row l e r = absurd (omega arith)
rows-set w (suc n) zero xs row l e r =
    let at : 0 * w ≡ 0 = none w in
    let front : take w (row ++ drop w xs) ≡ row = take-append-le w row (drop w xs) (omega (arith, r)) ∙ take_all w row (omega (arith, r)) in
    let back : drop w (row ++ drop w xs) ≡ drop w xs = drop-append-le w row (drop w xs) (omega (arith, r)) ∙ ap (λ (ys : List ℤ). ys ++ drop w xs) (empty (drop w row) (omega (arith, length-drop w row, r))) in
    subst (λ (k : ℕ). rows_in w (suc n) (take k xs ++ (row ++ drop (k + w) xs)) ≡ row ∷ rows_in w n (drop w xs)) (sym at)
    (subst (λ (k : ℕ). rows_in w (suc n) (row ++ drop k xs) ≡ row ∷ rows_in w n (drop w xs)) (plain w) (cc))
  where
    none : (w : ℕ) → 0 * w ≡ 0
    none w = omega arith

    plain : (w : ℕ) → w ≡ 0 + w
    plain w = omega arith
rows-set w (suc n) (suc i) xs row l e r =
    let long : w ≤ length xs = omega (arith, e, first w n) in
    let rest : length (drop w xs) ≡ n * w = omega (arith, length-drop w xs, e, first w n) in
    let head : length (take w xs) ≡ w = omega (arith, length-take w xs) in
    let later = rows-set w n i (drop w xs) row (omega arith) rest r in
    let cut : take (suc i * w) xs ≡ take w xs ++ take (i * w) (drop w xs) = ap (λ (k : ℕ). take k xs) (next w i) ∙ take-add w (i * w) xs in
    let end : drop (suc i * w + w) xs ≡ drop (i * w + w) (drop w xs) = ap (λ (k : ℕ). drop k xs) (more w i) ∙ sym (drop-drop (i * w + w) w xs) in
    let whole : take (suc i * w) xs ++ (row ++ drop (suc i * w + w) xs) ≡ take w xs ++ (take (i * w) (drop w xs) ++ (row ++ drop (i * w + w) (drop w xs))) =
    ap (λ (ys : List ℤ). ys ++ (row ++ drop (suc i * w + w) xs)) cut ∙ append_assoc (take w xs) _ _ ∙ ap (λ (ys : List ℤ). take w xs ++ (take (i * w) (drop w xs) ++ (row ++ ys))) end in
    let rests : List ℤ = take (i * w) (drop w xs) ++ (row ++ drop (i * w + w) (drop w xs)) in
    let front : take w (take w xs ++ rests) ≡ take w xs = take-append-le w (take w xs) rests (omega (arith, head)) ∙ take_all w (take w xs) (omega (arith, head)) in
    let back : drop w (take w xs ++ rests) ≡ rests = drop-append-le w (take w xs) rests (omega (arith, head)) ∙ ap (λ (ys : List ℤ). ys ++ rests) (empty (drop w (take w xs)) (omega (arith, length-drop w (take w xs), head))) in
    ap (rows_in w (suc n)) whole ∙ ap (λ (ys : List ℤ). ys ∷ rows_in w n (drop w (take w xs ++ rests))) front ∙ ap (λ (ys : List ℤ). take w xs ∷ rows_in w n ys) back ∙ ap (λ (rs : List (List ℤ)). take w xs ∷ rs) later
  where
    first : (w n : ℕ) → suc n * w ≡ w + n * w
    first w n = omega arith

    next : (w i : ℕ) → suc i * w ≡ w + i * w
    next w i = omega arith

    more : (w i : ℕ) → suc i * w + w ≡ w + (i * w + w)
    more w i = omega arith

-- all rows one after another are the cells
pub cells-are : (w n : ℕ) (xs : List ℤ) → length xs ≡ n * w → flat_map (λ (row : List ℤ). row) (rows_in w n xs) ≡ xs
cells-are w zero xs e = sym (empty xs (e ∙ omega arith))
cells-are w (suc n) xs e =
    let rest : length (drop w xs) ≡ n * w = omega (arith, length-drop w xs, e, first w n) in
    ap (λ (ys : List ℤ). take w xs ++ ys) (cells-are w n (drop w xs) rest) ∙ take-append-drop w xs
  where
    first : (w n : ℕ) → suc n * w ≡ w + n * w
    first w n = omega arith

-- where a row lies
pub inside : (w n i s m : ℕ) → i < n → s ≡ i * w → m ≡ n * w → s + w ≤ m
inside w n i s m l e h =
    let rows : (i + 1) * w ≤ n * w = mul-le-mul_right w (omega arith) in
    let more : (i + 1) * w ≡ i * w + w = next w i in
    omega arith
  where
    next : (w i : ℕ) → (i + 1) * w ≡ i * w + w
    next w i = omega arith

pub row-here : (w n i s : ℕ) (xs ys : List ℤ) → i < n → s ≡ i * w → ys ≡ xs → take (s + w - s) (drop s ys) ≡ get_or (rows_in w n xs) i []
row-here w n i s xs ys l e same =
    let few : s + w - s ≡ w = omega arith in
    ap (λ (k : ℕ). take k (drop s ys)) few ∙ ap (λ (zs : List ℤ). take w (drop s zs)) same ∙ ap (λ (k : ℕ). take w (drop k xs)) e ∙ sym (row-is w n i xs l)

-- there is room for one row more
pub room-for : (cells w n : ℕ) → 1 ≤ w → 1 ≤ cells / w - n → (n + 1) * w ≤ cells
room-for cells w n some room =
    let whole : w * (cells / w) + cells % w ≡ cells = omega arith in
    let rows : (n + 1) * w ≤ (cells / w) * w = mul-le-mul_right w (omega arith) in
    let turned : (cells / w) * w ≡ w * (cells / w) = mul_comm (cells / w) w in
    omega arith

-- the same, where the count is one more
pub rows-grown : (w n : ℕ) (xs row ys : List ℤ) → length xs ≡ n * w → length row ≡ w → ys ≡ xs ++ row → rows_in w (n + 1) ys ≡ rows_in w n xs ++ row ∷ []
rows-grown w n xs row ys e l same = ap (rows_in w (n + 1)) same ∙ ap (λ (k : ℕ). rows_in w k (xs ++ row)) (next n) ∙ rows-more w n xs row e l
  where
    next : (n : ℕ) → n + 1 ≡ suc n
    next n = omega arith

pub cells-grown : (w n : ℕ) (xs row ys : List ℤ) → length xs ≡ n * w → length row ≡ w → ys ≡ xs ++ row → length ys ≡ (n + 1) * w
cells-grown w n xs row ys e l same = ap length same ∙ length-append xs row ∙ omega (arith, e, l, next n w)
  where
    next : (n w : ℕ) → (n + 1) * w ≡ n * w + w
    next n w = omega arith

-- the rows where cells are written over others from the start of a row on
pub rows-written : (w n i s m : ℕ) (xs new : List ℤ) → length xs ≡ n * w → s ≡ i * w → m ≡ length xs → s ≤ m →
    let ys = take s xs ++ (new ++ drop (length new) (drop s xs)) in
    rows_in w n (take m (ys ++ drop (length ys) xs)) ≡ rows_in w (length (rows_in w n xs)) (written (flat_map (λ (row : List ℤ). row) (rows_in w n xs)) (i * w) new)
rows-written w n i s m xs new long at end inside =
    let ys : List ℤ = take s xs ++ (new ++ drop (length new) (drop s xs)) in
    let all : flat_map (λ (row : List ℤ). row) (rows_in w n xs) ≡ xs = cells-are w n xs long in
    let many : m ≤ length ys =
    omega (arith, end, length-append (take s xs) (new ++ drop (length new) (drop s xs)), length-append new (drop (length new) (drop s xs)), length-take s xs, length-drop (length new) (drop s xs), length-drop s xs) in
    let here : take m (ys ++ drop (length ys) xs) ≡ written xs (i * w) new =
    take-append-le m ys (drop (length ys) xs) many ∙ ap (λ (k : ℕ). take k ys) end ∙ ap (λ (k : ℕ). written xs k new) at in
    ap (rows_in w n) (here ∙ ap (λ (zs : List ℤ). written zs (i * w) new) (sym all)) ∙ ap (λ (k : ℕ). rows_in w k (written (flat_map (λ (row : List ℤ). row) (rows_in w n xs)) (i * w) new)) (sym (rows-count w n xs))

-- each row has the width
pub rows-wide : (w n : ℕ) (xs : List ℤ) → length xs ≡ n * w → AllByRecursion (λ (row : List ℤ). length row ≡ w) (rows_in w n xs)
rows-wide w zero xs e = tt
rows-wide w (suc n) xs e =
    let rest : length (drop w xs) ≡ n * w = omega (arith, length-drop w xs, e, first w n) in
    (omega (arith, length-take w xs, e, first w n), rows-wide w n (drop w xs) rest)
  where
    first : (w n : ℕ) → suc n * w ≡ w + n * w
    first w n = omega arith

-- as many cells as the width, written from the start of a row on, are that row
pub row-written : (w n i : ℕ) (xs new : List ℤ) → i < n → length xs ≡ n * w → length new ≡ w →
    rows_in w (length (rows_in w n xs)) (written (flat_map (λ (row : List ℤ). row) (rows_in w n xs)) (i * w) new) ≡ slice_set (rows_in w n xs) i new
row-written w n i xs new l long wide =
    let all : flat_map (λ (row : List ℤ). row) (rows_in w n xs) ≡ xs = cells-are w n xs long in
    let within : i * w + w ≤ length xs = inside w n i (i * w) (length xs) l refl long in
    let rest : drop (length new) (drop (i * w) xs) ≡ drop (i * w + w) xs = drop-drop (length new) (i * w) xs ∙ ap (λ (k : ℕ). drop (i * w + k) xs) wide in
    let ys : List ℤ = take (i * w) xs ++ (new ++ drop (i * w + w) xs) in
    let many : length ys ≤ length xs =
    omega (arith, within, wide, length-append (take (i * w) xs) (new ++ drop (i * w + w) xs), length-append new (drop (i * w + w) xs), length-take (i * w) xs, length-drop (i * w + w) xs) in
    let here : written xs (i * w) new ≡ ys = ap (λ (zs : List ℤ). take (length xs) (take (i * w) xs ++ (new ++ zs))) rest ∙ take_all (length xs) ys many in
    ap (λ (k : ℕ). rows_in w k (written (flat_map (λ (row : List ℤ). row) (rows_in w n xs)) (i * w) new)) (rows-count w n xs)
    ∙ ap (λ (zs : List ℤ). rows_in w n (written zs (i * w) new)) all ∙ ap (rows_in w n) here ∙ rows-set w n i xs new l long wide
