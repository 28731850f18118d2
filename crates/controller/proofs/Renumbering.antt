-- New numbers: those of kept members rise, and the members that are kept stand at them.
use Rattle.std.proofs.Common.{◌≡◌, ℕ, zero, suc, ◌+◌, ◌-◌, ◌<◌, ◌≤◌, Bool, true, false, cond, List, [], ◌∷◌, ◌++◌, length, get_or, map, refl, ap, arith, sym, subst, ◌∙◌, inl, inr, filter, add-one}
use Rattle.std.specs.Prelude.{IsTrue}
use Rattle.std.specs.List.{AllByRecursion, range_with_len}
use Rattle.std.proofs.lemmas.List.{append-nil, get_or_append_left, length-append, length-map, map-append}
use Rattle.std.proofs.lemmas.List.Elements.{filter-append}
use Rattle.std.proofs.lemmas.List.Sums.{length-filter}
use Rattle.std.proofs.Math.Seq.{get_or-append_seam}
use Rattle.scaled_num.specs.Sums.{below}
use Rattle.scaled_num.proofs.Each.{get-map}
use Rattle.scaled_num.proofs.Sums.{below-each, each-at, each-map}
use Rattle.game_model.proofs.Least.{last-or}
use Rattle.game_model.proofs.Pay.{each-from}
use Rattle.controller.specs.Export.{kept_below, new_number}

-- ---- one number more
range-more : (a n : ℕ) → range_with_len a (suc n) ≡ range_with_len a n ++ (a + n) ∷ []
range-more a zero = ap (λ (k : ℕ). k ∷ []) (omega arith)
range-more a (suc n) =
    ap (λ (ks : List ℕ). a ∷ ks) (range-more (a + 1) n)
    ∙ ap (λ (k : ℕ). a ∷ (range_with_len (a + 1) n ++ k ∷ [])) (omega arith)

pub below-more : (n : ℕ) → below (suc n) ≡ below n ++ n ∷ []
below-more n = range-more 0 n ∙ ap (λ (k : ℕ). below n ++ k ∷ []) (omega arith)

pub kept-more : (kept : ℕ → Bool) (n : ℕ) → kept_below kept (suc n) ≡ kept_below kept n ++ cond (kept n) (n ∷ []) []
kept-more kept n = ap (filter kept) (below-more n) ∙ filter-append kept (below n) (n ∷ [])

pub kept-length : (kept : ℕ → Bool) (n : ℕ) → length (kept_below kept n) ≡ new_number kept n
kept-length kept n = length-filter kept (below n)

pub number-more : (kept : ℕ → Bool) (n : ℕ) → new_number kept (suc n) ≡ new_number kept n + cond (kept n) 1 0
number-more kept n =
    sym (kept-length kept (suc n))
    ∙ ap length (kept-more kept n)
    ∙ length-append (kept_below kept n) (cond (kept n) (n ∷ []) [])
    ∙ ap (λ (k : ℕ). k + length (cond (kept n) (n ∷ []) [])) (kept-length kept n)
    ∙ ap (λ (k : ℕ). new_number kept n + k) (by (kept n))
  where
    by : (b : Bool) → length (cond b (n ∷ []) []) ≡ cond b 1 0
    by true = refl
    by false = refl

-- and one that is kept
pub number-next : (kept : ℕ → Bool) (n : ℕ) → IsTrue (kept n) → new_number kept (suc n) ≡ new_number kept n + 1
number-next kept n t = number-more kept n ∙ ap (λ (b : Bool). new_number kept n + cond b 1 0) t

-- a kept member's number is below that of all that come later
number-up : (kept : ℕ → Bool) (n more : ℕ) → new_number kept n ≤ new_number kept (n + more)
number-up kept n zero = let same : n ≡ n + 0 = omega arith in subst (λ (k : ℕ). new_number kept n ≤ new_number kept k) same (omega arith)
number-up kept n (suc more) =
    let next : suc (n + more) ≡ n + suc more = omega arith in
    subst (λ (k : ℕ). new_number kept n ≤ new_number kept k) next (omega (arith, number-up kept n more, number-more kept (n + more)))

pub number-most : (kept : ℕ → Bool) (m n : ℕ) → m ≤ n → new_number kept m ≤ new_number kept n
number-most kept m n l =
    let same : m + (n - m) ≡ n = omega arith in
    subst (λ (k : ℕ). new_number kept m ≤ new_number kept k) same (number-up kept m (n - m))

pub number-rises : (kept : ℕ → Bool) (m n : ℕ) → m < n → IsTrue (kept m) → new_number kept m < new_number kept n
number-rises kept m n l t = omega (arith, number-next kept m t, number-most kept (suc m) n (omega arith))

-- there are at most as many kept ones as members
pub number-few : (kept : ℕ → Bool) (n : ℕ) → new_number kept n ≤ n
number-few kept zero = omega arith
number-few kept (suc n) = omega (arith, number-few kept n, number-more kept n, small (kept n))
  where
    small : (b : Bool) → cond b 1 0 ≤ 1
    small true = omega arith
    small false = omega arith

-- where all first members are kept, they keep their numbers
pub number-same : (kept : ℕ → Bool) (n : ℕ) → ((j : ℕ) → j < n → IsTrue (kept j)) → new_number kept n ≡ n
number-same kept zero h = refl
number-same kept (suc n) h =
    omega (arith, number-next kept n (h n (omega arith)), number-same kept n (λ j l. h j (omega arith)))

-- ---- the kept members
-- a kept member stands at its new number
pub kept-at : (kept : ℕ → Bool) (n j d : ℕ) → j < n → IsTrue (kept j) → get_or (kept_below kept n) (new_number kept j) d ≡ j
kept-at kept zero j d l t = absurd (omega arith)
kept-at kept (suc n) j d l t =
    ap (λ (ks : List ℕ). get_or ks (new_number kept j) d) (kept-more kept n)
    ∙ elim (last-or j n (subst (λ (k : ℕ). j < k) (sym (add-one n)) l)) as (λ _. get_or (kept_below kept n ++ cond (kept n) (n ∷ []) []) (new_number kept j) d ≡ j) [
      | inl before ↦
          get_or_append_left (kept_below kept n) (cond (kept n) (n ∷ []) []) d (new_number kept j) (subst (λ (k : ℕ). new_number kept j < k) (sym (kept-length kept n)) (number-rises kept j n before t))
          ∙ kept-at kept n j d before t
      | inr e ↦ last e
    ]
  where
    last : j ≡ n → get_or (kept_below kept n ++ cond (kept n) (n ∷ []) []) (new_number kept j) d ≡ j
    last e =
        let here : kept n ≡ true = ap kept (sym e) ∙ t in
        ap (λ (b : Bool). get_or (kept_below kept n ++ cond b (n ∷ []) []) (new_number kept j) d) here
        ∙ ap (λ (k : ℕ). get_or (kept_below kept n ++ n ∷ []) k d) (ap (new_number kept) e ∙ sym (kept-length kept n))
        ∙ get_or-append_seam (kept_below kept n) n [] d
        ∙ sym e

-- each of them is a member that is kept
passes : (kept : ℕ → Bool) (n x : ℕ) (xs : List ℕ) (b : Bool) → kept x ≡ b → x < n → AllByRecursion (λ j. (j < n) × IsTrue (kept j)) xs → AllByRecursion (λ j. (j < n) × IsTrue (kept j)) (cond b (x ∷ xs) xs)
passes kept n x xs true e l h = ((l, e), h)
passes kept n x xs false e l h = h

passing : (kept : ℕ → Bool) (n : ℕ) (xs : List ℕ) → AllByRecursion (λ j. j < n) xs → AllByRecursion (λ j. (j < n) × IsTrue (kept j)) (filter kept xs)
passing kept n [] h = tt
passing kept n (x ∷ xs) h = passes kept n x (filter kept xs) (kept x) refl h.0 (passing kept n xs h.1)

pub each-kept : (kept : ℕ → Bool) (n : ℕ) → AllByRecursion (λ j. (j < n) × IsTrue (kept j)) (kept_below kept n)
each-kept kept n = passing kept n (below n) (below-each (λ j. j < n) n (λ j l. l))

-- what a list has of the first kept members, and of one more that is kept or not
pub keep-no : {X : Type 0} (f : ℕ → X) (kept : ℕ → Bool) (n : ℕ) (xs : List X) → xs ≡ map f (kept_below kept n) → kept n ≡ false → xs ≡ map f (kept_below kept (n + 1))
keep-no {X} f kept n xs before not_kept =
    before
    ∙ ap (λ (ks : List ℕ). map f ks) (sym (append-nil (kept_below kept n)))
    ∙ ap (λ (b : Bool). map f (kept_below kept n ++ cond b (n ∷ []) [])) (sym not_kept)
    ∙ ap (λ (ks : List ℕ). map f ks) (sym (kept-more kept n) ∙ ap (kept_below kept) (sym (add-one n)))

pub keep-yes : {X : Type 0} (f : ℕ → X) (kept : ℕ → Bool) (n : ℕ) (xs ys : List X) (x : X) → xs ≡ map f (kept_below kept n) → ys ≡ xs ++ x ∷ [] → x ≡ f n → kept n ≡ true →
    ys ≡ map f (kept_below kept (n + 1))
keep-yes {X} f kept n xs ys x before added same is_kept =
    added
    ∙ ap (λ (zs : List X). zs ++ x ∷ []) before
    ∙ ap (λ (y : X). map f (kept_below kept n) ++ y ∷ []) same
    ∙ sym (map-append f (kept_below kept n) (n ∷ []))
    ∙ ap (λ (b : Bool). map f (kept_below kept n ++ cond b (n ∷ []) [])) (sym is_kept)
    ∙ ap (λ (ks : List ℕ). map f ks) (sym (kept-more kept n) ∙ ap (kept_below kept) (sym (add-one n)))

-- fewer than so many are kept of the first ones
pub keep-few : {X : Type 0} (f : ℕ → X) (kept : ℕ → Bool) (n : ℕ) (xs : List X) → xs ≡ map f (kept_below kept n) → length xs ≤ n
keep-few f kept n xs e = let long : length xs ≡ new_number kept n = ap length e ∙ length-map (kept_below kept n) f ∙ kept-length kept n in omega (arith, number-few kept n)

-- the new numbers of the first members and of one more
pub numbers-more : (kept : ℕ → Bool) (n count : ℕ) (xs ys : List ℕ) → (xs ≡ map (new_number kept) (below n)) × (count ≡ new_number kept n) → ys ≡ xs ++ count ∷ [] →
    (ys ≡ map (new_number kept) (below (n + 1))) × (count + cond (kept n) 1 0 ≡ new_number kept (n + 1))
numbers-more kept n count xs ys h added = (
  added
      ∙ ap (λ (zs : List ℕ). zs ++ count ∷ []) h.0
      ∙ ap (λ (k : ℕ). map (new_number kept) (below n) ++ k ∷ []) h.1
      ∙ sym (map-append (new_number kept) (below n) (n ∷ []))
      ∙ ap (λ (ks : List ℕ). map (new_number kept) ks) (sym (below-more n) ∙ ap below (sym (add-one n))),
  ap (λ (k : ℕ). k + cond (kept n) 1 0) h.1 ∙ sym (number-more kept n) ∙ ap (new_number kept) (sym (add-one n)),
)

-- ---- lists of kept members, each changed by f
abbrev pub members_kept : {X : Type 0} → (X → X) → X → (ℕ → Bool) → List X → List X
members_kept f d kept xs = map (λ j. f (get_or xs j d)) (kept_below kept (length xs))

pub members-long : {X : Type 0} (f : X → X) (d : X) (kept : ℕ → Bool) (xs : List X) → length (members_kept f d kept xs) ≡ new_number kept (length xs)
members-long f d kept xs = length-map (kept_below kept (length xs)) (λ j. f (get_or xs j d)) ∙ kept-length kept (length xs)

pub member-at : {X : Type 0} (f : X → X) (d : X) (kept : ℕ → Bool) (xs : List X) (j : ℕ) → j < length xs → IsTrue (kept j) → get_or (members_kept f d kept xs) (new_number kept j) d ≡ f (get_or xs j d)
member-at f d kept xs j l t =
    get-map (λ j. f (get_or xs j d)) (kept_below kept (length xs)) (new_number kept j) 0 d (subst (λ (k : ℕ). new_number kept j < k) (sym (kept-length kept (length xs))) (number-rises kept j (length xs) l t))
    ∙ ap (λ (k : ℕ). f (get_or xs k d)) (kept-at kept (length xs) j 0 l t)

-- the member that stands at a new number
pub record Old {X : Type 0} (f : X → X) (d : X) (kept : ℕ → Bool) (xs : List X) (i : ℕ) : Type 0 where
  pub number : ℕ
  pub inside : number < length xs
  pub is_kept : IsTrue (kept number)
  pub is : get_or (members_kept f d kept xs) i d ≡ f (get_or xs number d)

pub old-of : {X : Type 0} (f : X → X) (d : X) (kept : ℕ → Bool) (xs : List X) (i : ℕ) → i < length (members_kept f d kept xs) → Old f d kept xs i
old-of f d kept xs i l =
    let li : i < length (kept_below kept (length xs)) = subst (λ (k : ℕ). i < k) (length-map (kept_below kept (length xs)) (λ j. f (get_or xs j d))) l in
    let here = each-at (λ j. (j < length xs) × IsTrue (kept j)) 0 (kept_below kept (length xs)) i (each-kept kept (length xs)) li in
    record {
      number = get_or (kept_below kept (length xs)) i 0;
      inside = here.0;
      is_kept = here.1;
      is = get-map (λ j. f (get_or xs j d)) (kept_below kept (length xs)) i 0 d li;
    }

-- what holds of each kept member as it is changed holds of each member of the list of them
pub each-member : {X : Type 0} (P : X → Type 0) (f : X → X) (d : X) (kept : ℕ → Bool) (xs : List X) →
    ((j : ℕ) → j < length xs → IsTrue (kept j) → P (f (get_or xs j d))) → AllByRecursion P (members_kept f d kept xs)
each-member P f d kept xs h =
    each-map P (λ j. f (get_or xs j d)) (kept_below kept (length xs))
    (each-from (λ j. (j < length xs) × IsTrue (kept j)) (λ j. P (f (get_or xs j d))) (kept_below kept (length xs)) (λ j k. h j k.0 k.1) (each-kept kept (length xs)))
