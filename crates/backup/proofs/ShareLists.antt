-- The lists of shares as they grow.
use Rattle.std.proofs.Common.{◌≡◌, ℕ, zero, suc, ◌+◌, ◌<◌, Bool, true, false, cond, List, [], ◌∷◌, ◌++◌, map, filter, refl, ap, arith, sym, ◌∙◌, append_assoc, append-nil}
use Rattle.std.specs.Prelude.{ℤ, pos, negsuc, flat_map, unsigned_abs, FitsSigned}
use Rattle.std.specs.Int.{w128}
use Rattle.std.proofs.Common.{of_z, ltb}
use Rattle.std.proofs.lemmas.Bool.{lt-ltb}
use Rattle.std.proofs.lemmas.Int.{fits_signed_from_abs}
use Rattle.point_set.proofs.Named.{same-bits}
use Rattle.std.specs.List.{AllByRecursion, range_with_len}
use Rattle.std.proofs.lemmas.List.{map-append}
use Rattle.std.proofs.lemmas.List.Elements.{filter-append}
use Rattle.std.proofs.lemmas.List.FromFn.{filter_of_map_range_with_len_more}
use Rattle.std.proofs.lemmas.Grind.{flat_map-append}
use Rattle.scaled_num.specs.Sums.{below}
use Rattle.scaled_num.proofs.Sums.{below-each}
use Rattle.game_model.specs.Branches.{Branch, branch_of}
use Rattle.game_model.specs.Game.{GameData}
use Rattle.belief.specs.Mixes.{MixesData}
use Rattle.game_model.specs.declared.branches.Branch.{Branch as Share}
use Rattle.backup.specs.Seeds.{has_weight}
use Rattle.backup.specs.Shares.{first_shares, own_shares, row_shares, seen_shares}

row-more : (w : ℕ → ℤ) (a o t : ℕ) →
    filter has_weight (row_shares w a o (t + 1)) ≡ filter has_weight (row_shares w a o t) ++ cond (has_weight (record { own = a; seen = o; member = t; weight = w t })) ((record { own = a; seen = o; member = t; weight = w t }) ∷ []) []
row-more w a o t = filter_of_map_range_with_len_more has_weight (λ u. record { own = a; seen = o; member = u; weight = w u }) 0 t t (omega arith)

-- a share with a weight is added
pub row-taken : (w : ℕ → ℤ) (a o t : ℕ) (old : List Branch) (xs ys : List Share) (x : Share) → ys ≡ xs ++ x ∷ [] → branch_of x ≡ (record { own = a; seen = o; member = t; weight = w t }) →
    has_weight (record { own = a; seen = o; member = t; weight = w t }) ≡ true → map branch_of xs ≡ old ++ filter has_weight (row_shares w a o t) → map branch_of ys ≡ old ++ filter has_weight (row_shares w a o (t + 1))
row-taken w a o t old xs ys x is same weighs before =
    let b : Branch = record { own = a; seen = o; member = t; weight = w t } in
    ap (λ (zs : List Share). map branch_of zs) is ∙ map-append branch_of xs (x ∷ [])
    ∙ ap (λ (z : Branch). map branch_of xs ++ z ∷ []) same
    ∙ ap (λ (zs : List Branch). zs ++ b ∷ []) before
    ∙ append_assoc old (filter has_weight (row_shares w a o t)) (b ∷ [])
    ∙ ap (λ (zs : List Branch). old ++ zs) (sym (row-more w a o t ∙ ap (λ (c : Bool). filter has_weight (row_shares w a o t) ++ cond c (b ∷ []) []) weighs))

-- and one with none is left out
pub row-left : (w : ℕ → ℤ) (a o t : ℕ) (old : List Branch) (xs ys : List Share) → ys ≡ xs →
    has_weight (record { own = a; seen = o; member = t; weight = w t }) ≡ false → map branch_of xs ≡ old ++ filter has_weight (row_shares w a o t) → map branch_of ys ≡ old ++ filter has_weight (row_shares w a o (t + 1))
row-left w a o t old xs ys is weighs before =
    ap (λ (zs : List Share). map branch_of zs) is ∙ before
    ∙ ap (λ (zs : List Branch). old ++ zs) (sym (row-more w a o t ∙ ap (λ (c : Bool). filter has_weight (row_shares w a o t) ++ cond c ((record { own = a; seen = o; member = t; weight = w t }) ∷ []) []) weighs
    ∙ append-nil (filter has_weight (row_shares w a o t))))

-- rows with the same weights
map-same : {X : Type 0} (f g : ℕ → X) (xs : List ℕ) → AllByRecursion (λ i. f i ≡ g i) xs → map f xs ≡ map g xs
map-same f g [] h = refl
map-same f g (x ∷ xs) h = ap (λ (y : _). y ∷ map f xs) h.0 ∙ ap (λ (ys : List _). g x ∷ ys) (map-same f g xs h.1)

pub row-same : (v w : ℕ → ℤ) (a o m n : ℕ) → m ≡ n → ((t : ℕ) → t < n → v t ≡ w t) → row_shares v a o m ≡ row_shares w a o n
row-same v w a o m n e h =
    ap (row_shares v a o) e
    ∙ map-same (λ t. record { own = a; seen = o; member = t; weight = v t }) (λ t. record { own = a; seen = o; member = t; weight = w t }) (below n)
    (below-each _ n (λ t l. ap (λ (z : ℤ). record { own = a; seen = o; member = t; weight = z }) (h t l)))

-- lists of lists
below-from : (a n : ℕ) → range_with_len a (n + 1) ≡ range_with_len a n ++ (a + n) ∷ []
below-from a zero = ap (λ (k : ℕ). k ∷ []) (omega arith)
below-from a (suc n) =
    let next : a + 1 + n ≡ a + suc n = omega arith in
    let long : suc n + 1 ≡ suc (n + 1) = omega arith in
    ap (range_with_len a) long ∙ ap (λ (ys : List ℕ). a ∷ ys) (below-from (a + 1) n ∙ ap (λ (k : ℕ). range_with_len (a + 1) n ++ k ∷ []) next)

flat-more : (f : ℕ → List Branch) (n : ℕ) → filter has_weight (flat_map f (below (n + 1))) ≡ filter has_weight (flat_map f (below n)) ++ filter has_weight (f n)
flat-more f n =
    ap (λ (ns : List ℕ). filter has_weight (flat_map f ns)) (below-from 0 n ∙ ap (λ (k : ℕ). below n ++ k ∷ []) (omega arith))
    ∙ ap (filter has_weight) (flat_map-append f (below n) (n ∷ []) ∙ ap (λ (ys : List Branch). flat_map f (below n) ++ ys) (append-nil (f n)))
    ∙ filter-append has_weight (flat_map f (below n)) (f n)

pub own-more : (g : GameData) (belief : List ℤ) (mixes : MixesData) (a n : ℕ) (old xs ys : List Branch) → ys ≡ xs ++ filter has_weight (seen_shares g belief mixes a n) →
    xs ≡ old ++ filter has_weight (own_shares g belief mixes a n) → ys ≡ old ++ filter has_weight (own_shares g belief mixes a (n + 1))
own-more g belief mixes a n old xs ys is before =
    is ∙ ap (λ (zs : List Branch). zs ++ filter has_weight (seen_shares g belief mixes a n)) before
    ∙ append_assoc old (filter has_weight (own_shares g belief mixes a n)) (filter has_weight (seen_shares g belief mixes a n))
    ∙ ap (λ (zs : List Branch). old ++ zs) (sym (flat-more (seen_shares g belief mixes a) n))

pub first-more : (g : GameData) (belief : List ℤ) (mixes : MixesData) (n : ℕ) (xs ys : List Branch) → ys ≡ xs ++ filter has_weight (own_shares g belief mixes n g.shape.observations) →
    xs ≡ filter has_weight (first_shares g belief mixes n) → ys ≡ filter has_weight (first_shares g belief mixes (n + 1))
first-more g belief mixes n xs ys is before =
    is ∙ ap (λ (zs : List Branch). zs ++ filter has_weight (own_shares g belief mixes n g.shape.observations)) before
    ∙ sym (flat-more (λ a. own_shares g belief mixes a g.shape.observations) n)

-- the test as the code makes it, by the bits of a number
pub weighs : (x : ℤ) → (of_z w128 x ≡ 0 → ⊥) → ltb 0 (unsigned_abs x) ≡ true
weighs (pos zero) h = absurd (h refl)
weighs (pos (suc n)) h = lt-ltb 0 (suc n) (omega arith)
weighs (negsuc n) h = lt-ltb 0 (suc n) (omega arith)

pub weighs-not : (x : ℤ) → FitsSigned w128 x → of_z w128 x ≡ 0 → ltb 0 (unsigned_abs x) ≡ false
weighs-not x fits h = ap (λ (z : ℤ). ltb 0 (unsigned_abs z)) (same-bits x (pos 0) fits (fits_signed_from_abs w128 (pos 0) (omega arith)) h)
