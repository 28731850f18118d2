-- Shares in order: those after an own action and an observation, and how many there are.
use Rattle.std.proofs.Common.{◌≡◌, ℕ, zero, suc, ◌+◌, ◌-◌, ◌<◌, ◌≤◌, Bool, true, false, cond, ◌==◌, ◌&&◌, ◌||◌, ltb, List, [], ◌∷◌, length, get_or, map, take, drop, filter, refl, ap, arith, sym, subst, ◌∙◌, inl, inr, ◌⊎◌, length-drop}
use Rattle.std.specs.Prelude.{pos}
use Rattle.std.specs.Bool.{Decides}
use Rattle.std.specs.List.{AllByRecursion}
use Rattle.std.specs.List.Sorted.{IsPartitionedBy, IsPartitionPoint}
use Rattle.std.proofs.lemmas.Bool.Decides.{Decides-and, Decides-eqb, Decides-ltb, Decides-or, not_from_Decides}
use Rattle.std.proofs.lemmas.List.{get_or-drop}
use Rattle.scaled_num.proofs.Sums.{each-at}
use Rattle.game_model.specs.Branches.{AreRising, Branch, IsBranchBefore, branch_of}
use Rattle.game_model.proofs.Pay.{each-from}
use Rattle.belief.proofs.Windows.{filter-window}
use Rattle.point_set.specs.Members.{IsAfter}
use Rattle.game_model.specs.declared.branches.Branch.{Branch as ShareParts}

abbrev pub no_share : ShareParts
no_share = record { a = 0; o = 0; k = 0; weight = pos 0 }

abbrev pub IsAhead : ℕ → ℕ → ShareParts → Type 0
IsAhead a o share = (share.a < a) ⊎ ((share.a ≡ a) × (share.o < o))

abbrev pub ahead : ℕ → ℕ → ShareParts → Bool
ahead a o share = ltb share.a a || ((share.a == a) && ltb share.o o)

ahead-decides : (a o : ℕ) (share : ShareParts) → Decides (ahead a o share) (IsAhead a o share)
ahead-decides a o share = Decides-or _ _ (Decides-ltb share.a a) (Decides-and _ _ (Decides-eqb share.a a) (Decides-ltb share.o o))

after-decides : (a o : ℕ) (share : ShareParts) → Decides (IsAfter a o share) ((share.a ≡ a) × (share.o ≡ o))
after-decides a o share = Decides-and _ _ (Decides-eqb share.a a) (Decides-eqb share.o o)

before-trans : (b d e : Branch) → IsBranchBefore b d → IsBranchBefore d e → IsBranchBefore b e
before-trans b d e h k = search arith

abbrev IsLater : ShareParts → ShareParts → Type 0
IsLater x y = IsBranchBefore (branch_of x) (branch_of y)

-- a share stands before all later ones
later : (x : ShareParts) (xs : List ShareParts) → AreRising (map branch_of (x ∷ xs)) → AllByRecursion (IsLater x) xs
later x [] h = tt
later x (y ∷ ys) h = (h.0, each-from (IsLater y) (IsLater x) ys (λ s k. before-trans (branch_of x) (branch_of y) (branch_of s) h.0 k) (later y ys h.1))

rest-rises : (x : ShareParts) (xs : List ShareParts) → AreRising (map branch_of (x ∷ xs)) → AreRising (map branch_of xs)
rest-rises x [] h = tt
rest-rises x (y ∷ ys) h = h.1

abbrev IsUpTo : ShareParts → ShareParts → Type 0
IsUpTo x y = (x.a < y.a) ⊎ ((x.a ≡ y.a) × (x.o ≤ y.o))

before-upto : (x y : ShareParts) → IsLater x y → IsUpTo x y
before-upto x y h = search arith

upto-self : (x : ShareParts) → IsUpTo x x
upto-self x = inr (refl, omega arith)

in-order : (xs : List ShareParts) → AreRising (map branch_of xs) → (i j : ℕ) (d : ShareParts) → i ≤ j → j < length xs → IsUpTo (get_or xs i d) (get_or xs j d)
in-order [] h i j d le lt = absurd (omega arith)
in-order (x ∷ xs) h zero zero d le lt = upto-self x
in-order (x ∷ xs) h zero (suc j) d le lt = before-upto x (get_or xs j d) (each-at (IsLater x) d xs j (later x xs h) (omega arith))
in-order (x ∷ xs) h (suc i) zero d le lt = absurd (omega arith)
in-order (x ∷ xs) h (suc i) (suc j) d le lt = in-order xs (rest-rises x xs h) i j d (omega arith) (omega arith)

upto-ahead : (a o : ℕ) (x y : ShareParts) → IsUpTo x y → IsAhead a o y → IsAhead a o x
upto-ahead a o x y h k = search arith

-- what the two searches ask
pub ahead-parted : (a o : ℕ) (xs : List ShareParts) → AreRising (map branch_of xs) → IsPartitionedBy (ahead a o) xs
ahead-parted a o xs h i j d le lt e =
    (ahead-decides a o (get_or xs i d)).1 (upto-ahead a o (get_or xs i d) (get_or xs j d) (in-order xs h i j d le lt) ((ahead-decides a o (get_or xs j d)).0 e))

between : (a o : ℕ) (x y : ShareParts) → IsUpTo x y → (IsAhead a o x → ⊥) → (y.a ≡ a) × (y.o ≡ o) → (x.a ≡ a) × (x.o ≡ o)
between a o x y h ne e = search arith

pub after-parted : (a o : ℕ) (xs : List ShareParts) (s : ℕ) → AreRising (map branch_of xs) → IsPartitionPoint (λ y. ahead a o y ≡ true) (λ y. ahead a o y ≡ false) xs s → IsPartitionedBy (IsAfter a o) (drop s xs)
after-parted a o xs s h point i j d le lt e =
    let x : ShareParts = get_or xs (s + i) d in
    let y : ShareParts = get_or xs (s + j) d in
    let at_i : get_or (drop s xs) i d ≡ x = get_or-drop s xs i d in
    let at_j : get_or (drop s xs) j d ≡ y = get_or-drop s xs j d in
    let here : (y.a ≡ a) × (y.o ≡ o) = (after-decides a o y).0 (subst (λ (z : ShareParts). IsAfter a o z ≡ true) at_j e) in
    let behind : IsAhead a o x → ⊥ = not_from_Decides (ahead a o x) (ahead-decides a o x) (point.1 (s + i) d (omega arith) (omega (arith, length-drop s xs))) in
    subst (λ (z : ShareParts). IsAfter a o z ≡ true) (sym at_i) ((after-decides a o x).1 (between a o x y (in-order xs h (s + i) (s + j) d (omega arith) (omega (arith, length-drop s xs))) behind here))

not-after : (a o : ℕ) (x : ShareParts) → IsAhead a o x → IsAfter a o x ≡ false
not-after a o x h = elim (IsAfter a o x) as (λ b. (b ≡ true → (x.a ≡ a) × (x.o ≡ o)) → b ≡ false) [ true ↦ (λ f. let e = f refl in absurd (apart e.0 e.1)) | false ↦ (λ f. refl) ] (after-decides a o x).0
  where
    apart : x.a ≡ a → x.o ≡ o → ⊥
    apart p q = elim h [ inl l ↦ omega arith | inr r ↦ omega (arith, r.1) ]

pub shares-window : (a o : ℕ) (xs : List ShareParts) (s n : ℕ) → s ≤ length xs → n ≤ length (drop s xs) → IsPartitionPoint (λ y. ahead a o y ≡ true) (λ y. ahead a o y ≡ false) xs s →
    IsPartitionPoint (λ y. IsAfter a o y ≡ true) (λ y. IsAfter a o y ≡ false) (drop s xs) n → take n (drop s xs) ≡ filter (IsAfter a o) xs
shares-window a o xs s n ls ln first second =
    sym (filter-window (IsAfter a o) no_share xs s n (omega (arith, length-drop s xs))
    (λ i l. not-after a o (get_or xs i no_share) ((ahead-decides a o (get_or xs i no_share)).0 (first.0 i no_share (omega arith) l)))
    (λ i l m. at i l ∙ second.0 (i - s) no_share (omega arith) (omega arith))
    (λ i l m. at i (omega arith) ∙ second.1 (i - s) no_share (omega arith) (omega (arith, length-drop s xs))))
  where
    at : (i : ℕ) → s ≤ i → IsAfter a o (get_or xs i no_share) ≡ IsAfter a o (get_or (drop s xs) (i - s) no_share)
    at i l = let same : s + (i - s) ≡ i = omega arith in sym (ap (IsAfter a o) (get_or-drop s xs (i - s) no_share) ∙ ap (λ (k : ℕ). IsAfter a o (get_or xs k no_share)) same)

-- members that rise are no more than there are numbers
few-from : (a o most m : ℕ) (xs : List ShareParts) → AreRising (map branch_of xs) → AllByRecursion (λ (x : ShareParts). x.k < most) xs →
    AllByRecursion (λ (x : ShareParts). IsAfter a o x ≡ true → m ≤ x.k) xs → m ≤ most → length (filter (IsAfter a o) xs) + m ≤ most
few-from a o most m [] rising named from l = omega arith
few-from a o most m (x ∷ xs) rising named from l =
    elim (IsAfter a o x) as (λ b. IsAfter a o x ≡ b → length (cond b (x ∷ filter (IsAfter a o) xs) (filter (IsAfter a o) xs)) + m ≤ most) [
      | true ↦ (λ e. let low : m ≤ x.k = from.0 e in
          omega (arith, few-from a o most (x.k + 1) xs (rest-rises x xs rising) named.1 (each-from (IsLater x) _ xs (λ y k f. above x y e k f) (later x xs rising)) (omega (arith, named.0))))
      | false ↦ (λ e. few-from a o most m xs (rest-rises x xs rising) named.1 from.1 l)
    ] refl
  where
    members : (x y : ShareParts) → x.a ≡ a → x.o ≡ o → y.a ≡ a → y.o ≡ o → IsLater x y → x.k + 1 ≤ y.k
    members x y p q r s h = search arith

    above : (x y : ShareParts) → IsAfter a o x ≡ true → IsLater x y → IsAfter a o y ≡ true → x.k + 1 ≤ y.k
    above x y e h f = let i = (after-decides a o x).0 e in let j = (after-decides a o y).0 f in members x y i.0 i.1 j.0 j.1 h

pub few-shares : (a o most : ℕ) (xs : List ShareParts) → AreRising (map branch_of xs) → AllByRecursion (λ (x : ShareParts). x.k < most) xs → length (filter (IsAfter a o) xs) ≤ most
few-shares a o most xs rising named =
    omega (arith, few-from a o most 0 xs rising named (each-from (λ (x : ShareParts). x.k < most) _ xs (λ x h f. omega arith) named) (omega arith))
