-- Branches that are written pair by pair: of an own action and an observation in order, and of rising members there.
use Rattle.std.proofs.Common.{◌≡◌, ℕ, zero, suc, ◌<◌, ◌≤◌, ◌+◌, ◌++◌, ◌∷◌, [], List, Bool, true, false, cond, length, map, refl, sym, ap, ap₂, ◌∙◌, inl, inr, arith, eq-eqb}
use Rattle.std.specs.Prelude.{ℤ, filter, flat_map, slice_index, ◌&&◌, ◌==◌}
use Rattle.std.specs.List.{AllByRecursion, range_with_len}
use Rattle.std.proofs.lemmas.Bool.{cases_eq, ne_eqb}
use Rattle.std.proofs.lemmas.List.{append-nil}
use Rattle.std.proofs.lemmas.List.Elements.{filter-append}
use Rattle.scaled_num.proofs.Sums.{below-each, each-append, each-flat_map, from-each}
use Rattle.scaled_num.specs.Sums.{below}
use Rattle.game_model.specs.Branches.{AreRising, Branch, IsBranchBefore, branches_at}
use Rattle.game_model.specs.Game.{GameData}
use Rattle.stage_game.specs.AdviceData.{listed, listed_one}
use Rattle.stage_game.specs.Asked.{AreRisingNumbers}
use Rattle.stage_game.specs.Masses.{over_pairs}

-- each branch is before all that follow
abbrev pub AllBefore : List Branch → Type 0
AllBefore [] = Unit {0}
AllBefore (b ∷ rest) = AllByRecursion (IsBranchBefore b) rest × AllBefore rest

pub before-rising : (branches : List Branch) → AllBefore branches → AreRising branches
before-rising [] h = tt
before-rising (b ∷ []) h = tt
before-rising (b ∷ d ∷ rest) h = (h.0.0, before-rising (d ∷ rest) h.1)

before-append : (xs ys : List Branch) → AllBefore xs → AllBefore ys → AllByRecursion (λ x. AllByRecursion (IsBranchBefore x) ys) xs → AllBefore (xs ++ ys)
before-append [] ys p q h = q
before-append (x ∷ xs) ys p q h = (each-append (IsBranchBefore x) xs ys p.0 h.0, before-append xs ys p.1 q h.1)

each-kept : {X : Type 0} (P : X → Type 0) (b : Bool) (x : X) (xs : List X) → P x → AllByRecursion P xs → AllByRecursion P (cond b (x ∷ xs) xs)
each-kept P true x xs p h = (p, h)
each-kept P false x xs p h = h

pub each-filter : {X : Type 0} (P : X → Type 0) (test : X → Bool) (xs : List X) → AllByRecursion P xs → AllByRecursion P (filter test xs)
each-filter P test [] h = tt
each-filter P test (x ∷ xs) h = each-kept P (test x) x (filter test xs) h.0 (each-filter P test xs h.1)

before-kept : (b : Bool) (x : Branch) (xs : List Branch) → AllByRecursion (IsBranchBefore x) xs → AllBefore xs → AllBefore (cond b (x ∷ xs) xs)
before-kept true x xs p h = (p, h)
before-kept false x xs p h = h

pub before-filter : (test : Branch → Bool) (xs : List Branch) → AllBefore xs → AllBefore (filter test xs)
before-filter test [] h = tt
before-filter test (x ∷ xs) h = before-kept (test x) x (filter test xs) (each-filter (IsBranchBefore x) test xs h.0) (before-filter test xs h.1)

pub each-weaker : {X : Type 0} (P Q : X → Type 0) → ((x : X) → P x → Q x) → (xs : List X) → AllByRecursion P xs → AllByRecursion Q xs
each-weaker P Q h [] p = tt
each-weaker P Q h (x ∷ xs) p = (h x p.0, each-weaker P Q h xs p.1)

-- lists one behind another, where the branches of an earlier one are before those of a later one
before-range : (f : ℕ → List Branch) (Key : ℕ → Branch → Type 0) (a n : ℕ) → ((i j : ℕ) (b d : Branch) → i < j → Key i b → Key j d → IsBranchBefore b d)
    → ((i : ℕ) → i < a + n → AllBefore (f i)) → ((i : ℕ) → i < a + n → AllByRecursion (Key i) (f i)) → AllBefore (flat_map f (range_with_len a n))
before-range f Key a zero order inner keys = tt
before-range f Key a (suc n) order inner keys =
    before-append (f a) (flat_map f (range_with_len (a + 1) n)) (inner a (omega arith))
    (before-range f Key (a + 1) n order (λ i l. inner i (omega arith)) (λ i l. keys i (omega arith)))
    (each-weaker (Key a) (λ b. AllByRecursion (IsBranchBefore b) (flat_map f (range_with_len (a + 1) n)))
    (λ b here. each-flat_map (IsBranchBefore b) f (range_with_len (a + 1) n)
    (from-each (λ j. AllByRecursion (IsBranchBefore b) (f j)) (a + 1) n
    (λ j low high. each-weaker (Key j) (IsBranchBefore b) (λ d there. order a j b d (omega arith) here there) (f j) (keys j (omega arith)))))
    (f a) (keys a (omega arith)))

-- a branch after an own action and an observation
abbrev pub IsAt : ℕ → ℕ → Branch → Type 0
IsAt a o b = (b.own ≡ a) × (b.seen ≡ o)

-- what is written after each pair
pub record ArePlaced (g : GameData) (after : ℕ → ℕ → List Branch) : Type 0 where
  pub before : (a o : ℕ) → a < g.shape.own_actions → o < g.shape.observations → AllBefore (after a o)
  pub places : (a o : ℕ) → a < g.shape.own_actions → o < g.shape.observations → AllByRecursion (IsAt a o) (after a o)

pub over-pairs-rising : (g : GameData) (after : ℕ → ℕ → List Branch) → ArePlaced g after → AreRising (over_pairs g after)
over-pairs-rising g after are =
    before-rising (over_pairs g after)
    (before-range (λ a. flat_map (λ o. after a o) (below g.shape.observations)) (λ a b. b.own ≡ a) 0 g.shape.own_actions
    (λ i j b d l p q. inl (omega arith))
    (λ a la. before-range (λ o. after a o) (λ o b. IsAt a o b) 0 g.shape.observations
    (λ i j b d l p q. inr (p.0 ∙ sym q.0, inl (omega (arith, p.1, q.1))))
    (λ o lo. are.before a o (omega arith) (omega arith)) (λ o lo. are.places a o (omega arith) (omega arith)))
    (λ a la. each-flat_map (λ b. b.own ≡ a) (λ o. after a o) (below g.shape.observations)
    (below-each (λ o. AllByRecursion (λ b. b.own ≡ a) (after a o)) g.shape.observations
    (λ o lo. each-weaker (IsAt a o) (λ b. b.own ≡ a) (λ b h. h.0) (after a o) (are.places a o (omega arith) lo)))))

pub over-pairs-each : (P : Branch → Type 0) (g : GameData) (after : ℕ → ℕ → List Branch) → ((a o : ℕ) → a < g.shape.own_actions → o < g.shape.observations → AllByRecursion P (after a o))
    → AllByRecursion P (over_pairs g after)
over-pairs-each P g after h =
    each-flat_map P (λ a. flat_map (λ o. after a o) (below g.shape.observations)) (below g.shape.own_actions)
    (below-each (λ a. AllByRecursion P (flat_map (λ o. after a o) (below g.shape.observations))) g.shape.own_actions
    (λ a la. each-flat_map P (λ o. after a o) (below g.shape.observations)
    (below-each (λ o. AllByRecursion P (after a o)) g.shape.observations (λ o lo. h a o la lo))))

-- ---- the branches of one pair
filter-flat_map : {X : Type 0} (test : X → Bool) (f : ℕ → List X) (is : List ℕ) → filter test (flat_map f is) ≡ flat_map (λ i. filter test (f i)) is
filter-flat_map test f [] = refl
filter-flat_map test f (i ∷ is) = filter-append test (f i) (flat_map f is) ∙ ap (λ (xs : List _). filter test (f i) ++ xs) (filter-flat_map test f is)

nothing-in : {X : Type 0} (f : ℕ → List X) (a n : ℕ) → ((i : ℕ) → a ≤ i → i < a + n → f i ≡ []) → flat_map f (range_with_len a n) ≡ []
nothing-in f a zero h = refl
nothing-in f a (suc n) h = ap₂ (λ xs ys. xs ++ ys) (h a (omega arith) (omega arith)) (nothing-in f (a + 1) n (λ i low high. h i (omega arith) (omega arith)))

-- where only one of the lists has something
one-in : {X : Type 0} (f : ℕ → List X) (a n i : ℕ) → a ≤ i → i < a + n → ((j : ℕ) → a ≤ j → j < a + n → (j ≡ i → ⊥) → f j ≡ []) → flat_map f (range_with_len a n) ≡ f i
one-in f a zero i low high h = absurd (omega arith)
one-in f a (suc n) i low high h = elim (cases_eq a i) [
  | inl e ↦ ap₂ (λ xs ys. xs ++ ys) (ap f e) (nothing-in f (a + 1) n (λ j l k. h j (omega arith) (omega arith) (λ same. absurd (omega arith)))) ∙ append-nil (f i)
  | inr ne ↦ ap₂ (λ xs ys. xs ++ ys) (h a (omega arith) (omega arith) ne) (one-in f (a + 1) n i (omega arith) (omega arith) (λ j l k m. h j (omega arith) (omega arith) m))
]

abbrev is_at : ℕ → ℕ → Branch → Bool
is_at a o b = (b.own == a) && (b.seen == o)

all-pass : (test : Branch → Bool) (P : Branch → Type 0) → ((b : Branch) → P b → test b ≡ true) → (xs : List Branch) → AllByRecursion P xs → filter test xs ≡ xs
all-pass test P h [] p = refl
all-pass test P h (x ∷ xs) p = ap (λ (b : Bool). cond b (x ∷ filter test xs) (filter test xs)) (h x p.0) ∙ ap (λ (ys : List Branch). x ∷ ys) (all-pass test P h xs p.1)

none-pass : (test : Branch → Bool) (P : Branch → Type 0) → ((b : Branch) → P b → test b ≡ false) → (xs : List Branch) → AllByRecursion P xs → filter test xs ≡ []
none-pass test P h [] p = refl
none-pass test P h (x ∷ xs) p = ap (λ (b : Bool). cond b (x ∷ filter test xs) (filter test xs)) (h x p.0) ∙ none-pass test P h xs p.1

at-passes : (a o : ℕ) (b : Branch) → IsAt a o b → is_at a o b ≡ true
at-passes a o b h = ap (λ t. t && (b.seen == o)) (eq-eqb b.own a h.0) ∙ eq-eqb b.seen o h.1

own-fails : (a o c : ℕ) → (c ≡ a → ⊥) → (b : Branch) → b.own ≡ c → is_at a o b ≡ false
own-fails a o c ne b h = ap (λ t. t && (b.seen == o)) (ne_eqb b.own a (λ e. ne (sym h ∙ e)))

seen-fails : (a o p : ℕ) → (p ≡ o → ⊥) → (b : Branch) → IsAt a p b → is_at a o b ≡ false
seen-fails a o p ne b h = ap (λ t. t && (b.seen == o)) (eq-eqb b.own a h.0) ∙ ne_eqb b.seen o (λ e. ne (sym h.1 ∙ e))

pub branches-of-pair : (g : GameData) (after : ℕ → ℕ → List Branch) (a o : ℕ) → a < g.shape.own_actions → o < g.shape.observations
    → ((c p : ℕ) → c < g.shape.own_actions → p < g.shape.observations → AllByRecursion (IsAt c p) (after c p)) → branches_at (over_pairs g after) a o ≡ after a o
branches-of-pair g after a o la lo places =
    filter-flat_map (is_at a o) (λ c. flat_map (λ p. after c p) (below g.shape.observations)) (below g.shape.own_actions)
    ∙ one-in (λ c. filter (is_at a o) (flat_map (λ p. after c p) (below g.shape.observations))) 0 g.shape.own_actions a (omega arith) (omega arith)
    (λ c low lc ne. filter-flat_map (is_at a o) (λ p. after c p) (below g.shape.observations)
    ∙ nothing-in (λ p. filter (is_at a o) (after c p)) 0 g.shape.observations
    (λ p low lp. none-pass (is_at a o) (IsAt c p) (λ b h. own-fails a o c ne b h.0) (after c p) (places c p (omega arith) (omega arith))))
    ∙ filter-flat_map (is_at a o) (λ p. after a p) (below g.shape.observations)
    ∙ one-in (λ p. filter (is_at a o) (after a p)) 0 g.shape.observations o (omega arith) (omega arith)
    (λ p low lp ne. none-pass (is_at a o) (IsAt a p) (seen-fails a o p ne) (after a p) (places a p la (omega arith)))
    ∙ all-pass (is_at a o) (IsAt a o) (at-passes a o) (after a o) (places a o la lo)

-- ---- listed members
-- numbers that rise are in order by place
pub rising-at : (xs : List ℕ) → AreRisingNumbers xs → (i j : ℕ) → i < j → j < length xs → slice_index xs i < slice_index xs j
rising-at [] h i j l k = absurd (omega arith)
rising-at (x ∷ []) h i j l k = absurd (omega arith)
rising-at (x ∷ y ∷ xs) h zero zero l k = absurd (omega arith)
rising-at (x ∷ y ∷ xs) h zero (suc zero) l k = h.0
rising-at (x ∷ y ∷ xs) h zero (suc (suc j)) l k =
    let next : y < slice_index (y ∷ xs) (suc j) = rising-at (y ∷ xs) h.1 0 (suc j) (omega arith) (omega arith) in
    omega (arith, h.0)
rising-at (x ∷ y ∷ xs) h (suc i) zero l k = absurd (omega arith)
rising-at (x ∷ y ∷ xs) h (suc i) (suc j) l k = rising-at (y ∷ xs) h.1 i j (omega arith) (omega arith)

map-before : (f : ℕ → Branch) (a n : ℕ) → ((i j : ℕ) → i < j → j < a + n → IsBranchBefore (f i) (f j)) → AllBefore (map f (range_with_len a n))
map-before f a zero h = tt
map-before f a (suc n) h = (
  each-of (a + 1) n (λ j low high. h a j (omega arith) (omega arith)),
  map-before f (a + 1) n (λ i j l k. h i j l (omega arith)),
)
  where
    each-of : (c m : ℕ) → ((j : ℕ) → c ≤ j → j < c + m → IsBranchBefore (f a) (f j)) → AllByRecursion (IsBranchBefore (f a)) (map f (range_with_len c m))
    each-of c zero h = tt
    each-of c (suc m) h = (h c (omega arith) (omega arith), each-of (c + 1) m (λ j low high. h j (omega arith) (omega arith)))

pub map-each : {X : Type 0} (P : X → Type 0) (f : ℕ → X) (a n : ℕ) → ((i : ℕ) → i < a + n → P (f i)) → AllByRecursion P (map f (range_with_len a n))
map-each P f a zero h = tt
map-each P f a (suc n) h = (h a (omega arith), map-each P f (a + 1) n (λ i l. h i (omega arith)))

pub listed-before : (a o : ℕ) (members : List ℕ) (weights : List ℤ) → AreRisingNumbers members → AllBefore (listed a o members weights)
listed-before a o members weights rising =
    map-before (listed_one a o members weights) 0 (length members)
    (λ i j l k. inr (refl, inr (refl, rising-at members rising i j l (omega arith))))

pub listed-at : (a o : ℕ) (members : List ℕ) (weights : List ℤ) → AllByRecursion (IsAt a o) (listed a o members weights)
listed-at a o members weights =
    map-each (IsAt a o) (listed_one a o members weights) 0 (length members) (λ i l. (refl, refl))
